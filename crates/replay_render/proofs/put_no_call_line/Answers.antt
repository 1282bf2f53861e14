-- `replay_render::put_no_call_line` meets its contract.
use Rattle.text.proofs.PuttingLaws.{then_out}
use Rattle.replay_fields.proofs.PartsLaws.{answer_out}
use Rattle.replay_render.specs.AnswerLines.{no_call_text}
use Rattle.replay_render.proofs.put_no_call_line.Goals as goal

pub returns : goal.returns
unfolding no_call_text
returns c =
    answer_out tt (then_out c.word.ensures.put (then_out c.decimal.ensures.put c.word-2.ensures.put))
