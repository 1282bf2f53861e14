-- `replay_render::put_report` meets its contract.
use Rattle.text.proofs.PuttingLaws.{then_out}
use Rattle.replay_fields.proofs.PartsLaws.{answer_out}
use Rattle.replay_render.specs.AnswerLines.{report_text}
use Rattle.replay_render.proofs.put_report.Goals as goal

pub returns : goal.returns
unfolding report_text
returns c =
    answer_out tt (then_out c.word.ensures.put (then_out c.put_code.ensures.put (then_out c.word-2.ensures.put (then_out c.put_code-2.ensures.put (then_out c.word-3.ensures.put (then_out c.put_code-3.ensures.put (then_out c.word-4.ensures.put (then_out c.put_code-4.ensures.put (then_out c.word-5.ensures.put (then_out c.small.ensures.put (then_out c.word-6.ensures.put (then_out c.small-2.ensures.put c.byte.ensures.put))))))))))))
