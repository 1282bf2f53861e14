-- `replay_render::put_ended_line` meets its contract.
use native.Mathlib.Omega.{arith}
use Rattle.text.proofs.PuttingLaws.{out_at_most, then_out}
use Rattle.replay_fields.specs.AnswerFields.{answer_most}
use Rattle.replay_render.specs.AnswerLines.{ended_text}
use Rattle.replay_render.proofs.put_ended_line.Goals as goal

pub returns : goal.returns
unfolding ended_text
returns c =
    out_at_most answer_most (omega arith) (then_out c.word.ensures.put (then_out c.each.ensures.put c.byte.ensures.put))
