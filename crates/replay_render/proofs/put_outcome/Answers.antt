-- `replay_render::put_outcome` meets its contract.
use native.Mathlib.Omega.{arith}
use Rattle.text.proofs.PuttingLaws.{out_at_most, then_out}
use Rattle.replay_render.specs.AnswerLines.{outcome_text}
use Rattle.replay_render.proofs.put_outcome.Goals as goal

pub returns : goal.returns
unfolding outcome_text
returns c =
    out_at_most _ (omega arith) (then_out c.word.ensures.put (then_out c.decimal.ensures.put (then_out c.byte.ensures.put (then_out c.each.ensures.put c.byte-2.ensures.put))))
