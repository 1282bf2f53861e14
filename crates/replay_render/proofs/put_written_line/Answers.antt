-- `replay_render::put_written_line` meets its contract: the two words.
use Prim.Native.Nat.{ℕ}
use mathlib.Core.Path.{ap}
use native.Mathlib.Omega.{arith}
use Rattle.text.specs.Words.{ascii}
use Rattle.text.proofs.PuttingLaws.{out_at_most, same_out}
use Rattle.replay_render.specs.AnswerLines.{outcome_text, written_text}
use Rattle.replay_render.proofs.put_written_line.Goals as goal

pub returns-in-Ok : goal.returns-in-Ok
unfolding written_text
returns-in-Ok c = rw c.in-Ok.is (out_at_most _ (omega arith) c.put_outcome.ensures)

pub returns-in-Err : goal.returns-in-Err
unfolding written_text
returns-in-Err c =
    rw c.in-Err.is (same_out (ap (λ (n : ℕ). outcome_text (ascii "refused ") n c.args.lent.now) c.from.ensures) c.put_outcome-in-Err.ensures)
