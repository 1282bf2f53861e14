-- A law of the writers: what a rule says of a frame's writer, it says of the call from C.
use Rattle.std.specs.Prelude.{List, ℕ, ◌≡◌}
use Rattle.std.proofs.Common.{ap, ◌∙◌}
use Rattle.frame.specs.Writing.{WriteAnswer, WriteOutcome}
use Rattle.blotterfinch.specs.declared.Written.{Written}
use Rattle.blotterfinch.specs.CContracts.{c_written, c_outcome, c_ended}

pub handed : {answer : WriteAnswer} {written : Written} {lent : List ℕ} {outcome : WriteOutcome} → written ≡ c_written answer → record { answer = answer; lent = lent } ≡ outcome → c_ended written lent ≡ c_outcome outcome
handed {lent = lent} given so = ap (λ (w : Written). c_ended w lent) given ∙ ap c_outcome so
