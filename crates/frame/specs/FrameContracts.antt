-- Helpers of contracts: the program's frames and answers, in the terms of the rules.
use Rattle.std.specs.Prelude.{ℕ, List, ◌∷◌, Result, Ok, Err}
use Rattle.report.specs.Sizes.{dj_short}
use Rattle.report.specs.declared.Refusal.{Refusal}
use Rattle.report.specs.ReportContracts.{number_of}
use Rattle.frame.specs.Writing.{WriteAnswer, refused, wrote, WriteOutcome}
use Rattle.frame.specs.declared.Head.{Head}

-- bytes 0 to 3 of a frame
abbrev pub head_size : ℕ
head_size = 4

abbrev pub framed : Head → List ℕ → List ℕ
framed head rest = head.id ∷ head.device.0 ∷ head.byte2 ∷ head.byte3 ∷ rest

unfoldable pub dj_head : ℕ → ℕ → ℕ → Head
dj_head device kind p0 = record { id = dj_short; device = record { 0 = device }; byte2 = kind; byte3 = p0 }

-- what a writer of the program answers
abbrev pub Written : Type 0
Written = Result ℕ Refusal

abbrev pub written_of : Written → WriteAnswer
written_of (Err r) = refused (number_of r)
written_of (Ok n) = wrote n

-- how a writer ended: its answer, and the buffer that it left
abbrev pub written_outcome : Written → List ℕ → WriteOutcome
written_outcome written lent = record { answer = written_of written; lent = lent }
