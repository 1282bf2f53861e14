-- Helpers of contracts: what C is given by each exported function. Of a refusal it is the number, and 0 in every other field.
use Rattle.std.specs.Prelude.{ℕ, List, pos}
use Rattle.report.specs.Reading as reading
use Rattle.frame.specs.Writing as writing
use Rattle.mouse.specs.Movement as mouse
use Rattle.blotterfinch.specs.declared.Report.{Report}
use Rattle.blotterfinch.specs.declared.Written.{Written}
use Rattle.blotterfinch.specs.declared.Movement.{Movement}

abbrev pub c_whole : reading.Report → Report
c_whole r =
    record { refusal = 0; id = r.id; device = r.device; byte2 = r.byte2; byte3 = r.byte3; start = r.start; length = r.size }

abbrev pub c_report : reading.Read → Report
c_report (reading.refused number) =
    record { refusal = number; id = 0; device = 0; byte2 = 0; byte3 = 0; start = 0; length = 0 }
c_report (reading.hidpp r) = c_whole r
c_report (reading.dj r) = c_whole r
c_report (reading.empty_list r) = c_whole r

abbrev pub c_written : writing.WriteAnswer → Written
c_written (writing.refused number) = record { refusal = number; length = 0 }
c_written (writing.wrote size) = record { refusal = 0; length = size }

-- what a writer leaves: its result, and the lent buffer
pub record COutcome : Type 0 where
  pub result : Written
  pub lent : List ℕ

-- a rule's outcome, in C's terms
abbrev pub c_outcome : writing.WriteOutcome → COutcome
c_outcome outcome = record { result = c_written outcome.answer; lent = outcome.lent }

-- how a call ended: its result, and the buffer that it left
abbrev pub c_ended : Written → List ℕ → COutcome
c_ended written lent = record { result = written; lent = lent }

abbrev pub c_movement : mouse.Movement → Movement
c_movement (mouse.refused number) =
    record { buttons = 0; x = pos 0; y = pos 0; wheel = pos 0; pan = pos 0; refusal = number }
c_movement (mouse.moved buttons x y wheel pan) =
    record { buttons = buttons; x = x; y = y; wheel = wheel; pan = pan; refusal = 0 }
