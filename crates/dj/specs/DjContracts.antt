-- Helpers of contracts: the program's answers to a DJ report in the terms of the rules, and when the station may take its short way with a radio report.
use Rattle.std.specs.Prelude.{ℕ, Bool, cond, not, ◌&&◌, List, Option, Some, None, Result, Ok, Err}
use Rattle.report.specs.Refusals.{not_paired, not_declared, dirty_padding}
use Rattle.report.specs.declared.Refusal.{Refusal}
use Rattle.report.specs.ReportContracts.{number_of}
use Rattle.report.specs.Radio.{payload_length}
use Rattle.port.specs.declared.Port.{Port}
use Rattle.port.specs.declared.answer.Notice as program
use Rattle.port.specs.Answers as rules
use Rattle.port.specs.PortContracts.{notice_of}
use Rattle.dj.specs.Padding.{is_clean}
use Rattle.dj.specs.DjTaking.{is_declared}

-- none of 7, 8 and 17 applies
abbrev pub is_accepted : Bool → ℕ → ℕ → ℕ → List ℕ → Bool
is_accepted is_paired reports kind size bytes = is_paired && (is_declared reports kind && is_clean kind size bytes)

-- the payload's length, where the report is accepted; else 0
abbrev pub accepted_length : Bool → ℕ → ℕ → ℕ → List ℕ → ℕ
accepted_length is_paired reports kind size bytes = cond (is_accepted is_paired reports kind size bytes) (payload_length kind size) 0

-- the same where the report is accepted, and nothing where it is not: a length of 0 is another thing
abbrev pub length_accepted : Bool → ℕ → ℕ → ℕ → List ℕ → Option ℕ
length_accepted is_paired reports kind size bytes = cond (is_accepted is_paired reports kind size bytes) (Some (payload_length kind size)) None

-- 7, 8 or 17, or the payload's length
unfoldable pub acceptance : Bool → ℕ → ℕ → ℕ → List ℕ → Result ℕ ℕ
acceptance is_paired reports kind size bytes =
    cond (not is_paired) (Err not_paired)
    (cond (not (is_declared reports kind)) (Err not_declared)
    (cond (not (is_clean kind size bytes)) (Err dirty_padding)
    (Ok (payload_length kind size))))

abbrev pub accepted_of : Result ℕ Refusal → Result ℕ ℕ
accepted_of (Ok length) = Ok length
accepted_of (Err r) = Err (number_of r)

-- a notice of the program, and the port after it
abbrev pub noticed_by : program.Notice → Port → rules.Result
noticed_by what next = record { answer = rules.notice (notice_of what); port = next }
