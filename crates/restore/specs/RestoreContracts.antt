-- Helpers of contracts: what the program read, in the terms of the rules.
use Rattle.std.specs.Prelude.{ℕ, List, Result, Ok, Err, Option, Some, None}
use Rattle.report.specs.ReportContracts.{number_of}
use Rattle.port.specs.declared.Called.{Called}
use Rattle.port.specs.declared.Port.{Port}
use Rattle.scan.specs.Scans.{Scan, found, then_scan}
use Rattle.scan.specs.ScanContracts.{capped}
use Rattle.restore.specs.declared.NotRestored.{NotRestored}
use Rattle.restore.specs.Restoring as rules

-- a refusal, with a line or without
abbrev pub refused_by : (number : ℕ) → Option ℕ → rules.RestoreAnswer
refused_by number None = rules.refused number
refused_by number (Some line) = rules.refused_at number line

abbrev pub restored_of : Result (Unit {0}) NotRestored → rules.RestoreAnswer
restored_of (Ok _) = rules.restored
restored_of (Err e) = refused_by (number_of e.refusal) e.line

abbrev pub restoring_of : Called (Result (Unit {0}) NotRestored) (List Port) → rules.Restoring
restoring_of r = record { answer = restored_of r.answer; ports = r.next }

-- the answer to a read of these ports, and the ports after it
abbrev pub restoring_by : List Port → Result (List Port) NotRestored → rules.Restoring
restoring_by ports (Ok next) = record { answer = rules.restored; ports = next }
restoring_by ports (Err e) = record { answer = refused_by (number_of e.refusal) e.line; ports = ports }

-- the first line, with its number as the program takes it
abbrev pub capped_edition : List ℕ → Scan ℕ
capped_edition text = then_scan (rules.edition_scan text) λ p rest. found (capped p.1) rest
