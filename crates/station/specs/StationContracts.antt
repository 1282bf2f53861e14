-- Helpers of contracts: the program's outcomes, in the terms of the rules.
use Rattle.std.specs.Prelude.{ℕ, List, Result}
use Rattle.report.specs.declared.Refusal.{Refusal}
use Rattle.frame.specs.FrameContracts.{Written, written_of}
use Rattle.port.specs.declared.Called.{Called}
use Rattle.port.specs.declared.answer.Taken.{Taken}
use Rattle.port.specs.PortContracts.{taken_of, cancel_of}
use Rattle.restore.specs.declared.NotRestored.{NotRestored}
use Rattle.restore.specs.RestoreContracts.{restored_of}
use Rattle.station.specs.declared.Station.{Station}
use Rattle.station.specs.StationTaking.{TakeOutcome}
use Rattle.station.specs.StationCalls.{RequestOutcome, CancelOutcome, TickOutcome, RestoreOutcome}

-- what each call of the program that changes the station gives: its answer, and the next station
abbrev pub TakeCalled : Type 0
TakeCalled = Called (Result Taken Refusal) Station

abbrev pub RequestCalled : Type 0
RequestCalled = Called Written Station

abbrev pub CancelCalled : Type 0
CancelCalled = Called (Result (Unit {0}) Refusal) Station

abbrev pub TickCalled : Type 0
TickCalled = Called (List ℕ) Station

abbrev pub RestoreCalled : Type 0
RestoreCalled = Called (Result (Unit {0}) NotRestored) Station

abbrev pub take_outcome : TakeCalled → TakeOutcome
take_outcome r = record { answer = taken_of r.answer; station = r.next }

abbrev pub request_outcome : RequestCalled → List ℕ → RequestOutcome
request_outcome r lent = record { answer = written_of r.answer; station = r.next; lent = lent }

abbrev pub cancel_outcome : CancelCalled → CancelOutcome
cancel_outcome r = record { answer = cancel_of r.answer; station = r.next }

abbrev pub tick_outcome : TickCalled → TickOutcome
tick_outcome r = record { ended = r.answer; station = r.next }

abbrev pub restore_outcome : RestoreCalled → RestoreOutcome
restore_outcome r = record { answer = restored_of r.answer; station = r.next }
