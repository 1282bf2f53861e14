-- Document 01, "Writing": request, cancel and tick on the station; document 02, Ask 3: reading a store.
use Rattle.std.specs.Prelude.{ℕ, cond, not, List, map}
use Rattle.report.specs.Refusals.{no_such_port}
use Rattle.report.specs.Ports.{is_port}
use Rattle.frame.specs.Writing as writing
use Rattle.port.specs.declared.Port.{Port}
use Rattle.port.specs.Records.{with_places}
use Rattle.port.specs.Ticks.{tick_rule}
use Rattle.port.specs.Waiting as waiting
use Rattle.request.specs.Requesting.{RequestAt, request_at}
use Rattle.restore.specs.Restoring.{RestoreAnswer, Restoring, restore_ports}
use Rattle.station.specs.declared.Station.{Station}
use Rattle.station.specs.Stations.{position_of, port_at, with_port}

-- what a request gives: its answer, the next station, and the lent buffer after it
pub record RequestOutcome : Type 0 where
  pub answer : writing.WriteAnswer
  pub station : Station
  pub lent : List ℕ

-- the port's part of the outcome goes to its position
abbrev pub requested_at : Station → ℕ → RequestAt → RequestOutcome
requested_at st position r =
    record { answer = r.answer; station = with_port st position r.port; lent = r.lent }

-- 5, and then at the port
unfoldable pub request_rule : Station → ℕ → ℕ → ℕ → ℕ → List ℕ → ℕ → List ℕ → RequestOutcome
request_rule st device byte2 byte3 ticks params offset lent =
    cond (not (is_port device)) (record { answer = writing.refused no_such_port; station = st; lent = lent })
    (requested_at st (position_of device)
    (request_at (port_at st (position_of device)) device byte2 byte3 ticks params offset lent))

-- what a cancel gives: its answer, and the next station
pub record CancelOutcome : Type 0 where
  pub answer : waiting.CancelAnswer
  pub station : Station

abbrev pub cancelled_at : Station → ℕ → waiting.CancelResult → CancelOutcome
cancelled_at st position r = record { answer = r.answer; station = with_port st position r.port }

-- 5, 13
unfoldable pub cancel_rule : Station → ℕ → ℕ → ℕ → CancelOutcome
cancel_rule st device byte2 byte3 =
    cond (not (is_port device)) (record { answer = waiting.CancelAnswer.refused no_such_port; station = st })
    (cancelled_at st (position_of device) (waiting.cancel_at (port_at st (position_of device)) byte2 byte3))

-- what a tick gives: the counts of requests ended, ports 1 to 6 and then 255, and the next station
pub record TickOutcome : Type 0 where
  pub ended : List ℕ
  pub station : Station

unfoldable pub ticked_port : Port → Port
ticked_port p = with_places p (tick_rule p.places).places

unfoldable pub ended_on : Port → ℕ
ended_on p = (tick_rule p.places).ended

unfoldable pub tick_all : Station → TickOutcome
tick_all st = record { ended = map ended_on st.ports; station = record { ports = map ticked_port st.ports } }

-- what reading a store gives: its answer, and the next station
pub record RestoreOutcome : Type 0 where
  pub answer : RestoreAnswer
  pub station : Station

abbrev pub restored_to : Restoring → RestoreOutcome
restored_to r = record { answer = r.answer; station = record { ports = r.ports } }

-- 15, 16
unfoldable pub restore_rule : Station → List ℕ → RestoreOutcome
restore_rule st text = restored_to (restore_ports st.ports text)
