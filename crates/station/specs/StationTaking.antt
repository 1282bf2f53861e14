-- Document 01, and document 02, Ask 1: taking a report. Which port it is for goes by its bytes alone; what it does there is the port's rule. A reply on port 255 that gives a device's serial changes that device's port too: the two are all that a report may change.
use Rattle.std.specs.Prelude.{ℕ, List}
use Rattle.report.specs.Reading as reading
use Rattle.port.specs.Answers.{Answer, Result, refused, reply, stray, plain, event, failed, radio, notice, empty_list}
use Rattle.matching.specs.Messages.{message_of}
use Rattle.hidpp.specs.HidppTaking.{take_hidpp}
use Rattle.serial.specs.Serials.{Given, no_serial, serial_of, given_by, serial_rule}
use Rattle.dj.specs.DjTaking.{take_dj}
use Rattle.station.specs.declared.Station.{Station}
use Rattle.station.specs.Stations.{position_of, port_for, with_port}

-- what a take gives: its answer, and the next station
pub record TakeOutcome : Type 0 where
  pub answer : Answer
  pub station : Station

-- the port's part of the outcome goes to its position
abbrev pub stored_at : Station → ℕ → Result → TakeOutcome
stored_at st position r = record { answer = r.answer; station = with_port st position r.port }

-- a reply with this drop count
abbrev pub with_drops : ℕ → Answer → Answer
with_drops dropped (refused number) = refused number
with_drops dropped (reply before a) = reply dropped a
with_drops dropped (stray a) = stray a
with_drops dropped (plain a) = plain a
with_drops dropped (event a) = event a
with_drops dropped (failed a code kind) = failed a code kind
with_drops dropped (radio kind start size) = radio kind start size
with_drops dropped (notice n) = notice n

-- a serial that is given goes to its device's port, and the requests that it drops there are counted in the answer
abbrev pub also_at : Station → Given → TakeOutcome → TakeOutcome
also_at st no_serial o = o
also_at st (serial_of device number) o =
    record {
      answer = with_drops (serial_rule (port_for st device) number).dropped o.answer;
      station = with_port o.station (position_of device) (serial_rule (port_for st device) number).port;
    }

-- refused with 1 to 6, or for the port that the report names, or an empty list, which is for none
unfoldable pub take_by : reading.Read → List ℕ → Station → TakeOutcome
take_by (reading.refused number) bytes st = record { answer = refused number; station = st }
take_by (reading.empty_list r) bytes st = record { answer = notice empty_list; station = st }
take_by (reading.hidpp r) bytes st =
    also_at st (given_by (port_for st r.device) r bytes)
    (stored_at st (position_of r.device) (take_hidpp (port_for st r.device) (message_of r bytes)))
take_by (reading.dj r) bytes st =
    stored_at st (position_of r.device) (take_dj (port_for st r.device) r bytes)

unfoldable pub take_rule : Station → List ℕ → TakeOutcome
take_rule st bytes = take_by (reading.read_rule bytes) bytes st
