-- Document 01, "Sequences of calls", and document 02, Asks 1 and 3: a call that begins no new sequence acts at its port alone, and a reply on 255 that gives a device's serial at that device's too. Laws of one step, by the call's target.
use Rattle.std.specs.Prelude.{ℕ, ◌≡◌, refl, Bool, true, false, cond, List, []}
use Rattle.std.proofs.Common.{sym, ◌∙◌, ap, true≢false}
use Rattle.report.specs.Ports.{receiver, is_device, is_port}
use Rattle.report.specs.Sizes.{byte}
use Rattle.report.specs.Reading as reading
use Rattle.frame.specs.Writing as writing
use Rattle.port.specs.declared.Port.{Port}
use Rattle.port.specs.Waiting.{cancel_at}
use Rattle.matching.specs.Messages.{message_of}
use Rattle.hidpp.specs.HidppTaking.{take_hidpp}
use Rattle.serial.specs.Serials.{parameter_for, Given, no_serial, serial_of, given_by, serial_rule}
use Rattle.serial.proofs.GivingLaws.{no_serial_law, given_exactly}
use Rattle.dj.specs.DjTaking.{take_dj}
use Rattle.request.specs.Requesting.{request_at}
use Rattle.restore.specs.Restoring.{StoreRead, store_of, of_other, broken_at, read_store, restored_by, restore_ports}
use Rattle.station.specs.declared.Station.{Station}
use Rattle.station.specs.Stations.{position_of, port_for, with_port}
use Rattle.station.proofs.StationsLaws.{same_port}
use Rattle.station.specs.StationTaking.{TakeOutcome, stored_at, also_at, take_by, take_rule}
use Rattle.station.specs.StationCalls.{restored_to, request_rule, cancel_rule, tick_all, restore_rule}
use Rattle.sequence.specs.Steps.{Writer, switch, get_paired, led, list, store, Call, take, request, cancel, tick, write, restore, taken, written, cancelled, Outcome, take_step, tick_step, write_step, restore_step, writer_rule, step, Returned, writer_row, target, is_store, begins}
use Rattle.sequence.specs.Targets.{Target, none, one, all, read_target}
use Rattle.sequence.specs.Remaining.{with_drops_in}
use Rattle.sequence.specs.Readings.{ReadFits}
use Rattle.sequence.proofs.ReadingsLaws.{dj_port, read_fits}

-- what a call gives at its port: what it returns, and the station after it
abbrev pub outcome_from : Returned → Station → Outcome
outcome_from r st = record { answer = r.answer; read = r.read; lent = r.lent; station = st }

-- and at the port of a device whose serial it gives
abbrev pub also_step : Station → Given → Outcome → Outcome
also_step st no_serial o = o
also_step st (serial_of device serial) o =
    record {
      answer = with_drops_in (serial_rule (port_for st device) serial).dropped o.answer;
      read = o.read;
      lent = o.lent;
      station = with_port o.station (position_of device) (serial_rule (port_for st device) serial).port;
    }

-- what a call does at its port, and returns, and which serial it gives, goes by the port alone. Only a call for 255 gives one, of the device that its report's first parameter is for
pub record AtPort (c : Call) (number : ℕ) : Type 0 where
  pub names : is_port number ≡ true
  pub next : Port → Port
  pub returns : Port → Returned
  pub given : Port → Given
  pub does : (st : Station) → step st c ≡ also_step st (given (port_for st number)) (outcome_from (returns (port_for st number)) (with_port st (position_of number) (next (port_for st number))))
  pub fits : (p : Port) (device serial : ℕ) → given p ≡ serial_of device serial → (number ≡ receiver) × ((is_device device ≡ true) × (byte (returns p).read 4 ≡ parameter_for device))

-- what a step is, by its target: for none the station stays; for all it is the tick
abbrev pub Shape : Call → Target → Type 0
Shape c none = (st : Station) → (step st c).station ≡ st
Shape c (one number) = AtPort c number
Shape c all = (st : Station) → step st c ≡ tick_step (tick_all st)

-- a call that gives no serial
module _ (c : Call) (number : ℕ) (next : Port → Port) (returns : Port → Returned) where
  at_port : is_port number ≡ true → ((st : Station) → step st c ≡ outcome_from (returns (port_for st number)) (with_port st (position_of number) (next (port_for st number)))) → AtPort c number
  at_port h e =
      record { names = h; next = next; returns = returns; given = λ p. no_serial; does = e; fits = λ p device serial q. absurd (no_serial_law q) }

take_shape : (bytes : List ℕ) (x : reading.Read) → reading.read_rule bytes ≡ x → ReadFits bytes x → Shape (take bytes) (read_target x)
unfolding step take_rule take_by
take_shape bytes (reading.refused number) e n = λ st. ap (λ (x : reading.Read). (take_by x bytes st).station) e
take_shape bytes (reading.hidpp r) e n =
    record {
      names = n.0;
      next = λ p. (take_hidpp p (message_of r bytes)).port;
      returns = λ p. record { answer = taken (take_hidpp p (message_of r bytes)).answer; read = bytes; lent = [] };
      given = λ p. given_by p r bytes;
      does = λ st. ap (λ (x : reading.Read). take_step bytes (take_by x bytes st)) e ∙ also st (given_by (port_for st r.device) r bytes) (stored_at st (position_of r.device) (take_hidpp (port_for st r.device) (message_of r bytes)));
      fits = λ p device serial q. let g = (given_exactly p r bytes device serial).0 q in (g.receiver, (g.named, g.repeated));
    }
  where
    also : (st : Station) (g : Given) (o : TakeOutcome) → take_step bytes (also_at st g o) ≡ also_step st g (take_step bytes o)
    also st no_serial o = refl
    also st (serial_of device serial) o = refl
take_shape bytes (reading.dj r) e n =
    at_port (take bytes) r.device (λ p. (take_dj p r bytes).port)
    (λ p. record { answer = taken (take_dj p r bytes).answer; read = bytes; lent = [] })
    (dj_port r.device r.byte2 n.1.0) (λ st. ap (λ (x : reading.Read). take_step bytes (take_by x bytes st)) e)
take_shape bytes (reading.empty_list r) e n = λ st. ap (λ (x : reading.Read). (take_by x bytes st).station) e

request_shape : (device byte2 byte3 ticks : ℕ) (params : List ℕ) (offset : ℕ) (lent : List ℕ) (b : Bool) → is_port device ≡ b → Shape (request device byte2 byte3 ticks params offset lent) (cond b (one device) none)
unfolding step request_rule
request_shape device byte2 byte3 ticks params offset lent true e =
    at_port (request device byte2 byte3 ticks params offset lent) device
    (λ p. (request_at p device byte2 byte3 ticks params offset lent).port)
    (λ p. let r = request_at p device byte2 byte3 ticks params offset lent in record { answer = written r.answer; read = params; lent = r.lent })
    e (λ st. simp e)
request_shape device byte2 byte3 ticks params offset lent false e = λ st. simp e

cancel_shape : (device byte2 byte3 : ℕ) (b : Bool) → is_port device ≡ b → Shape (cancel device byte2 byte3) (cond b (one device) none)
unfolding step cancel_rule
cancel_shape device byte2 byte3 true e =
    at_port (cancel device byte2 byte3) device (λ p. (cancel_at p byte2 byte3).port)
    (λ p. record { answer = cancelled (cancel_at p byte2 byte3).answer; read = []; lent = [] })
    e (λ st. simp e)
cancel_shape device byte2 byte3 false e = λ st. simp e

-- a writer that has a port looks at no station, and touches no record
written_at : (writer : Writer) (offset : ℕ) (lent : List ℕ) (number : ℕ) (o : writing.WriteOutcome) → is_port number ≡ true → ((st : Station) → writer_rule st writer offset lent ≡ o) → AtPort (write writer offset lent) number
unfolding step
written_at writer offset lent number o h e =
    at_port (write writer offset lent) number (λ p. p)
    (λ p. record { answer = written o.answer; read = []; lent = o.lent })
    h (λ st. ap (λ (x : writing.WriteOutcome). write_step st x) (e st) ∙ ap (outcome_from (record { answer = written o.answer; read = []; lent = o.lent })) (sym (same_port st (position_of number))))

write_shape : (writer : Writer) (offset : ℕ) (lent : List ℕ) → Shape (write writer offset lent) (writer_row writer).target
unfolding step
write_shape (switch bits timeout) offset lent = written_at (switch bits timeout) offset lent receiver _ refl (λ st. refl)
write_shape get_paired offset lent = written_at get_paired offset lent receiver _ refl (λ st. refl)
write_shape (led device leds) offset lent = go (is_device device) refl
  where
    go : (b : Bool) → is_device device ≡ b → Shape (write (led device leds) offset lent) (cond b (one device) none)
    go true e = written_at (led device leds) offset lent device _ (simp e) (λ st. refl)
    go false e = λ st. refl
write_shape list offset lent = λ st. refl
write_shape store offset lent = λ st. refl

-- a read that is refused leaves the station
restore_shape : (text : List ℕ) → is_store (read_store text) ≡ false → Shape (restore text) none
unfolding step restore_rule restore_ports
restore_shape text e st = go (read_store text) e
  where
    go : (x : StoreRead) → is_store x ≡ false → (restored_to (restored_by st.ports x)).station ≡ st
    go (store_of ports) q = absurd (true≢false q)
    go of_other q = refl
    go (broken_at line) q = refl

-- one that is accepted gives the same, whatever station it is made on
pub begun_alike : (c : Call) → begins c ≡ true → (st other : Station) → step st c ≡ step other c
unfolding begins step restore_rule restore_ports
begun_alike (take bytes) e st other = absurd (true≢false (sym e))
begun_alike (request device byte2 byte3 ticks params offset lent) e st other = absurd (true≢false (sym e))
begun_alike (cancel device byte2 byte3) e st other = absurd (true≢false (sym e))
begun_alike tick e st other = absurd (true≢false (sym e))
begun_alike (write writer offset lent) e st other = absurd (true≢false (sym e))
begun_alike (restore text) e st other = go (read_store text) e
  where
    go : (x : StoreRead) → is_store x ≡ true → restore_step text (restored_to (restored_by st.ports x)) ≡ restore_step text (restored_to (restored_by other.ports x))
    go (store_of ports) q = refl
    go of_other q = absurd (true≢false (sym q))
    go (broken_at line) q = absurd (true≢false (sym q))

pub shape : (c : Call) → begins c ≡ false → Shape c (target c)
unfolding step target begins
shape (take bytes) e = take_shape bytes (reading.read_rule bytes) refl (read_fits bytes)
shape (request device byte2 byte3 ticks params offset lent) e =
    request_shape device byte2 byte3 ticks params offset lent (is_port device) refl
shape (cancel device byte2 byte3) e = cancel_shape device byte2 byte3 (is_port device) refl
shape tick e = λ st. refl
shape (write writer offset lent) e = write_shape writer offset lent
shape (restore text) e = restore_shape text e
