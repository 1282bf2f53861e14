-- Laws of taking a report: what the program stores is what the rule gives, for each family.
use Prim.Native.Nat.{ℕ}
use Rattle.std.specs.Prelude.{◌≡◌, refl, true, List, Option, Some, None, Ok}
use Rattle.std.specs.Prelude as std
use Rattle.std.proofs.Math.Path.{sym, ap}
use Rattle.std.proofs.Common.{◌∙◌, arith}
use Rattle.std.proofs.Math.ListN.{set}
use Rattle.std.proofs.Math.Seq.{get_or-set_other}
use Rattle.report.specs.declared.Device.{Device}
use Rattle.report.specs.declared.Refusal.{Refusal}
use Rattle.report.specs.declared.HidppReport.{HidppReport}
use Rattle.report.specs.declared.DjReport.{DjReport}
use Rattle.report.specs.declared.Reading.TheVariants.{Hidpp, Dj}
use Rattle.report.specs.Sizes.{dj_start}
use Rattle.report.specs.Reading as reading
use Rattle.report.specs.Reading.{Report}
use Rattle.report.specs.ReportContracts.{hidpp_of, dj_of, reading_of}
use Rattle.port.specs.declared.Port.{Port}
use Rattle.port.specs.declared.Called.{Called}
use Rattle.port.specs.declared.answer.Taken.{Taken}
use Rattle.port.specs.declared.answer.Taken.TheVariants.{Radio}
use Rattle.port.specs.Records.{with_link}
use Rattle.port.specs.Answers.{Result}
use Rattle.port.specs.PortContracts.{taken_of, result_of}
use Rattle.matching.specs.Messages.{message_of}
use Rattle.hidpp.specs.HidppTaking.{take_hidpp}
use Rattle.serial.specs.declared.Given as program
use Rattle.serial.specs.Serials.{Given, no_serial, serial_of, given_by, SerialResult, serial_rule}
use Rattle.serial.specs.SerialContracts.{given_of, kept_of}
use Rattle.serial.proofs.GivingLaws.{given_exactly}
use Rattle.dj.specs.DjTaking.{take_dj}
use Rattle.dj.specs.DjContracts.{accepted_length, length_accepted}
use Rattle.dj.proofs.DjTakingLaws.{take_accepted, take_accepted_length}
use Rattle.station.specs.declared.Station.{Station}
use Rattle.station.specs.Stations.{receiver_position, position_of, no_port, port_at, port_for, with_port}
use Rattle.station.proofs.StationsLaws.{device_number, device_position, other_position}
use Rattle.station.specs.StationTaking.{TakeOutcome, stored_at, with_drops, also_at, take_by, take_rule}
use Rattle.station.specs.StationContracts.{take_outcome}

-- what the program stores of a serial that is given, and of none
module _ (st : Station) (a : std.Result Taken Refusal) where
  abbrev before : TakeOutcome
  before = record { answer = taken_of a; station = st }

  pub also_none : {g : Option program.Given} → g ≡ None → before ≡ also_at st (given_of g) before
  also_none e = ap (λ (g : Option program.Given). also_at st (given_of g) before) (sym e)

  pub also_kept : (k : Called ℕ Port) (b : std.Result Taken Refusal) {g : Option program.Given} {device : Device} {number position : ℕ} → g ≡ Some (record { device = device; number = number }) → position ≡ position_of device.0 → kept_of k ≡ serial_rule (port_at st position) number → taken_of b ≡ with_drops k.answer (taken_of a) → take_outcome (record { answer = b; next = record { ports = set st.ports position k.next } }) ≡ also_at st (given_of g) before
  unfolding with_port
  also_kept k b {g} {device} {number} {position} e p kept drops =
      (λ i. record { answer = drops i; station = record { ports = set st.ports (p i) k.next } })
      ∙ ap told (kept ∙ ap (λ (i : ℕ). serial_rule (port_at st i) number) p)
      ∙ ap (λ (x : Option program.Given). also_at st (given_of x) before) (sym e)
    where
      told : SerialResult → TakeOutcome
      told x = record { answer = with_drops x.dropped (taken_of a); station = record { ports = set st.ports (position_of device.0) x.port } }

module _ (st : Station) (bytes : List ℕ) where
  pub take_read : {r : reading.Read} → reading.read_rule bytes ≡ r → take_by r bytes st ≡ take_rule st bytes
  unfolding take_rule
  take_read e = sym (ap (λ (x : reading.Read). take_by x bytes st) e)

  -- a serial is of a device, and the report that gives it is 255's: what the report did at its own port is not seen at the device's
  not_own : (r : Report) (q : Port) (device number : ℕ) → given_by (port_for st r.device) r bytes ≡ serial_of device number → port_for (with_port st (position_of r.device) q) device ≡ port_for st device
  unfolding with_port
  not_own r q device number e =
      let g = (given_exactly (port_for st r.device) r bytes device number).0 e in
      let own : position_of r.device ≡ receiver_position = ap position_of g.receiver ∙ sym (other_position 255 refl).0 in
      get_or-set_other st.ports (position_of r.device) (position_of device) q no_port (λ z.
      omega (arith, z, own, (device_position device g.named).0, (device_number device g.named).0, (device_number device g.named).1))

  also_after : (r : Report) (x : Result) (g : Given) → given_by (port_for st r.device) r bytes ≡ g → also_at (with_port st (position_of r.device) x.port) g (stored_at st (position_of r.device) x) ≡ also_at st g (stored_at st (position_of r.device) x)
  also_after r x no_serial e = refl
  also_after r x (serial_of device number) e = ap told (not_own r x.port device number e)
    where
      told : Port → TakeOutcome
      told p = record { answer = with_drops (serial_rule p number).dropped x.answer; station = with_port (with_port st (position_of r.device) x.port) (position_of device) (serial_rule p number).port }

  -- a HID++ report at its port, and then the serial that it gives
  pub take_hidpp_law : (h : HidppReport) (t : Called (std.Result Taken Refusal) Port) (g : Option program.Given) {position : ℕ} {result : TakeOutcome} → reading.read_rule bytes ≡ reading_of (Ok (Hidpp h)) → position ≡ position_of h.device.0 → given_of g ≡ given_by (port_at st position) (hidpp_of h) bytes → result_of t ≡ take_hidpp (port_at st position) (message_of (hidpp_of h) bytes) → result ≡ also_at (record { ports = set st.ports position t.next }) (given_of g) (record { answer = taken_of t.answer; station = record { ports = set st.ports position t.next } }) → result ≡ take_rule st bytes
  unfolding take_by with_port
  take_hidpp_law h t g {position} read p given at also =
      let own : ℕ = position_of h.device.0 in
      let r : Report = hidpp_of h in
      let is_given : given_of g ≡ given_by (port_for st h.device.0) r bytes = given ∙ ap (λ (i : ℕ). given_by (port_at st i) r bytes) p in
      let result : result_of t ≡ take_hidpp (port_for st h.device.0) (message_of r bytes) = at ∙ ap (λ (i : ℕ). take_hidpp (port_at st i) (message_of r bytes)) p in
      also
      ∙ ap (λ (i : ℕ). also_at (with_port st i t.next) (given_of g) (stored_at st i (result_of t))) p
      ∙ also_after r (result_of t) (given_of g) (sym is_given)
      ∙ ap (λ (x : Result). also_at st (given_of g) (stored_at st own x)) result
      ∙ ap (λ (y : Given). also_at st y (stored_at st own (take_hidpp (port_for st h.device.0) (message_of r bytes)))) is_given
      ∙ take_read read

  pub take_dj_law : (d : DjReport) (t : Called (std.Result Taken Refusal) Port) {position : ℕ} → reading.read_rule bytes ≡ reading_of (Ok (Dj d)) → position ≡ position_of d.device.0 → result_of t ≡ take_dj (port_at st position) (dj_of d) bytes → take_outcome (record { answer = t.answer; next = record { ports = set st.ports position t.next } }) ≡ take_rule st bytes
  unfolding take_by with_port
  take_dj_law d t {position} e p r =
      ap (stored_at st position) r
      ∙ ap (λ (i : ℕ). stored_at st i (take_dj (port_at st i) (dj_of d) bytes)) p
      ∙ take_read e

  -- a radio report that is accepted: the port's link is set, and nothing else
  pub take_radio : (d : DjReport) (payload : ℕ) {position : ℕ} → reading.read_rule bytes ≡ reading_of (Ok (Dj d)) → position ≡ position_of d.device.0 → payload ≡ accepted_length (port_at st position).paired (port_at st position).reports d.kind d.length bytes → ¬ (payload ≡ 0) → take_outcome (record { answer = Ok (Radio d.kind dj_start payload); next = record { ports = set st.ports position (with_link (port_at st position) true) } }) ≡ take_rule st bytes
  take_radio d payload {position} e p h some =
      take_dj_law d (record { answer = Ok (Radio d.kind dj_start payload); next = with_link (port_at st position) true }) e p (take_accepted (port_at st position) (dj_of d) bytes payload h some)

  -- the same of the length that the program was given
  pub take_radio_length : (d : DjReport) (payload : ℕ) {position : ℕ} → reading.read_rule bytes ≡ reading_of (Ok (Dj d)) → position ≡ position_of d.device.0 → Some payload ≡ length_accepted (port_at st position).paired (port_at st position).reports d.kind d.length bytes → take_outcome (record { answer = Ok (Radio d.kind dj_start payload); next = record { ports = set st.ports position (with_link (port_at st position) true) } }) ≡ take_rule st bytes
  take_radio_length d payload {position} e p h =
      take_dj_law d (record { answer = Ok (Radio d.kind dj_start payload); next = with_link (port_at st position) true }) e p (take_accepted_length (port_at st position) (dj_of d) bytes payload h)
