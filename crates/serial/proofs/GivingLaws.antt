-- Document 02, Ask 1: a serial is given exactly then.
use Rattle.std.specs.Prelude.{ℕ, ◌+◌, ◌-◌, ◌≤◌, ◌≡◌, Bool, false, ◌&&◌, List, leb, eqb}
use Rattle.std.proofs.Math.Path.{sym}
use Rattle.std.proofs.Common.{◌∙◌, ap, true≢false, arith}
use Rattle.std.proofs.Math.Bool.{true}
use borrow.Author.Tests.{leb-true, le-leb, eqb-true, eq-eqb}
use Rattle.report.proofs.ChoicesLaws.{by_case, both}
use Rattle.report.specs.Ports.{device_count, is_device}
use Rattle.report.specs.Reading.{Report}
use Rattle.port.specs.declared.Port.{Port}
use Rattle.port.specs.Records.{request_in}
use Rattle.port.specs.Waiting.{is_found}
use Rattle.matching.specs.Messages.{parameter}
use Rattle.serial.specs.Serials.{parameter_for, device_for, is_for_device, is_serial_report, serial_place, is_asked_with, Given, no_serial, serial_of, serial_in, given_by}
use Rattle.serial.specs.Giving.{Gives, GivenExactly}

-- the parameters 0x30 to 0x35 are those of the devices
device_of : (first : ℕ) → is_for_device first ≡ true → (is_device (device_for first) ≡ true) × (first ≡ 0x30 + device_for first - 1)
device_of first e =
    let h = both (leb (parameter_for 1) first) (leb first (parameter_for device_count)) e in
    let lo : 0x30 ≤ first = leb-true _ _ h.0 in
    let hi : first ≤ 0x35 = leb-true _ _ h.1 in
    (ap (λ (b : Bool). b && leb (device_for first) device_count) (le-leb 1 (device_for first) (omega arith)) ∙ le-leb (device_for first) device_count (omega arith), omega arith)

parameter_of : (device first : ℕ) → is_device device ≡ true → first ≡ 0x30 + device - 1 → (is_for_device first ≡ true) × (device_for first ≡ device)
parameter_of device first e q =
    let h = both (leb 1 device) (leb device device_count) e in
    let lo : 1 ≤ device = leb-true _ _ h.0 in
    let hi : device ≤ device_count = leb-true _ _ h.1 in
    (ap (λ (b : Bool). b && leb first (parameter_for device_count)) (le-leb (parameter_for 1) first (omega arith)) ∙ le-leb first (parameter_for device_count) (omega arith), omega arith)

same_device : {a b m n : ℕ} → serial_of a m ≡ serial_of b n → (a ≡ b) × (m ≡ n)
same_device e = (cc e, cc e)

-- a report that gives none gives no device's
pub no_serial_law : {device number : ℕ} → no_serial ≡ serial_of device number → ⊥
no_serial_law e = true≢false (ap none e)
  where
    none : Given → Bool
    none no_serial = true
    none (serial_of device number) = false

module _ (p : Port) (r : Report) (bytes : List ℕ) where
  abbrev first : ℕ
  first = parameter bytes 0

  gives : (device number : ℕ) → is_serial_report r ≡ true → is_for_device first ≡ true → is_asked_with p first ≡ true → device_for first ≡ device → serial_in bytes ≡ number → Gives p r bytes device number
  gives device number report named asked d n =
      let on = both (eqb r.device 255) (eqb r.id 0x11 && (eqb r.byte2 0x83 && eqb r.byte3 0xB5)) report in
      let long = both (eqb r.id 0x11) (eqb r.byte2 0x83 && eqb r.byte3 0xB5) on.1 in
      let register = both (eqb r.byte2 0x83) (eqb r.byte3 0xB5) long.1 in
      let waits = both (is_found (serial_place p)) (eqb (request_in p.places (serial_place p)).first.0 first) asked in
      let device_first = device_of first named in
      let at : first ≡ 0x30 + device - 1 = device_first.1 ∙ ap (λ (x : ℕ). 0x30 + x - 1) d in
      record {
        receiver = eqb-true _ _ on.0;
        long = eqb-true _ _ long.0;
        byte2 = eqb-true _ _ register.0;
        byte3 = eqb-true _ _ register.1;
        named = ap is_device (sym d) ∙ device_first.0;
        waits = waits.0;
        asked = eqb-true _ _ waits.1 ∙ at;
        repeated = at;
        serial = sym n ∙ omega arith;
      }

  pub given_exactly : GivenExactly p r bytes
  unfolding given_by
  given_exactly device number = (
    by_case (λ (g : Given). g ≡ serial_of device number → Gives p r bytes device number) (is_serial_report r && (is_for_device first && is_asked_with p first))
        (λ h e.
        let all = both (is_serial_report r) (is_for_device first && is_asked_with p first) h in
        let more = both (is_for_device first) (is_asked_with p first) all.1 in
        let same = same_device e in
        gives device number all.0 more.0 more.1 same.0 same.1)
        (λ h e. absurd (no_serial_law e)),
    λ g.
        let at = parameter_of device first g.named g.repeated in
        let report : is_serial_report r ≡ true = cc (eq-eqb _ _ g.receiver, eq-eqb _ _ g.long, eq-eqb _ _ g.byte2, eq-eqb _ _ g.byte3) in
        let asked : is_asked_with p first ≡ true = cc (g.waits, eq-eqb _ _ (g.asked ∙ sym g.repeated)) in
        let number_in : serial_in bytes ≡ number = omega (arith, g.serial) in
        cc (report, at.0, asked, at.1, number_in),
  )
