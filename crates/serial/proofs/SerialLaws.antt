-- Laws of a serial: what the program finds step by step is what the rule says.
use Rattle.std.specs.Prelude.{ℕ, ◌+◌, ◌-◌, ◌≡◌, refl, Bool, true, false, cond, ◌&&◌, List}
use Rattle.std.proofs.Common.{sym, ◌∙◌, ap, add-one}
use Rattle.report.specs.Reading.{Report}
use Rattle.port.specs.declared.Port.{Port}
use Rattle.matching.specs.Messages.{parameter}
use Rattle.serial.specs.Serials.{is_for_device, is_serial_report, is_asked_with, no_serial, serial_of, device_for, serial_in, given_by}

-- three hold: the fourth decides
pub fourth : {a b c : Bool} (d : Bool) → a ≡ true → b ≡ true → c ≡ true → d ≡ a && (b && (c && d))
fourth d p q r = cc (p, q, r)

module _ (p : Port) (r : Report) (bytes : List ℕ) {first : ℕ} (is : first ≡ parameter bytes 0) (report : is_serial_report r ≡ true) where
  chosen : (b c : Bool) → is_for_device first ≡ b → is_asked_with p first ≡ c → given_by p r bytes ≡ cond (b && c) (serial_of (device_for first) (serial_in bytes)) no_serial
  unfolding given_by
  chosen b c e f = cc (is, report, e, f)

  pub for_no_device : is_for_device first ≡ false → no_serial ≡ given_by p r bytes
  for_no_device e = sym (chosen false (is_asked_with p first) e refl)

  pub not_asked : is_for_device first ≡ true → is_asked_with p first ≡ false → no_serial ≡ given_by p r bytes
  not_asked e f = sym (chosen true false e f)

  pub is_given : {number : ℕ} → is_for_device first ≡ true → is_asked_with p first ≡ true → number ≡ serial_in bytes → serial_of (first - 0x30 + 1) number ≡ given_by p r bytes
  is_given e f n = ap (serial_of (first - 0x30 + 1)) n ∙ ap (λ (d : ℕ). serial_of d (serial_in bytes)) (add-one (first - 0x30)) ∙ sym (chosen true true e f)
