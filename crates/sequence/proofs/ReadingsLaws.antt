-- Document 01, "Report sizes and bytes" and "Refusal numbers" (1 to 6): laws of a report that is read.
use Rattle.std.specs.Prelude.{ℕ, ◌≤◌, ◌<◌, ◌≡◌, refl, Bool, true, false, cond, not, ◌||◌, List, length, leb, eqb}
use Rattle.std.proofs.lemmas.Bool.{false≢true, eqb-false, not-false}
use Rattle.std.proofs.Common.{arith, leb-true, leb-false, le-leb}
use Rattle.report.proofs.ChoicesLaws.{by_case, neither}
use Rattle.report.specs.Ports.{receiver, in_range, is_device, is_port}
use Rattle.report.specs.Sizes.{byte, is_hidpp, is_report_id, length_of, hidpp_start, dj_start}
use Rattle.report.specs.Reading.{Report, Read, is_reserved, goes_down, is_empty_list, has_port, report_from, hidpp_rule, dj_rule, family_rule, read_rule}
use Rattle.hidpp.specs.HidppTaking.{is_error}
use Rattle.station.specs.Stations.{receiver_position, position_of}
use Rattle.station.proofs.StationsLaws.{device_number, device_position}
use Rattle.sequence.specs.Readings.{ReadFits}

module _ (bytes : List ℕ) where
  abbrev Fits : Read → Type 0
  Fits = ReadFits bytes

  hidpp_fits : (r : Report) → r ≡ report_from hidpp_start bytes → Fits (hidpp_rule r)
  unfolding hidpp_rule
  hidpp_fits r s =
      by_case Fits (not (is_port r.device)) (λ e. refl)
      (λ e. by_case Fits (is_reserved r.byte2) (λ q. refl) (λ q. (not-false (is_port r.device) e, (q, s))))

  dj_fits : (r : Report) → r ≡ report_from dj_start bytes → Fits (dj_rule r)
  unfolding dj_rule
  dj_fits r s =
      by_case Fits (goes_down r.byte2) (λ e. refl)
      (λ e. by_case Fits (is_empty_list r.byte2 r.byte3) (λ q. (q, s))
      (λ q. by_case Fits (not (has_port r.device r.byte2)) (λ z. refl) (λ z. (e, (not-false (has_port r.device r.byte2) z, s)))))

  pub read_fits : ReadFits bytes (read_rule bytes)
  unfolding read_rule family_rule
  read_fits =
      by_case Fits (eqb (length bytes) 0) (λ e. refl)
      (λ e. by_case Fits (not (is_report_id (byte bytes 0))) (λ q. refl)
      (λ q. by_case Fits (not (eqb (length bytes) (length_of (byte bytes 0)))) (λ z. refl)
      (λ z. by_case Fits (is_hidpp (byte bytes 0)) (λ y. hidpp_fits (report_from hidpp_start bytes) refl) (λ y. dj_fits (report_from dj_start bytes) refl))))

-- what takes a DJ report is a port
pub dj_port : (device kind : ℕ) → has_port device kind ≡ true → is_port device ≡ true
dj_port device kind = go (leb kind 0x42) (is_device device)
  where
    go : (b d : Bool) → cond b d (d || eqb device receiver) ≡ true → (d || eqb device receiver) ≡ true
    go true true e = refl
    go true false e = absurd (false≢true e)
    go false d e = e

-- the receiver is sent no radio report, and none of 0x40, 0x41 and 0x42
pub receiver_kind : (device kind : ℕ) → has_port device kind ≡ true → position_of device ≡ receiver_position → 0x42 < kind
receiver_kind device kind has at = go (leb kind 0x42) refl
  where
    go : (b : Bool) → leb kind 0x42 ≡ b → 0x42 < kind
    go true e =
        let named : is_device device ≡ true = simp e at has in
        absurd (omega (arith, at, (device_number device named).0, (device_number device named).1, (device_position device named).0))
    go false e = leb-false kind 0x42 e

-- not in the range, and not below it
pub above : (lo n hi : ℕ) → in_range lo n hi ≡ false → lo ≤ n → hi < n
above lo n hi e h = leb-false n hi (simp (le-leb lo n h) at e)

-- a byte 2 that is read, is no error and is 0x80 or above is 0x80 to 0x83
pub register_range : (byte2 : ℕ) → is_reserved byte2 ≡ false → is_error byte2 ≡ false → byte2 ≤ 0xFF → 0x80 ≤ byte2 → byte2 ≤ 0x83
register_range byte2 free none small high = go (leb byte2 0x83) refl
  where
    go : (b : Bool) → leb byte2 0x83 ≡ b → byte2 ≤ 0x83
    go true e = leb-true byte2 0x83 e
    go false e =
        let ranges = neither (in_range 0x84 byte2 0x8E) (in_range 0x90 byte2 0xFE) free in
        let errors = neither (eqb byte2 0x8F) (eqb byte2 0xFF) none in
        let h : 0x8E < byte2 = above 0x84 byte2 0x8E ranges.0 (leb-false byte2 0x83 e) in
        let l : 0xFE < byte2 = above 0x90 byte2 0xFE ranges.1 (omega (arith, eqb-false byte2 0x8F errors.0)) in
        absurd (omega (arith, eqb-false byte2 0xFF errors.1))
