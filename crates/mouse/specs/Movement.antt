-- Document 01, "Taking a DJ report": the mouse payload; and refusal 3, where it is not 7 bytes.
use Rattle.std.specs.Prelude.{ℕ, ◌+◌, ◌-◌, ◌*◌, ◌/◌, ◌%◌, ◌^◌, List, cond, not, length, ltb, eqb, ℤ, pos, ◌-ℤ◌}
use Rattle.report.specs.Refusals.{wrong_length}
use Rattle.report.specs.Sizes.{byte, joined2}

-- what a payload gives: the refusal's number, or the five fields
pub data Movement : Type 0 where
  refused : ℕ → Movement
  moved : (buttons : ℕ) (x y wheel pan : ℤ) → Movement

-- two's complement: n itself below 2^(width−1), and n − 2^width from there
unfoldable pub signed : (width : ℕ) → ℕ → ℤ
signed width n = cond (ltb n (2 ^ (width - 1))) (pos n) (pos n -ℤ pos (2 ^ width))

-- buttons, low byte first; X: byte 2, then the low nibble of byte 3; Y: the high nibble of byte 3, then byte 4; wheel; pan
unfoldable pub mouse_rule : List ℕ → Movement
mouse_rule payload =
    cond (not (eqb (length payload) 7)) (refused wrong_length)
    (moved
    (joined2 (byte payload 0) (byte payload 1))
    (signed 12 (joined2 (byte payload 2) (byte payload 3 % 16)))
    (signed 12 (byte payload 3 / 16 + 16 * byte payload 4))
    (signed 8 (byte payload 5))
    (signed 8 (byte payload 6)))
