-- The machine's signed arithmetic meets `signed`, for a field of any width in an integer `w` of any width.
use Rattle.std.proofs.Common.{ℕ, zero, suc, ◌-◌, ◌^◌, ◌≤◌, ◌<◌, Bool, true, false, cond, ltb, ◌≡◌, ℤ, pos, negsuc, ◌-ℤ◌, sym, ◌∙◌, ap, arith, lt_of_lt_of_le, ltb-true, ltb-false, refl, w8, SFits, to_z, of_z}
use Rattle.std.specs.Int.Signed.{mag}
use mir.Syntax.{Width}
use mir.Val.{hbits}
use mir.ValLaws.{to_z_pos, to_z-of_z}
use Rattle.mouse.specs.Movement.{signed}
use Rattle.mouse.proofs.MovementLaws.{lower_half, upper_half, magnitude, below}

-- the lower half, cast
pub kept : (w : Width) (width n : ℕ) → n < 2 ^ (width - 1) → n < 2 ^ hbits w → to_z w n ≡ signed width n
kept w width n low fits = to_z_pos w n fits ∙ sym (lower_half width n low)

-- the upper half, cast and less 2^width
pub lowered : (w : Width) (width n : ℕ) → 2 ^ (width - 1) ≤ n → n < 2 ^ hbits w → to_z w n -ℤ pos (2 ^ width) ≡ signed width n
lowered w width n high fits = ap (λ (z : ℤ). z -ℤ pos (2 ^ width)) (to_z_pos w n fits) ∙ sym (upper_half width n high)

-- numbers from 0 up have a difference that fits
gap : (a b limit : ℕ) → a < limit → b < limit → mag (pos a -ℤ pos b) < limit
gap a zero limit p q = omega arith
gap a (suc b) limit p q = by (ltb a (suc b))
  where
    by : (t : Bool) → mag (cond t (negsuc (suc b - suc a)) (pos (a - suc b))) < limit
    by true = omega arith
    by false = omega arith

pub difference : (w : Width) (a b : ℕ) → a < 2 ^ hbits w → b < 2 ^ hbits w → SFits w (to_z w a -ℤ to_z w b)
difference w a b p q = record { sfits = rw (to_z_pos w a p, to_z_pos w b q) (gap a b (2 ^ hbits w) p q) }

-- an integer at least as wide as the field holds it
pub held : (w : Width) (width n : ℕ) → n < 2 ^ width → 2 ^ (width - 1) ≤ 2 ^ hbits w → SFits w (signed width n)
held w width n small room = record { sfits = lt_of_lt_of_le (magnitude width n small) room }

-- a number that a call gave, read back from its bits
pub back : (w : Width) (z : ℤ) → mag z < 2 ^ hbits w → to_z w (of_z w z) ≡ z
back w z fits = to_z-of_z w z (record { sfits = fits })

-- a whole byte, cast
pub byte_law : (n : ℕ) → n < 2 ^ 8 → to_z w8 n ≡ signed 8 n
byte_law n h = by (ltb n 128) refl
  where
    by : (b : Bool) → ltb n 128 ≡ b → to_z w8 n ≡ signed 8 n
    by true e = kept w8 8 n (ltb-true _ _ e) (ltb-true _ _ e)
    by false e =
        let high : to_z w8 n ≡ negsuc (256 - suc n) = simp e in
        high ∙ sym (upper_half 8 n (ltb-false _ _ e) ∙ below n 256 h)
