-- Laws of padding: the library's search over the bytes, and which offset holds a byte that is not zero.
use Rattle.std.specs.Prelude.{ℕ, zero, suc, ◌≤◌, ◌<◌, ◌≡◌, refl, Bool, true, false, ◌&&◌, List, [], ◌∷◌, length, eqb}
use Rattle.std.specs.List.{list_all}
use Rattle.std.proofs.Common.{◌∙◌, ap, true≢false, arith, le_of_suc-le-suc, not-suc-le-zero, ne_eqb}
use Rattle.std.proofs.Math.Bool.{and-false}
use Rattle.std.proofs.lemmas.Bool.{eqb-false}
use Rattle.report.specs.Sizes.{byte}
use Rattle.dj.specs.Padding.{all_zero, is_zero_from}

-- the library's search for another byte asks the same
pub all_zero_is : (bytes : List ℕ) → list_all (λ (x : ℕ). eqb x 0) bytes ≡ all_zero bytes
all_zero_is [] = refl
all_zero_is (x ∷ xs) = ap (λ (b : Bool). eqb x 0 && b) (all_zero_is xs)

-- a byte that is not zero, from the offset on
pub not_zero : (bytes : List ℕ) (from offset : ℕ) → from ≤ offset → ¬ (byte bytes offset ≡ 0) → is_zero_from bytes from ≡ false
not_zero [] from offset h n = absurd (n refl)
not_zero (x ∷ xs) zero zero h n = ap (λ (b : Bool). b && all_zero xs) (ne_eqb x 0 n)
not_zero (x ∷ xs) zero (suc offset) h n =
    ap (λ (b : Bool). eqb x 0 && b) (not_zero xs zero offset (omega arith) n) ∙ and-false (eqb x 0)
not_zero (x ∷ xs) (suc from) zero h n = absurd (not-suc-le-zero h)
not_zero (x ∷ xs) (suc from) (suc offset) h n = not_zero xs from offset (le_of_suc-le-suc h) n

pub record NotZero (bytes : List ℕ) (from : ℕ) : Type 0 where
  pub offset : ℕ
  pub behind : from ≤ offset
  pub within : offset < length bytes
  pub rubbish : ¬ (byte bytes offset ≡ 0)

-- is there where not all are zero
pub find_rubbish : (bytes : List ℕ) (from : ℕ) → is_zero_from bytes from ≡ false → NotZero bytes from
find_rubbish [] zero e = absurd (true≢false e)
find_rubbish [] (suc from) e = absurd (true≢false e)
find_rubbish (x ∷ xs) (suc from) e =
    let n = find_rubbish xs from e in
    record { offset = suc n.offset; behind = omega (arith, n.behind); within = omega (arith, n.within); rubbish = n.rubbish }
find_rubbish (x ∷ xs) zero e = first (eqb x 0) refl e (find_rubbish xs zero)
  where
    first : (b : Bool) → eqb x 0 ≡ b → (b && all_zero xs) ≡ false → (all_zero xs ≡ false → NotZero xs zero) → NotZero (x ∷ xs) zero
    first false q z f = record { offset = 0; behind = omega arith; within = omega arith; rubbish = eqb-false x 0 q }
    first true q z f =
        let n = f z in
        record { offset = suc n.offset; behind = omega arith; within = omega (arith, n.within); rubbish = n.rubbish }
