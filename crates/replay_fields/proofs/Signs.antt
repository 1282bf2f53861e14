-- A signed number of 16 bits, as the machine reads it from its bits, and how far it lies from 0.
use Prim.Native.Nat.{ℕ, suc, ◌+◌, ◌-◌, ◌≤◌}
use mathlib.Core.Bool.{Bool, true, false}
use mathlib.Core.Path.{◌≡◌, sym, ◌∙◌, ap, subst}
use mathlib.Core.List.{List, [], ◌++◌}
use native.Mathlib.Nat.{not-suc-le-zero, lt_of_lt_of_le}
use native.Mathlib.Numerals.{add-one}
use native.Mathlib.Omega.{arith}
use lib.Dec.{T, lit≤}
use lib.IntN.{ℤ, pos, negsuc, ◌-ℤ◌, nat_abs}
use lib.Signed.{lt_z, non_neg, nat_abs-le}
use borrow.Author.Tests.{ltb-true, le-ltb}
use mir.Syntax.{w8, w16}
use mir.Val.{SFits, to_z, of_z}
use mir.ValLaws.{to_z-of_z}
use Rattle.replay_fields.specs.AnswerFields.{signed_text}
use Rattle.text.specs.declared.Out.{Out}
use Rattle.text.specs.Putting.{Puts, Outputs}
use Rattle.text.proofs.PuttingLaws.{same_text}

-- what is read back from a number's bits
abbrev pub read : ℤ → ℤ
read z = to_z w16 (of_z w16 z)

module _ (z : ℤ) (fits : SFits w16 z) where
  pub read_fits : SFits w16 (read z)
  read_fits = subst (λ (v : ℤ). SFits w16 v) (sym (to_z-of_z w16 z fits)) fits

  pub near : nat_abs (read z) ≤ 32768
  near = subst (λ (v : ℤ). nat_abs v ≤ 32768) (sym (to_z-of_z w16 z fits)) (nat_abs-le z fits.sfits)

  pub far : nat_abs (read z) ≡ nat_abs z
  far = ap nat_abs (to_z-of_z w16 z fits)

  pub sign : {b : Bool} → lt_z (read z) (pos 0) ≡ b → lt_z z (pos 0) ≡ b
  sign t = sym (ap (λ (v : ℤ). lt_z v (pos 0)) (to_z-of_z w16 z fits)) ∙ t

-- from -1 down to a number below 0
down : (k : ℕ) → negsuc 0 -ℤ negsuc k ≡ pos k
down k =
    let e : suc k - 1 ≡ k = omega arith in
    simp (le-ltb (suc k) 1 (omega arith)) (ap pos e)

pub down_fits : (z : ℤ) → SFits w16 z → lt_z z (pos 0) ≡ true → SFits w16 (negsuc 0 -ℤ z)
down_fits (pos n) fits t = absurd (not-suc-le-zero (ltb-true n 0 t))
down_fits (negsuc k) fits t = subst (λ (v : ℤ). SFits w16 v) (sym (down k)) (record { sfits = fits.sfits })

-- the distance from -1 is not negative, and one more is the distance from 0
pub record Down (z s : ℤ) : Type 0 where
  pub up : T (non_neg s)
  pub more : nat_abs s + 1 ≡ nat_abs z

went : (z : ℤ) → lt_z z (pos 0) ≡ true → Down z (negsuc 0 -ℤ z)
went (pos n) t = absurd (not-suc-le-zero (ltb-true n 0 t))
went (negsuc k) t = subst (λ (v : ℤ). Down (negsuc k) v) (sym (down k)) (record { up = tt; more = add-one k })

pub went_down : (z : ℤ) → SFits w16 z → lt_z z (pos 0) ≡ true → Down z (read (negsuc 0 -ℤ z))
went_down z fits t = subst (λ (v : ℤ). Down z v) (sym (to_z-of_z w16 _ (down_fits z fits t))) (went z t)

pub not_below : (z : ℤ) → lt_z z (pos 0) ≡ false → T (non_neg z)
not_below (pos n) t = tt
not_below (negsuc n) t = subst T t tt

-- a number of 8 bits fits 16
pub widened : (z : ℤ) → SFits w8 z → SFits w16 (to_z w8 (of_z w8 z))
widened z fits = subst (λ (v : ℤ). SFits w16 v) (sym (to_z-of_z w8 z fits)) (record { sfits = lt_of_lt_of_le fits.sfits (lit≤ tt) })

-- a word and a signed number, put from its bits
module _ {most at : ℕ} {b : List ℕ} {next : ℕ} {b₁ : List ℕ} (word : List ℕ) (z : ℤ) where
  pub word_from_bits : SFits w16 z → Puts most (word ++ signed_text (read z)) at b next b₁ → Puts most (word ++ signed_text z) at b next b₁
  word_from_bits fits p = same_text (ap (λ (v : ℤ). word ++ signed_text v) (to_z-of_z w16 z fits)) p

  pub word_from_few_bits : SFits w8 z → Puts most (word ++ signed_text (read (to_z w8 (of_z w8 z)))) at b next b₁ → Puts most (word ++ signed_text z) at b next b₁
  word_from_few_bits fits p =
      same_text (ap (λ (v : ℤ). word ++ signed_text v) (to_z-of_z w16 _ (widened z fits) ∙ to_z-of_z w8 z fits)) p

-- a signed number alone
module _ {most : ℕ} {o o₁ : Out} (z : ℤ) where
  pub from_bits : SFits w16 z → Outputs most (signed_text (read z)) o o₁ → Outputs most (signed_text z) o o₁
  from_bits fits p = record { puts = word_from_bits [] z fits p.puts; same = p.same }

  pub from_few_bits : SFits w8 z → Outputs most (signed_text (read (to_z w8 (of_z w8 z)))) o o₁ → Outputs most (signed_text z) o o₁
  from_few_bits fits p = record { puts = word_from_few_bits [] z fits p.puts; same = p.same }
