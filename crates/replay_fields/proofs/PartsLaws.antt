-- Laws of the parts of a line: a comma between elements, and a signed number by its distance from 0.
use Rattle.std.specs.Prelude.{ℕ, zero, suc, ◌≤◌, ◌≡◌, refl, true, false, List, ◌++◌, T, leb, ℤ, pos, negsuc, nat_abs}
use Rattle.std.proofs.Common.{sym, ◌∙◌, ap, subst, not-suc-le-zero, arith, lit≤, ltb-true}
use Rattle.std.specs.Int.Signed.{lt_z}
use Rattle.text.specs.Words.{ascii, decimal}
use Rattle.text.specs.declared.Out.{Out}
use Rattle.text.specs.Putting.{Puts, Outputs}
use Rattle.text.proofs.PuttingLaws.{nothing_put, at_most, same_text, then_put}
use Rattle.text.proofs.PutDigitsLaws.{in_digits}
use Rattle.replay_fields.specs.AnswerFields.{comma, comma_most, farthest, signed_text, signed_most, answer_most}

pub no_comma : (i at : ℕ) (b : List ℕ) → i ≡ 0 → Puts comma_most (comma i) at b at b
unfolding comma
no_comma i at b e = same_text (ap comma (sym e)) (at_most comma_most (lit≤ tt) (nothing_put at b))

pub a_comma : {next : ℕ} {b₁ : List ℕ} (i at : ℕ) (b : List ℕ) → (i ≡ 0 → ⊥) → Puts 1 (ascii ",") at b next b₁ → Puts comma_most (comma i) at b next b₁
unfolding comma
a_comma zero at b some p = absurd (some refl)
a_comma (suc i) at b some p = p

negative : (z : ℤ) → lt_z z (pos 0) ≡ true → ascii "-" ++ decimal (nat_abs z) ≡ signed_text z
unfolding signed_text
negative (pos n) h = absurd (not-suc-le-zero (ltb-true n 0 h))
negative (negsuc n) h = refl

positive : (z : ℤ) → lt_z z (pos 0) ≡ false → decimal (nat_abs z) ≡ signed_text z
unfolding signed_text
positive (pos n) h = refl
positive (negsuc n) h = absurd (subst T h tt)

module _ {k at : ℕ} {b : List ℕ} {n : ℕ} {b₁ : List ℕ} (z : ℤ) (size : ℕ) (far : size ≡ nat_abs z) (small : size ≤ farthest) where
  pub a_negative : {n₂ : ℕ} {b₂ : List ℕ} → lt_z z (pos 0) ≡ true → Puts 1 (ascii "-") at b n b₁ → Puts k (decimal size) n b₁ n₂ b₂ → Puts signed_most (signed_text z) at b n₂ b₂
  a_negative h sign digits =
      same_text (ap (λ (k : ℕ). ascii "-" ++ decimal k) far ∙ negative z h) (then_put sign (in_digits 4 size (omega arith) digits))

  pub a_positive : lt_z z (pos 0) ≡ false → Puts k (decimal size) at b n b₁ → Puts signed_most (signed_text z) at b n b₁
  a_positive h digits =
      same_text (ap decimal far ∙ positive z h) (at_most signed_most (lit≤ tt) (in_digits 4 size (omega arith) digits))

-- a line that is no longer than the longest answer
pub an_answer : {m : ℕ} {text : List ℕ} {at : ℕ} {b : List ℕ} {next : ℕ} {b₁ : List ℕ} → T (leb m answer_most) → Puts m text at b next b₁ → Puts answer_most text at b next b₁
an_answer t p = at_most answer_most (lit≤ t) p

-- the same of a lent buffer with its offset; the number comes where the sign went, if any
module _ {k : ℕ} {o o₂ : Out} (z : ℤ) (size : ℕ) (far : size ≡ nat_abs z) (small : size ≤ farthest) where
  pub negative_out : {o₁ o₃ : Out} → lt_z z (pos 0) ≡ true → Outputs 1 (ascii "-") o o₁ → o₂ ≡ o₁ → Outputs k (decimal size) o₂ o₃ → Outputs signed_most (signed_text z) o o₃
  negative_out {o₁} {o₃} h sign is digits =
      let there = subst (λ (out : Out). Outputs k (decimal size) out o₃) is digits in
      record { puts = a_negative z size far small h sign.puts there.puts; same = sign.same ∙ there.same }

  pub positive_out : {o₃ : Out} → lt_z z (pos 0) ≡ false → o₂ ≡ o → Outputs k (decimal size) o₂ o₃ → Outputs signed_most (signed_text z) o o₃
  positive_out {o₃} h is digits =
      let there = subst (λ (out : Out). Outputs k (decimal size) out o₃) is digits in
      record { puts = a_positive z size far small h there.puts; same = there.same }

pub answer_out : {m : ℕ} {text : List ℕ} {o o₁ : Out} → T (leb m answer_most) → Outputs m text o o₁ → Outputs answer_most text o o₁
answer_out t p = record { puts = an_answer t p.puts; same = p.same }
