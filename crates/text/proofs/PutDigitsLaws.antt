-- Laws of putting a number digit by digit, over any width and any number of digits.
use Rattle.std.specs.Prelude.{ℕ, suc, ◌-◌, ◌^◌, ◌/◌, ◌%◌, ◌≤◌, ◌<◌, ◌≡◌, List, [], ◌∷◌}
use Rattle.std.proofs.Common.{sym, ap, arith}
use Rattle.text.specs.Words.{digit, hex, decimal}
use Rattle.text.proofs.WordsLaws.{length_hex, length_decimal, hex_more, decimal_last, decimal_more}
use Rattle.text.specs.Putting.{Puts}
use Rattle.text.proofs.PuttingLaws.{nothing_put, same_text, then_put}

-- a decimal number has at most the digits of the greatest of its size
pub in_digits : {m at : ℕ} {b : List ℕ} {next : ℕ} {b₁ : List ℕ} (more n : ℕ) → n < 10 ^ suc more → Puts m (decimal n) at b next b₁ → Puts (suc more) (decimal n) at b next b₁
in_digits more n small p = record { put = p.put; short = length_decimal more n small }

module _ (at : ℕ) (b : List ℕ) where
  pub hex_none_put : (width n : ℕ) → width ≡ 0 → Puts width (hex width n) at b at b
  unfolding hex
  hex_none_put width n none =
      record { put = (same_text (ap (λ (w : ℕ). hex w n) (sym none)) (nothing_put at b)).put; short = omega (arith, length_hex width n) }

  pub hex_put : {k l m next : ℕ} {b₁ b₂ : List ℕ} (width n : ℕ) → 0 < width → Puts k (hex (width - 1) (n / 16)) at b m b₁ → Puts l (digit (n % 16) ∷ []) m b₁ next b₂ → Puts width (hex width n) at b next b₂
  hex_put width n some first last =
      record { put = (same_text (sym (hex_more width n some)) (then_put first last)).put; short = omega (arith, length_hex width n) }

  pub decimal_last_put : {k next : ℕ} {b₁ : List ℕ} (more n : ℕ) → n < 10 ^ suc more → n < 10 → Puts k (digit n ∷ []) at b next b₁ → Puts (suc more) (decimal n) at b next b₁
  decimal_last_put more n fits small last = in_digits more n fits (same_text (sym (decimal_last n small)) last)

  pub decimal_put : {k l m next : ℕ} {b₁ b₂ : List ℕ} (more n : ℕ) → n < 10 ^ suc more → 10 ≤ n → Puts k (decimal (n / 10)) at b m b₁ → Puts l (digit (n % 10) ∷ []) m b₁ next b₂ → Puts (suc more) (decimal n) at b next b₂
  decimal_put more n fits large first last =
      in_digits more n fits (same_text (sym (decimal_more n large)) (then_put first last))
