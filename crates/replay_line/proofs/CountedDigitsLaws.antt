-- Laws of a loop that counts the digits of a number: up to an offset they came to a value. No function needs them, since each digit changes the value at its own place.
use Rattle.std.specs.Prelude.{ℕ, ◌+◌, ◌-◌, ◌*◌, ◌≤◌, ◌<◌, ◌≡◌, true, false, List, ◌∷◌, length, get_or, drop, None, Some}
use Rattle.std.proofs.Common.{◌∙◌, ap, add-one, arith, drop_of_length-le, drop-cons}
use borrow.Author.Tests.{ne_eqb}
use Rattle.text.specs.Words.{is_digit}
use Rattle.replay_line.specs.LineValues.{leading_zero, greatest, digits_after, number}
use Rattle.replay_line.proofs.LineValuesLaws.{digit_more_law, no_digit, too_great, no_more}

-- the loop's state: the digits up to i came to n
pub record Counting (word : List ℕ) (n i : ℕ) : Type 0 where
  pub within : i ≤ length word
  pub small : n ≤ greatest
  pub so : number word ≡ digits_after n (drop i word)

module _ (word : List ℕ) where
  pub count_begun : (length word ≡ 0 → ⊥) → leading_zero word ≡ false → Counting word 0 0
  unfolding number
  count_begun h z = record { within = omega arith; small = omega arith; so = simp (ne_eqb (length word) 0 h, z) }

  module _ {n i : ℕ} (s : Counting word n i) (h : i < length word) where
    front : number word ≡ digits_after n (get_or word i 0 ∷ drop (i + 1) word)
    front = s.so ∙ ap (digits_after n) (rw (add-one, drop-cons word i 0))

    pub count_stopped : is_digit (get_or word i 0) ≡ false → number word ≡ None
    count_stopped d = front ∙ no_digit n _ _ d

    module _ (d : is_digit (get_or word i 0) ≡ true) where
      pub count_over : greatest < n * 10 + (get_or word i 0 - 48) → number word ≡ None
      count_over g = front ∙ digit_more_law n _ _ d ∙ too_great _ _ g

      pub count_more : n * 10 + (get_or word i 0 - 48) ≤ greatest → Counting word (n * 10 + (get_or word i 0 - 48)) (i + 1)
      count_more g = record { within = omega arith; small = g; so = front ∙ digit_more_law n _ _ d }

  pub count_done : {n i : ℕ} → Counting word n i → length word ≤ i → number word ≡ Some n
  count_done {n} {i} s h = s.so ∙ ap (digits_after n) (drop_of_length-le word h) ∙ no_more n s.small
