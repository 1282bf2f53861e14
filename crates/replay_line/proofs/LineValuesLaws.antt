-- Laws of the values of words: two digits of a byte, and the digits of a number one after another.
use Rattle.std.specs.Prelude.{ℕ, ◌+◌, ◌-◌, ◌*◌, ◌≤◌, ◌<◌, ◌≡◌, refl, Bool, true, false, cond, ◌&&◌, List, [], ◌∷◌, leb, length, get_or, drop, None, Some}
use Rattle.std.proofs.Math.Path.{sym}
use Rattle.std.proofs.Common.{◌∙◌, ap, add-one, arith, drop_of_length-le, drop-cons}
use borrow.Author.Tests.{eq-eqb, ne_eqb, lt-ltb, le-ltb, le-leb, lt-leb}
use Rattle.report.specs.Sizes.{byte}
use Rattle.text.specs.Words.{is_digit}
use Rattle.replay_line.specs.LineValues.{hex_digit, hex_byte, all_digits, value_after, leading_zero, greatest, digits_after, number}

-- two digits: both have a value, or one has None
module _ (word : List ℕ) (high : ℕ) (two : length word ≡ 2) (h : high ≡ hex_digit (byte word 0)) where
  pub high_none : 16 ≤ high → None ≡ hex_byte word
  unfolding hex_byte
  high_none p = simp (eq-eqb (length word) 2 two, sym h, le-ltb high 16 p)

  module _ (low : ℕ) (l : low ≡ hex_digit (byte word 1)) (p : high < 16) where
    pub low_none : 16 ≤ low → None ≡ hex_byte word
    unfolding hex_byte
    low_none q = simp (eq-eqb (length word) 2 two, sym h, sym l, lt-ltb high 16 p, le-ltb low 16 q)

    pub hex_pair_law : low < 16 → Some (high * 16 + low) ≡ hex_byte word
    unfolding hex_byte
    hex_pair_law q = simp (eq-eqb (length word) 2 two, sym h, sym l, lt-ltb high 16 p, lt-ltb low 16 q)

-- a digit more makes no number smaller
pub grows : (n : ℕ) (text : List ℕ) → n ≤ value_after n text
unfolding value_after
grows n [] = omega arith
grows n (c ∷ text) =
    let r : n * 10 + (c - 48) ≤ value_after (n * 10 + (c - 48)) text = grows (n * 10 + (c - 48)) text in
    omega arith

pub digit_more_law : (n c : ℕ) (text : List ℕ) → is_digit c ≡ true → digits_after n (c ∷ text) ≡ digits_after (n * 10 + (c - 48)) text
unfolding digits_after all_digits value_after
digit_more_law n c text h = simp h

pub no_digit : (n c : ℕ) (text : List ℕ) → is_digit c ≡ false → digits_after n (c ∷ text) ≡ None
unfolding digits_after all_digits
no_digit n c text h = simp h

pub too_great : (n : ℕ) (text : List ℕ) → greatest < n → digits_after n text ≡ None
unfolding digits_after
too_great n text h = by (all_digits text)
  where
    by : (t : Bool) → cond (t && leb (value_after n text) greatest) (Some (value_after n text)) None ≡ None
    by true = simp (lt-leb (value_after n text) greatest (omega (arith, grows n text)))
    by false = refl

pub no_more : (n : ℕ) → n ≤ greatest → digits_after n [] ≡ Some n
unfolding digits_after all_digits value_after
no_more n h = simp (le-leb n greatest h)

module _ (word : List ℕ) where
  pub no_characters : length word ≡ 0 → number word ≡ None
  unfolding number
  no_characters h = simp (eq-eqb (length word) 0 h)

  pub led_by_zero : (length word ≡ 0 → ⊥) → leading_zero word ≡ true → number word ≡ None
  unfolding number
  led_by_zero h z = simp (ne_eqb (length word) 0 h, z)

-- the digits from a place on, by the one that stands there
module _ (n : ℕ) (text : List ℕ) (i : ℕ) where
  pub digit_step : i < length text → is_digit (get_or text i 0) ≡ true → digits_after n (drop i text) ≡ digits_after (n * 10 + (get_or text i 0 - 48)) (drop (i + 1) text)
  digit_step h d = rw (add-one, drop-cons text i 0) (digit_more_law n _ _ d)

  pub digit_stop : i < length text → is_digit (get_or text i 0) ≡ false → digits_after n (drop i text) ≡ None
  digit_stop h d = rw (drop-cons text i 0) (no_digit n _ _ d)

  pub digits_end : length text ≤ i → n ≤ greatest → digits_after n (drop i text) ≡ Some n
  digits_end h g = ap (digits_after n) (drop_of_length-le text h) ∙ no_more n g
