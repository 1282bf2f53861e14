-- Laws of numbers as text, over any width and any number of digits.
use Rattle.std.specs.Prelude.{ℕ, zero, suc, ◌-◌, ◌^◌, ◌/◌, ◌%◌, ◌≤◌, ◌<◌, ◌≡◌, refl, List, [], ◌∷◌, ◌++◌, Bool, true, false, cond, ltb, length}
use Rattle.std.proofs.Common.{sym, ap, not-suc-le-zero, arith, length-append, lt-ltb, le-ltb, ltb-true, ltb-false}
use Rattle.text.specs.Words.{digit, hex, decimal, decimal_in}

pub length_hex : (width n : ℕ) → length (hex width n) ≡ width
unfolding hex
length_hex zero n = refl
length_hex (suc width) n = omega (arith, length-append (hex width (n / 16)) (digit (n % 16) ∷ []), length_hex width (n / 16))

-- one digit more
pub hex_more : (width n : ℕ) → 0 < width → hex width n ≡ hex (width - 1) (n / 16) ++ (digit (n % 16) ∷ [])
unfolding hex
hex_more zero n h = absurd (not-suc-le-zero h)
hex_more (suc width) n h =
    let e : suc width - 1 ≡ width = omega arith in
    ap (λ (w : ℕ). hex w (n / 16) ++ (digit (n % 16) ∷ [])) (sym e)

-- room for more digits than there are changes nothing
enough : (a b n : ℕ) → n < a → n < b → decimal_in a n ≡ decimal_in b n
unfolding decimal_in
enough zero b n p q = absurd (not-suc-le-zero p)
enough (suc a) zero n p q = absurd (not-suc-le-zero q)
enough (suc a) (suc b) n p q = by (ltb n 10) refl (λ (p : n / 10 < a) (q : n / 10 < b). enough a b (n / 10) p q)
  where
    by : (t : Bool) → ltb n 10 ≡ t → (n / 10 < a → n / 10 < b → decimal_in a (n / 10) ≡ decimal_in b (n / 10)) → cond t (digit n ∷ []) (decimal_in a (n / 10) ++ (digit (n % 10) ∷ [])) ≡ cond t (digit n ∷ []) (decimal_in b (n / 10) ++ (digit (n % 10) ∷ []))
    by true e same = refl
    by false e same =
        let l : 10 ≤ n = ltb-false _ _ e in
        ap (λ (l : List ℕ). l ++ (digit (n % 10) ∷ [])) (same (omega arith) (omega arith))

pub decimal_last : (n : ℕ) → n < 10 → decimal n ≡ digit n ∷ []
unfolding decimal decimal_in
decimal_last n h = simp (lt-ltb n 10 h)

-- one digit more
pub decimal_more : (n : ℕ) → 10 ≤ n → decimal n ≡ decimal (n / 10) ++ (digit (n % 10) ∷ [])
unfolding decimal decimal_in
decimal_more n h =
    simp (le-ltb n 10 h) (ap (λ (l : List ℕ). l ++ (digit (n % 10) ∷ [])) (enough n (suc (n / 10)) (n / 10) (omega arith) (omega arith)))

-- a number below a power of 10 has at most as many digits as the power says
pub length_decimal : (more n : ℕ) → n < 10 ^ suc more → length (decimal n) ≤ suc more
length_decimal zero n h = rw (decimal_last n h) (omega arith)
length_decimal (suc more) n h = by (ltb n 10) refl (length_decimal more (n / 10))
  where
    by : (t : Bool) → ltb n 10 ≡ t → (n / 10 < 10 ^ suc more → length (decimal (n / 10)) ≤ suc more) → length (decimal n) ≤ suc (suc more)
    by true e shorter = rw (decimal_last n (ltb-true _ _ e)) (omega arith)
    by false e shorter =
        let l : n / 10 < 10 ^ suc more = omega arith in
        rw (decimal_more n (ltb-false _ _ e)) (omega (arith, length-append (decimal (n / 10)) (digit (n % 10) ∷ []), shorter l))
