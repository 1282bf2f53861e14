-- Laws of a loop that adds up a number over the places.
use Prim.Native.Nat.{ℕ, zero, suc, ◌+◌, ◌≤◌, ◌<◌}
use Rattle.std.specs.Prelude.{◌≡◌, refl, length, get_or, take, Bool, true, false, cond, not, eqb, count_by}
use Rattle.std.proofs.Common.{◌∙◌, ap, le_of_suc-le-suc, not-suc-le-zero, add-one, take_all}
use mathlib.Core.List.{List, [], ◌∷◌}
use native.Mathlib.Omega.{arith}
use Rattle.std.proofs.lemmas.List.Recursion.{is_count_by}
use Rattle.port.specs.declared.Request.{Request}
use Rattle.port.specs.Places.{is_empty, sum_over, one_if_waiting, count_waiting}
use Rattle.port.specs.Ticks.{one_if_ending}

module _ (f : Request → ℕ) where
  one_more : (i : ℕ) (xs : List Request) (d : Request) → i < length xs → sum_over f (take (suc i) xs) ≡ sum_over f (take i xs) + f (get_or xs i d)
  unfolding sum_over
  one_more i [] d h = absurd (not-suc-le-zero h)
  one_more zero (x ∷ xs) d h = omega arith
  one_more (suc i) (x ∷ xs) d h = omega (arith, one_more i xs d (le_of_suc-le-suc h))

  -- the loop's state: the first i places are counted
  pub record Summed (xs : List Request) (sum i : ℕ) : Type 0 where
    pub within : i ≤ length xs
    pub so : sum ≡ sum_over f (take i xs)
    pub small : sum ≤ i

  pub sum_begun : (xs : List Request) → Summed xs 0 0
  unfolding sum_over
  sum_begun xs = record { within = omega arith; so = refl; small = omega arith }

  pub sum_more : {xs : List Request} {sum i : ℕ} (d : Request) (n : ℕ) → Summed xs sum i → i < length xs → n ≡ f (get_or xs i d) → n ≤ 1 → Summed xs (sum + n) (i + 1)
  sum_more {xs} {sum} {i} d n s h e b =
      record {
        within = omega arith;
        so = omega (arith, s.so, e, one_more i xs d h, ap (λ (k : ℕ). sum_over f (take k xs)) (add-one i));
        small = omega (arith, s.small);
      }

  pub sum_done : {xs : List Request} {sum i : ℕ} → Summed xs sum i → length xs ≤ i → sum ≡ sum_over f xs
  sum_done {xs} {sum} {i} s h = s.so ∙ ap (sum_over f) (take_all i xs h)

-- the numbers of places that wait and that end are the library's counts
pub waiting : (xs : List Request) → count_waiting xs ≡ count_by (λ r. not (is_empty r)) xs
unfolding sum_over
waiting = is_count_by count_waiting (λ r. not (is_empty r)) refl (λ r rs. by (is_empty r) (count_waiting rs))
  where
    by : (b : Bool) (n : ℕ) → cond b 0 1 + n ≡ cond (not b) (1 + n) n
    by true n = omega arith
    by false n = refl

pub ending : (xs : List Request) → sum_over one_if_ending xs ≡ count_by (λ r. eqb r.ticks 1) xs
unfolding sum_over
ending = is_count_by (sum_over one_if_ending) (λ r. eqb r.ticks 1) refl (λ r rs. by (eqb r.ticks 1) (sum_over one_if_ending rs))
  where
    by : (b : Bool) (n : ℕ) → cond b 1 0 + n ≡ cond b (1 + n) n
    by true n = refl
    by false n = omega arith
