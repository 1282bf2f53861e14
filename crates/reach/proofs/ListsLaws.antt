-- Document 01, "Ports and their records": laws of lists. An element before and after a store and a map, the search for a place, and a sum over the places.
use Prim.Native.Nat.{ℕ, zero, suc, ◌+◌, ◌<◌}
use Rattle.std.specs.Prelude.{◌≡◌, Bool, true, false, length, get_or, set, replicate}
use Rattle.std.proofs.Common.{sym, ◌∙◌, true≢false, le_of_suc-le-suc, not-suc-le-zero}
use mathlib.Core.List.{List, [], ◌∷◌, map}
use native.Mathlib.Omega.{arith}
use Rattle.report.proofs.ChoicesLaws.{by_case}
use Rattle.port.specs.declared.Request.{Request}
use Rattle.port.specs.Places.{first_at, sum_over}

module _ {A : Type 0} (R : A → A → Type 0) (d : A) where
  -- what relates each element to itself and to the one that is stored relates it to what is there afterwards
  pub after_set : (xs : List A) (i : ℕ) (a : A) → ((x : A) → R x x) → ((x : A) → R x a) → (k : ℕ) → R (get_or xs k d) (get_or (set xs i a) k d)
  after_set [] i a s t k = s d
  after_set (x ∷ xs) zero a s t zero = t x
  after_set (x ∷ xs) zero a s t (suc k) = s (get_or xs k d)
  after_set (x ∷ xs) (suc i) a s t zero = s x
  after_set (x ∷ xs) (suc i) a s t (suc k) = after_set xs i a s t k

  pub after_map : (f : A → A) (xs : List A) → R d d → ((x : A) → R x (f x)) → (k : ℕ) → R (get_or xs k d) (get_or (map f xs) k d)
  after_map f [] s t k = s
  after_map f (x ∷ xs) s t zero = t x
  after_map f (x ∷ xs) s t (suc k) = after_map f xs s t k

pub each_replicate : {A : Type 0} (P : A → Type 0) (d : A) (n : ℕ) (a : A) → P a → P d → (k : ℕ) → P (get_or (replicate n a) k d)
each_replicate P d zero a p q k = q
each_replicate P d (suc n) a p q zero = p
each_replicate P d (suc n) a p q (suc k) = each_replicate P d n a p q k

module _ (test : Request → Bool) (d : Request) where
  -- a place that passes the test is found, at that place or before
  pub passes_found : (xs : List Request) (k : ℕ) → test d ≡ false → test (get_or xs k d) ≡ true → first_at test xs < length xs
  unfolding first_at
  passes_found [] k f e = absurd (true≢false (sym e ∙ f))
  passes_found (x ∷ xs) zero f e = simp e (omega arith)
  passes_found (x ∷ xs) (suc k) f e =
      let h = passes_found xs k f e in
      by_case (λ (n : ℕ). n < suc (length xs)) (test x) (λ q. omega arith) (λ q. omega arith)

module _ (f : Request → ℕ) where
  -- one place of the sum is exchanged for another
  pub sum_set : (xs : List Request) (i : ℕ) (a d : Request) → i < length xs → sum_over f (set xs i a) + f (get_or xs i d) ≡ sum_over f xs + f a
  unfolding sum_over
  sum_set [] i a d h = absurd (not-suc-le-zero h)
  sum_set (x ∷ xs) zero a d h = omega arith
  sum_set (x ∷ xs) (suc i) a d h = omega (arith, sum_set xs i a d (le_of_suc-le-suc h))
