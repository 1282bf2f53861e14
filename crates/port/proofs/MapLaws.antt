-- Laws of a loop that replaces the elements of a list one by one, over any element type.
use Prim.Native.Nat.{ℕ, zero, suc, ◌+◌, ◌≤◌, ◌<◌}
use Rattle.std.specs.Prelude.{◌≡◌, length, get_or, set}
use Rattle.std.proofs.Math.Path.{refl, ap}
use Rattle.std.proofs.Common.{sym, ◌∙◌, le_of_suc-le-suc, not-suc-le-zero, add-one, arith, length-set, get_or-set_same, get_or-set_other, ext_get_or}
use mathlib.Core.List.{List, [], ◌∷◌, map}
use Rattle.std.proofs.Math.Decide.{ℕ_discrete}
use Rattle.std.proofs.lemmas.List.{length-map}
use Rattle.std.proofs.Math.ListN.{get_or-map}

module _ {A : Type 0} (g : A → A) where
  -- the first i elements replaced
  pub map_first : ℕ → List A → List A
  map_first zero xs = xs
  map_first (suc i) [] = []
  map_first (suc i) (x ∷ xs) = g x ∷ map_first i xs

  stored : (i : ℕ) (xs : List A) (d : A) → i < length xs → set (map_first i xs) i (g (get_or xs i d)) ≡ map_first (suc i) xs
  unfolding map_first
  stored i [] d h = absurd (not-suc-le-zero h)
  stored zero (x ∷ xs) d h = refl
  stored (suc i) (x ∷ xs) d h = ap (λ (l : List A). g x ∷ l) (stored i xs d (le_of_suc-le-suc h))

  whole : (i : ℕ) (xs : List A) → length xs ≤ i → map_first i xs ≡ map g xs
  unfolding map_first
  whole zero [] h = refl
  whole zero (x ∷ xs) h = absurd (not-suc-le-zero h)
  whole (suc i) [] h = refl
  whole (suc i) (x ∷ xs) h = ap (λ (l : List A). g x ∷ l) (whole i xs (le_of_suc-le-suc h))

  -- the loop's state: ys is xs with its first i elements replaced
  pub record Mapped (xs ys : List A) (i : ℕ) : Type 0 where
    pub within : i ≤ length xs
    pub so : ys ≡ map_first i xs

  pub map_begun : (xs : List A) → Mapped xs xs 0
  unfolding map_first
  map_begun xs = record { within = omega arith; so = refl }

  pub map_more : {xs ys : List A} {i : ℕ} (d v : A) → Mapped xs ys i → i < length xs → v ≡ g (get_or xs i d) → Mapped xs (set ys i v) (i + 1)
  map_more {xs} {ys} {i} d v m h e =
      record {
        within = omega arith;
        so = ap (λ (l : List A). set l i v) m.so ∙ ap (set (map_first i xs) i) e ∙ stored i xs d h ∙ ap (λ (n : ℕ). map_first n xs) (sym (add-one i));
      }

  front_unlike : (i k : ℕ) (xs : List A) (d : A) → i ≤ k → get_or (map_first i xs) k d ≡ get_or xs k d
  unfolding map_first
  front_unlike zero k xs d h = refl
  front_unlike (suc i) k [] d h = refl
  front_unlike (suc i) zero (x ∷ xs) d h = absurd (not-suc-le-zero h)
  front_unlike (suc i) (suc k) (x ∷ xs) d h = front_unlike i k xs d (le_of_suc-le-suc h)

  -- what comes next is still as it was
  pub map_next : {xs ys : List A} {i : ℕ} (d : A) → Mapped xs ys i → get_or ys i d ≡ get_or xs i d
  map_next {xs} {ys} {i} d m = ap (λ (l : List A). get_or l i d) m.so ∙ front_unlike i i xs d (omega arith)

  pub map_done : {xs ys : List A} {i : ℕ} → Mapped xs ys i → length xs ≤ i → ys ≡ map g xs
  map_done {xs} {ys} {i} m h = m.so ∙ whole i xs h

-- a loop that writes one value of another list for each element
module _ {A B : Type 0} (f : A → B) (d : A) where
  -- the loop's state: the first i values are those of xs's first i elements
  pub record Listed (xs : List A) (ys : List B) (i : ℕ) : Type 0 where
    pub within : i ≤ length xs
    pub same : length ys ≡ length xs
    pub so : (k : ℕ) → k < i → get_or ys k (f d) ≡ f (get_or xs k d)

  pub list_begun : (xs : List A) (ys : List B) → length ys ≡ length xs → Listed xs ys 0
  list_begun xs ys e = record { within = omega arith; same = e; so = λ k h. absurd (not-suc-le-zero h) }

  pub list_more : {xs : List A} {ys : List B} {i : ℕ} (v : B) → Listed xs ys i → i < length xs → v ≡ f (get_or xs i d) → Listed xs (set ys i v) (i + 1)
  list_more {xs} {ys} {i} v l h e =
      record {
        within = omega arith;
        same = length-set ys i v ∙ l.same;
        so = go;
      }
    where
      at : (k : ℕ) → Dec (k ≡ i) → k < i + 1 → get_or (set ys i v) k (f d) ≡ f (get_or xs k d)
      at k (yes p) q = ap (λ (n : ℕ). get_or (set ys i v) n (f d)) p ∙ get_or-set_same ys i v (f d) (omega (arith, l.same)) ∙ e ∙ ap (λ (n : ℕ). f (get_or xs n d)) (sym p)
      at k (no p) q = get_or-set_other ys i k v (f d) p ∙ l.so k (omega arith)

      go : (k : ℕ) → k < i + 1 → get_or (set ys i v) k (f d) ≡ f (get_or xs k d)
      go k q = at k (ℕ_discrete k i) q

  pub list_done : {xs : List A} {ys : List B} {i : ℕ} → Listed xs ys i → length xs ≤ i → ys ≡ map f xs
  list_done {xs} {ys} {i} l h =
      ext_get_or (f d) ys (map f xs) (l.same ∙ sym (length-map xs f)) (λ k q. l.so k (omega (arith, l.same)) ∙ sym (get_or-map f xs k d))
