-- Laws of a loop that puts one text for each element, over any elements and any texts.
use Prim.Native.Nat.{ℕ, zero, suc, ◌+◌, ◌*◌, ◌≤◌, ◌<◌}
use Rattle.std.specs.Prelude.{◌≡◌, refl, length, take, get_or}
use Rattle.std.proofs.Math.Path.{sym, ap}
use Rattle.std.proofs.Common.{◌∙◌, subst, add-zero, mul-suc, le_of_suc-le-suc, not-suc-le-zero, add-one, take_all}
use mathlib.Core.List.{List, [], ◌∷◌, ◌++◌, append_assoc, append-nil}
use native.Mathlib.Omega.{arith}
use Rattle.text.specs.Putting.{Puts, Outputs}
use Rattle.text.specs.declared.Out.{Out}
use Rattle.text.proofs.PuttingLaws.{nothing_put, same_text, at_most, then_put}
use Rattle.text.specs.Texts.{each_from, each}

module _ {A : Type 0} (text : ℕ → A → List ℕ) where
  -- one element more
  each_more : (n i : ℕ) (xs : List A) (d : A) → i < length xs → each_from text n (take (suc i) xs) ≡ each_from text n (take i xs) ++ text (n + i) (get_or xs i d)
  unfolding each_from
  each_more n i [] d h = absurd (not-suc-le-zero h)
  each_more n zero (x ∷ xs) d h = append-nil (text n x) ∙ ap (λ (k : ℕ). text k x) (sym (add-zero n))
  each_more n (suc i) (x ∷ xs) d h =
      let e : suc n + i ≡ n + suc i = omega arith in
      ap (λ (l : List ℕ). text n x ++ l) (each_more (suc n) i xs d (le_of_suc-le-suc h) ∙ ap (λ (k : ℕ). each_from text (suc n) (take i xs) ++ text k (get_or xs i d)) e)
      ∙ sym (append_assoc (text n x) (each_from text (suc n) (take i xs)) (text (n + suc i) (get_or xs i d)))

  -- the same, as a loop counts
  step : (i : ℕ) (xs : List A) (d : A) → i < length xs → each text (take i xs) ++ text i (get_or xs i d) ≡ each text (take (i + 1) xs)
  step i xs d h =
      let e : 0 + i ≡ i = omega arith in
      sym (ap (λ (n : ℕ). each text (take n xs)) (add-one i) ∙ each_more 0 i xs d h ∙ ap (λ (n : ℕ). each text (take i xs) ++ text n (get_or xs i d)) e)

-- the loop's state: the texts of the first i elements are put, each of at most `most` bytes
pub record Putting {A : Type 0} (text : ℕ → A → List ℕ) (most count : ℕ) (xs : List A) (at : ℕ) (b₀ : List ℕ) (next : ℕ) (b : List ℕ) (i : ℕ) : Type 0 where
  pub within : i ≤ count
  pub so : Puts (most * i) (each text (take i xs)) at b₀ next b

pub each_begun : {A : Type 0} (text : ℕ → A → List ℕ) (most count : ℕ) (xs : List A) (at : ℕ) (b : List ℕ) → Putting text most count xs at b at b 0
unfolding each_from
each_begun text most count xs at b =
    record { within = omega arith; so = at_most (most * 0) (omega arith) (nothing_put at b) }

module _ {A : Type 0} {text : ℕ → A → List ℕ} {most count : ℕ} {xs : List A} {at : ℕ} {b₀ : List ℕ} {next : ℕ} {b : List ℕ} {i : ℕ} (p : Putting text most count xs at b₀ next b i) where
  pub each_put : {next₁ : ℕ} {b₁ : List ℕ} (d : A) → i < count → i < length xs → Puts most (text i (get_or xs i d)) next b next₁ b₁ → Putting text most count xs at b₀ next₁ b₁ (i + 1)
  each_put {next₁} {b₁} d more inside q =
      let e : most * i + most ≡ most * (i + 1) = sym (ap (λ (k : ℕ). most * k) (add-one i) ∙ mul-suc most i) in
      record {
        within = omega arith;
        so = subst (λ (n : ℕ). Puts n (each text (take (i + 1) xs)) at b₀ next₁ b₁) e (same_text (step text i xs d inside) (then_put p.so q));
      }

  -- the elements counted, and all of them
  pub each_counted : count ≤ i → Puts (most * count) (each text (take count xs)) at b₀ next b
  each_counted out =
      let e : i ≡ count = omega (arith, p.within) in
      subst (λ (k : ℕ). Puts (most * k) (each text (take k xs)) at b₀ next b) e p.so

  pub each_done : length xs ≡ count → count ≤ i → Puts (most * count) (each text xs) at b₀ next b
  each_done all out = same_text (ap (each_from text 0) (take_all count xs (omega arith))) (each_counted out)

-- the same of a lent buffer with its offset
pub record Outputting {A : Type 0} (text : ℕ → A → List ℕ) (most count : ℕ) (xs : List A) (o o₁ : Out) (i : ℕ) : Type 0 where
  pub state : Putting text most count xs o.at o.buffer.now o₁.at o₁.buffer.now i
  pub same : o.buffer.ghost_name ≡ o₁.buffer.ghost_name

pub out_begun : {A : Type 0} (text : ℕ → A → List ℕ) (most count : ℕ) (xs : List A) (o : Out) → Outputting text most count xs o o 0
out_begun text most count xs o =
    record { state = each_begun text most count xs o.at o.buffer.now; same = refl }

module _ {A : Type 0} {text : ℕ → A → List ℕ} {most count : ℕ} {xs : List A} {o o₁ : Out} {i : ℕ} (p : Outputting text most count xs o o₁ i) where
  pub out_each : {o₂ : Out} {x : A} (d : A) → i < count → i < length xs → x ≡ get_or xs i d → Outputs most (text i x) o₁ o₂ → Outputting text most count xs o o₂ (i + 1)
  out_each {o₂} d more inside is q =
      record {
        state = each_put p.state d more inside (same_text (ap (text i) is) q.puts);
        same = p.same ∙ q.same;
      }

  pub out_done : length xs ≡ count → count ≤ i → Outputs (most * count) (each text xs) o o₁
  out_done all out = record { puts = each_done p.state all out; same = p.same }

-- a word is put byte by byte
abbrev pub letter : ℕ → ℕ → List ℕ
letter i byte = byte ∷ []

letters : (n : ℕ) (word : List ℕ) → each_from letter n word ≡ word
unfolding each_from
letters n [] = refl
letters n (c ∷ word) = ap (λ (l : List ℕ). c ∷ l) (letters (suc n) word)

pub word_done : {word : List ℕ} {at : ℕ} {b₀ : List ℕ} {next : ℕ} {b : List ℕ} {i : ℕ} → Putting letter 1 (length word) word at b₀ next b i → length word ≤ i → Puts (length word) word at b₀ next b
word_done {word} p out = same_text (letters 0 word) (at_most (length word) (omega arith) (each_done p refl out))

pub out_word : {word : List ℕ} {o o₁ : Out} {i : ℕ} → Outputting letter 1 (length word) word o o₁ i → length word ≤ i → Outputs (length word) word o o₁
out_word p out = record { puts = word_done p.state out; same = p.same }
