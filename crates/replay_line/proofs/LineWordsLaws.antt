-- Laws of the words of a text: the spaces at its front, its first word, and two words compared.
use Rattle.std.specs.Prelude.{ℕ, suc, ◌+◌, ◌<◌, ◌≡◌, refl, Bool, true, false, not, cond, ◌&&◌, eqb, ◌==◌, length, take, drop}
use Rattle.std.specs.Bool.{Decides}
use Rattle.std.specs.List.{prefix_len}
use Rattle.std.proofs.Common.{sym, ◌∙◌, ap, arith, eq-eqb, ne_eqb, eqb-true}
use Rattle.std.proofs.Math.Numerals.{one-add}
use mathlib.Core.List.{List, [], ◌∷◌, ◌++◌, append_assoc, append-nil}
use Rattle.std.proofs.Math.Bool.{and-false}
use Rattle.std.proofs.lemmas.Bool.{eqb-false}
use Rattle.std.proofs.lemmas.Slice.Eq.{compares_Decides}
use Rattle.replay_line.specs.LineWords.{space, closed, words_after, words, same_word}

-- a space closes what is read of a word
pub at_space : (read : List ℕ) (c : ℕ) (text : List ℕ) → c ≡ space → words_after read (c ∷ text) ≡ closed read (words text)
unfolding words_after words
at_space read c text h = simp (eq-eqb c space h)

-- any other character goes on with it
pub at_other : (read : List ℕ) (c : ℕ) (text : List ℕ) → (c ≡ space → ⊥) → words_after read (c ∷ text) ≡ words_after (read ++ (c ∷ [])) text
unfolding words_after
at_other read c text h = simp (ne_eqb c space h)

pub space_skipped : (c : ℕ) (text : List ℕ) → c ≡ space → words (c ∷ text) ≡ words text
unfolding words
space_skipped c text h = at_space [] c text h

-- how many spaces stand at the front, and how long the word there is
abbrev spaces : List ℕ → ℕ
spaces text = prefix_len (λ c. c == space) text

abbrev word_length : List ℕ → ℕ
word_length text = prefix_len (λ c. not (c == space)) text

-- a word that is read up to its end
run_through : (read text : List ℕ) → words_after read text ≡ closed (read ++ take (word_length text) text) (words (drop (word_length text) text))
unfolding words words_after
run_through read [] = ap (λ (w : List ℕ). closed w []) (sym (append-nil read))
run_through read (c ∷ text) = by (eqb c space) refl (run_through (read ++ (c ∷ [])) text)
  where
    by : (t : Bool) → eqb c space ≡ t → words_after (read ++ (c ∷ [])) text ≡ closed ((read ++ (c ∷ [])) ++ take (word_length text) text) (words (drop (word_length text) text)) → words_after read (c ∷ text) ≡ closed (read ++ take (cond (not t) (1 + word_length text) 0) (c ∷ text)) (words (drop (cond (not t) (1 + word_length text) 0) (c ∷ text)))
    by true e on =
        at_space read c text (eqb-true c space e)
        ∙ ap (λ (w : List ℕ). closed w (words text)) (sym (append-nil read))
        ∙ ap (closed (read ++ [])) (sym (space_skipped c text (eqb-true c space e)))
    by false e on =
        at_other read c text (eqb-false c space e)
        ∙ on
        ∙ ap (λ (w : List ℕ). closed w (words (drop (word_length text) text))) (append_assoc read (c ∷ []) (take (word_length text) text))
        ∙ ap (λ (n : ℕ). closed (read ++ take n (c ∷ text)) (words (drop n (c ∷ text)))) (sym (one-add (word_length text)))

-- the text from its first word on
abbrev from_word : List ℕ → List ℕ
from_word text = drop (spaces text) text

-- no word in a text of spaces
pub no_words : (text : List ℕ) → length (from_word text) ≡ 0 → words text ≡ []
unfolding words words_after
no_words [] h = refl
no_words (c ∷ text) h = by (eqb c space) refl (no_words text) h
  where
    by : (t : Bool) → eqb c space ≡ t → (length (from_word text) ≡ 0 → words text ≡ []) → length (drop (cond t (1 + spaces text) 0) (c ∷ text)) ≡ 0 → words (c ∷ text) ≡ []
    by true e on h = space_skipped c text (eqb-true c space e) ∙ on (rw one-add at h)
    by false e on h = absurd (omega (arith, h))

-- the word at the front, and the words after it
abbrev word_first : List ℕ → List (List ℕ)
word_first text = take (word_length text) text ∷ words (drop (word_length text) text)

pub first_word : (text : List ℕ) → 0 < length (from_word text) → words text ≡ word_first (from_word text)
unfolding words
first_word [] h = absurd (omega (arith, h))
first_word (c ∷ text) h = by (eqb c space) refl (first_word text) h
  where
    by : (t : Bool) → eqb c space ≡ t → (0 < length (from_word text) → words text ≡ word_first (from_word text)) → 0 < length (drop (cond t (1 + spaces text) 0) (c ∷ text)) → words (c ∷ text) ≡ word_first (drop (cond t (1 + spaces text) 0) (c ∷ text))
    by true e on h =
        space_skipped c text (eqb-true c space e)
        ∙ on (rw one-add at h)
        ∙ ap (λ (n : ℕ). word_first (drop n (c ∷ text))) (sym (one-add (spaces text)))
    by false e on h =
        at_other [] c text (eqb-false c space e)
        ∙ run_through (c ∷ []) text
        ∙ ap (λ (n : ℕ). take n (c ∷ text) ∷ words (drop n (c ∷ text))) (sym (ap (λ (t : Bool). cond (not t) (1 + word_length text) 0) e ∙ one-add (word_length text)))

-- comparing two words
pub same_decides : (word name : List ℕ) → Decides (same_word word name) (word ≡ name)
unfolding same_word
same_decides = compares_Decides same_word (record { empty = refl; shorter = λ y ys. refl; longer = λ x xs. refl; heads = λ x y xs ys. refl })

pub unlike : (word name : List ℕ) → (length word ≡ length name → ⊥) → same_word word name ≡ false
unfolding same_word
unlike [] [] h = absurd (h refl)
unlike [] (y ∷ ys) h = refl
unlike (x ∷ xs) [] h = refl
unlike (x ∷ xs) (y ∷ ys) h =
    ap (λ (t : Bool). eqb x y && t) (unlike xs ys (λ e. h (ap suc e))) ∙ and-false (eqb x y)
