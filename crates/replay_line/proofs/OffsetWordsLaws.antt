-- Laws of the words of a line that is read by offsets in it: spaces skipped, a word run through, and two words compared character by character. No function needs them, since the readers take the rest of a text and keep no offset.
use Rattle.std.specs.Prelude.{ℕ, suc, ◌+◌, ◌-◌, ◌≤◌, ◌<◌, ◌≡◌, refl, Bool, true, false, not, ◌&&◌, eqb, get_or, take, drop}
use Rattle.std.proofs.Common.{sym, ◌∙◌, add-one, length-drop, drop_of_length-le, drop-cons, take-suc, get_or-drop, length-take-le, eq-eqb, ne_eqb, eqb-true}
use Rattle.std.proofs.Math.Path.{ap}
use mathlib.Core.List.{List, [], ◌∷◌, ◌++◌}
use native.Mathlib.Omega.{arith}
use Rattle.std.proofs.Math.ListN.{length}
use Rattle.std.proofs.lemmas.Bool.{eqb-false}
use Rattle.replay_line.specs.LineWords.{space, closed, words_after, words, same_word, no_word}
use Rattle.replay_line.proofs.LineWordsLaws.{at_space, at_other, space_skipped}

-- from a start up to an end
abbrev pub part : ℕ → ℕ → List ℕ → List ℕ
part start end line = take (end - start) (drop start line)

abbrev pub starts_space : List ℕ → Bool
starts_space [] = false
starts_space (c ∷ text) = eqb c space

abbrev pub starts_word : List ℕ → Bool
starts_word [] = false
starts_word (c ∷ text) = not (eqb c space)

-- r is the first offset from `at` on that holds no space
pub record Skipped (line : List ℕ) (at r : ℕ) : Type 0 where
  pub within : r ≤ length line
  pub same : words (drop at line) ≡ words (drop r line)
  pub solid : starts_space (drop r line) ≡ false

-- r is the end of the word from `start` on
pub record Ended (line : List ℕ) (start r : ℕ) : Type 0 where
  pub ordered : start ≤ r
  pub within : r ≤ length line
  pub so : words (drop start line) ≡ closed (part start r line) (words (drop r line))
  pub stopped : starts_word (drop r line) ≡ false

-- a word before the words that follow; no character is no word, and the end
abbrev pub word_from : List ℕ → List (List ℕ) → List (List ℕ)
word_from [] following = []
word_from (c ∷ word) following = (c ∷ word) ∷ following

pub record NextWord (line : List ℕ) (at start end : ℕ) : Type 0 where
  pub ordered : start ≤ end
  pub within : end ≤ length line
  pub so : words (drop at line) ≡ word_from (part start end line) (words (drop end line))

length_part : (start end : ℕ) (line : List ℕ) → start ≤ end → end ≤ length line → length (part start end line) ≡ end - start
length_part start end line p q =
    length-take-le (end - start) (drop start line) (omega (arith, length-drop start line))

-- the text from an offset on begins with the character there
front : (line : List ℕ) (i : ℕ) → i < length line → drop i line ≡ get_or line i 0 ∷ drop (i + 1) line
front line i h = rw (add-one, drop-cons line i 0)

-- no word in an empty text
none_left : (text : List ℕ) → starts_space text ≡ false → starts_word text ≡ false → words text ≡ []
unfolding words words_after
none_left [] p q = refl
none_left (c ∷ text) p q = let z : ◌≡◌ {A = Bool} true false = sym (ap not p) ∙ q in absurd (let n : ◌≡◌ {A = ℕ} 0 1 = cc in omega arith)

-- skipping spaces
pub record Skipping (line : List ℕ) (at i : ℕ) : Type 0 where
  pub within : i ≤ length line
  pub same : words (drop at line) ≡ words (drop i line)

module _ (line : List ℕ) (at : ℕ) where
  pub skip_begun : at ≤ length line → Skipping line at at
  skip_begun h = record { within = h; same = refl }

  pub skip_more : {i : ℕ} → Skipping line at i → i < length line → get_or line i 0 ≡ space → Skipping line at (i + 1)
  skip_more {i} s h e =
      record { within = omega arith; same = s.same ∙ ap words (front line i h) ∙ space_skipped _ _ e }

  pub skip_found : {i : ℕ} → Skipping line at i → i < length line → (get_or line i 0 ≡ space → ⊥) → Skipped line at i
  skip_found {i} s h e =
      record { within = s.within; same = s.same; solid = ap starts_space (front line i h) ∙ ne_eqb _ _ e }

  pub skip_out : {i : ℕ} → Skipping line at i → length line ≤ i → Skipped line at i
  skip_out {i} s h =
      record { within = s.within; same = s.same; solid = ap starts_space (drop_of_length-le line h) }

  pub skip_past : length line < at → Skipped line at (length line)
  skip_past h =
      let past : length line ≤ at = omega arith in
      let end : length line ≤ length line = omega arith in
      record {
        within = end;
        same = ap words (drop_of_length-le line past ∙ sym (drop_of_length-le line end));
        solid = ap starts_space (drop_of_length-le line end);
      }

-- running through a word
pub record Running (line : List ℕ) (start i : ℕ) : Type 0 where
  pub ordered : start ≤ i
  pub within : i ≤ length line
  pub so : words (drop start line) ≡ words_after (part start i line) (drop i line)

-- one character more
part_more : (line : List ℕ) (start i : ℕ) → start ≤ i → i < length line → part start (i + 1) line ≡ part start i line ++ (get_or line i 0 ∷ [])
part_more line start i p h =
    let n : i + 1 - start ≡ suc (i - start) = omega arith in
    let j : i - start < length (drop start line) = omega (arith, length-drop start line) in
    let k : start + (i - start) ≡ i = omega arith in
    ap (λ (m : ℕ). take m (drop start line)) n
    ∙ take-suc (drop start line) (i - start) 0 j
    ∙ ap (λ (c : ℕ). part start i line ++ (c ∷ [])) (get_or-drop start line (i - start) 0 ∙ ap (λ (m : ℕ). get_or line m 0) k)

module _ (line : List ℕ) (start : ℕ) where
  pub run_begun : start ≤ length line → Running line start start
  unfolding words
  run_begun h =
      let z : start - start ≡ 0 = omega arith in
      record {
        ordered = omega arith;
        within = h;
        so = ap (λ (m : ℕ). words_after (take m (drop start line)) (drop start line)) (sym z);
      }

  pub run_more : {i : ℕ} → Running line start i → i < length line → (get_or line i 0 ≡ space → ⊥) → Running line start (i + 1)
  run_more {i} r h e =
      record {
        ordered = omega (arith, r.ordered);
        within = omega arith;
        so =
            r.so
            ∙ ap (words_after (part start i line)) (front line i h)
            ∙ at_other _ _ _ e
            ∙ ap (λ (w : List ℕ). words_after w (drop (i + 1) line)) (sym (part_more line start i r.ordered h));
      }

  pub run_stopped_law : {i : ℕ} → Running line start i → i < length line → get_or line i 0 ≡ space → Ended line start i
  run_stopped_law {i} r h e =
      record {
        ordered = r.ordered;
        within = r.within;
        so =
            r.so
            ∙ ap (words_after (part start i line)) (front line i h)
            ∙ at_space _ _ _ e
            ∙ ap (closed (part start i line)) (sym (ap words (front line i h) ∙ space_skipped _ _ e));
        stopped = ap starts_word (front line i h) ∙ ap not (eq-eqb _ _ e);
      }

  pub run_out : {i : ℕ} → Running line start i → length line ≤ i → Ended line start i
  unfolding words words_after
  run_out {i} r h =
      record {
        ordered = r.ordered;
        within = r.within;
        so =
            r.so
            ∙ ap (words_after (part start i line)) (drop_of_length-le line h)
            ∙ ap (λ (t : List ℕ). closed (part start i line) (words t)) (sym (drop_of_length-le line h));
        stopped = ap starts_word (drop_of_length-le line h);
      }

one_of : (word : List ℕ) (following : List (List ℕ)) → (length word ≡ 0 → following ≡ []) → closed word following ≡ word_from word following
one_of [] following h = h refl
one_of (c ∷ word) following h = refl

pub next_found : (line : List ℕ) (at : ℕ) {start end : ℕ} → Skipped line at start → Ended line start end → NextWord line at start end
next_found line at {start} {end} s e =
    record {
      ordered = e.ordered;
      within = e.within;
      so = s.same ∙ e.so ∙ one_of (part start end line) (words (drop end line)) (λ z. none_left (drop end line) (solid_end z) e.stopped);
    }
  where
    solid_end : length (part start end line) ≡ 0 → starts_space (drop end line) ≡ false
    solid_end z =
        let same : end ≡ start = omega (arith, length_part start end line e.ordered e.within, e.ordered) in
        ap (λ (n : ℕ). starts_space (drop n line)) same ∙ s.solid

-- no word is left where the next has no characters
no_characters : (word : List ℕ) (following : List (List ℕ)) → no_word (word_from word following) ≡ eqb (length word) 0
no_characters [] following = refl
no_characters (c ∷ word) following = sym (ne_eqb (suc (length word)) 0 (λ z. omega arith))

pub at_end_law : {line : List ℕ} {at start end : ℕ} → NextWord line at start end → eqb start end ≡ no_word (words (drop at line))
at_end_law {line} {at} {start} {end} w =
    by (eqb start end) refl ∙ sym (ap no_word w.so ∙ no_characters (part start end line) (words (drop end line)))
  where
    n : length (part start end line) ≡ end - start
    n = length_part start end line w.ordered w.within

    by : (t : Bool) → eqb start end ≡ t → t ≡ eqb (length (part start end line)) 0
    by true e =
        let same : start ≡ end = eqb-true _ _ e in
        let z : length (part start end line) ≡ 0 = omega (arith, n) in
        sym (eq-eqb _ _ z)
    by false e = sym (ne_eqb (length (part start end line)) 0 (λ z. eqb-false start end e (omega (arith, n, w.ordered))))

-- comparing two words
pub record Comparing (word name : List ℕ) (i : ℕ) : Type 0 where
  pub within : i ≤ length word
  pub alike : length word ≡ length name
  pub so : same_word word name ≡ same_word (drop i word) (drop i name)

module _ (word name : List ℕ) where
  pub compare_begun : length word ≡ length name → Comparing word name 0
  compare_begun h = record { within = omega arith; alike = h; so = refl }

  module _ {i : ℕ} (c : Comparing word name i) (h : i < length word) where
    fronts : same_word word name ≡ same_word (get_or word i 0 ∷ drop (i + 1) word) (get_or name i 0 ∷ drop (i + 1) name)
    fronts =
        let k : i < length name = omega (arith, c.alike) in
        c.so ∙ ap (λ (w : List ℕ). same_word w (drop i name)) (front word i h) ∙ ap (same_word (get_or word i 0 ∷ drop (i + 1) word)) (front name i k)

    pub compare_more : get_or word i 0 ≡ get_or name i 0 → Comparing word name (i + 1)
    unfolding same_word
    compare_more e =
        record { within = omega arith; alike = c.alike; so = fronts ∙ ap (λ (t : Bool). t && same_word (drop (i + 1) word) (drop (i + 1) name)) (eq-eqb _ _ e) }

    pub compare_differs : (get_or word i 0 ≡ get_or name i 0 → ⊥) → same_word word name ≡ false
    unfolding same_word
    compare_differs e = fronts ∙ ap (λ (t : Bool). t && same_word (drop (i + 1) word) (drop (i + 1) name)) (ne_eqb _ _ e)

  pub compare_done : {i : ℕ} → Comparing word name i → length word ≤ i → same_word word name ≡ true
  unfolding same_word
  compare_done {i} c h =
      let k : length name ≤ i = omega (arith, c.alike) in
      c.so ∙ ap (λ (w : List ℕ). same_word w (drop i name)) (drop_of_length-le word h) ∙ ap (same_word []) (drop_of_length-le name k)
