-- Laws of the first place of a byte: it is the one before which the byte is not, and a text without it has none.
use Rattle.std.specs.Prelude.{ℕ, zero, suc, ◌+◌, ◌-◌, ◌<◌, ◌≤◌, ◌≡◌, refl, Bool, true, false, cond, None, Some, List, [], ◌∷◌, ◌==◌, ltb, length, get_or, take, drop, min}
use Rattle.std.specs.Option.{unwrap_or}
use Rattle.std.proofs.Common.{sym, ◌∙◌, ap, not-suc-le-zero, arith, length-drop, length-take, length-take-le, take_all, drop_of_length-le, ltb-true, ltb-false, lt-ltb, le-ltb}
use Rattle.std.proofs.Math.Decide.{dec_le}
use Rattle.std.proofs.lemmas.List.{drop-take}
use Rattle.replay_script.specs.Finding.{slice, index_after, index_of, found_in}

-- whether the first byte is this one
none_by : (t : Bool) (k n : ℕ) → (t ≡ true → ⊥) → k ≡ n → index_after t k ≡ suc n
unfolding index_after
none_by true k n h e = absurd (h refl)
none_by false k n h e = ap suc e

first_by : (t : Bool) (k : ℕ) → t ≡ true → index_after t k ≡ 0
unfolding index_after
first_by true k e = refl
first_by false k e = absurd (let z : ◌≡◌ {A = ℕ} 0 1 = cc in omega arith)

-- no byte of a text is this one
pub index_none : (byte : ℕ) (text : List ℕ) → ((k : ℕ) → k < length text → (get_or text k 0 == byte) ≡ true → ⊥) → index_of byte text ≡ length text
unfolding index_of
index_none byte [] h = refl
index_none byte (c ∷ text) h =
    none_by (c == byte) (index_of byte text) (length text) (h 0 (omega arith)) (index_none byte text (λ k below. h (suc k) (omega (arith, below))))

-- a byte that is this one, and none before it
index_is : (byte : ℕ) (text : List ℕ) (k : ℕ) → k < length text → (get_or text k 0 == byte) ≡ true → ((j : ℕ) → j < k → (get_or text j 0 == byte) ≡ true → ⊥) → index_of byte text ≡ k
unfolding index_of
index_is byte [] k h e before = absurd (not-suc-le-zero h)
index_is byte (c ∷ text) zero h e before = first_by (c == byte) (index_of byte text) e
index_is byte (c ∷ text) (suc k) h e before =
    none_by (c == byte) (index_of byte text) k (before 0 (omega arith)) (index_is byte text k (omega (arith, h)) e (λ j below. before (suc j) (omega (arith, below))))

-- and no place is behind the end
within_by : (t : Bool) (k n : ℕ) → k ≤ n → index_after t k ≤ suc n
unfolding index_after
within_by true k n h = omega arith
within_by false k n h = omega (arith, h)

pub index_within : (byte : ℕ) (text : List ℕ) → index_of byte text ≤ length text
unfolding index_of
index_within byte [] = omega arith
index_within byte (c ∷ text) = within_by (c == byte) (index_of byte text) (length text) (index_within byte text)

pub part_size : (start end : ℕ) (text : List ℕ) → end ≤ length text → length (slice start end text) ≡ end - start
unfolding slice
part_size start end text h = omega (arith, length-drop start (take end text), length-take-le end text h)

-- what is found in a part is the first place, and within it
pub record Found (byte start end : ℕ) (text : List ℕ) (place : ℕ) : Type 0 where
  pub so : place ≡ start + index_of byte (slice start end text)
  pub within : index_of byte (slice start end text) < length (slice start end text)

module _ (byte start end : ℕ) (text : List ℕ) where
  abbrev part : List ℕ
  part = slice start end text

  is_some : (t : Bool) {place : ℕ} → ltb (index_of byte part) (length part) ≡ t → Some place ≡ cond t (Some (start + index_of byte part)) None → Found byte start end text place
  is_some true {place} e f =
      record { so = cc; within = ltb-true (index_of byte part) (length part) e }
  is_some false e f = absurd (let z : ◌≡◌ {A = ℕ} 0 1 = cc in omega arith)

  pub found : {place : ℕ} → Some place ≡ found_in byte start end text → Found byte start end text place
  unfolding found_in
  found f = is_some (ltb (index_of byte part) (length part)) refl f

  is_none : (t : Bool) → ltb (index_of byte part) (length part) ≡ t → None ≡ cond t (Some (start + index_of byte part)) None → length part ≤ index_of byte part
  is_none true e f = absurd (let z : ◌≡◌ {A = ℕ} 0 1 = cc in omega arith)
  is_none false e f = ltb-false (index_of byte part) (length part) e

  -- where nothing is found, no place of the part is one of the byte
  pub not_found : None ≡ found_in byte start end text → length part ≤ index_of byte part
  unfolding found_in
  not_found f = is_none (ltb (index_of byte part) (length part)) refl f

  pub found_within : {place : ℕ} → end ≤ length text → Found byte start end text place → place < end
  found_within h f = omega (arith, f.so, f.within, part_size start end text h)

  -- the first place, or the end of the part where it has none
  or_end_by : (t : Bool) → ltb (index_of byte part) (length part) ≡ t → unwrap_or (cond t (Some (start + index_of byte part)) None) (start + length part) ≡ start + index_of byte part
  or_end_by true e = refl
  or_end_by false e =
      let same : length part ≡ index_of byte part = omega (arith, ltb-false (index_of byte part) (length part) e, index_within byte part) in
      ap (λ (n : ℕ). start + n) same

  pub found_or_end : unwrap_or (found_in byte start end text) (start + length part) ≡ start + index_of byte part
  unfolding found_in
  found_or_end = or_end_by (ltb (index_of byte part) (length part)) refl

  pub some_is : index_of byte part < length part → Some (start + index_of byte part) ≡ found_in byte start end text
  unfolding found_in
  some_is h = sym (simp (lt-ltb (index_of byte part) (length part) h))

  pub none_is : index_of byte part ≡ length part → None ≡ found_in byte start end text
  unfolding found_in
  none_is e = sym (simp (le-ltb (index_of byte part) (length part) (omega (arith, e))))

-- a part ends with its text at the latest
module _ (byte start end : ℕ) (text : List ℕ) (last : ℕ) (cut : last ≡ min end (length text)) where
  pub ends_with_text : slice start end text ≡ drop start (take last text)
  unfolding slice
  ends_with_text = by (dec_le end (length text))
    where
      by : Dec (end ≤ length text) → drop start (take end text) ≡ drop start (take last text)
      by (yes p) =
          let e : end ≡ last = omega arith in
          ap (λ (n : ℕ). drop start (take n text)) e
      by (no p) =
          let e : length text ≤ last = omega arith in
          ap (drop start) (take_all end text (omega arith) ∙ sym (take_all last text e))

  -- it may be empty
  pub nothing_found : last ≤ start → None ≡ found_in byte start end text
  unfolding index_of
  nothing_found h =
      let none : slice start end text ≡ [] = ends_with_text ∙ drop_of_length-le (take last text) (omega (arith, length-take last text)) in
      none_is byte start end text (ap (index_of byte) none ∙ sym (ap length none))

  module _ (some : start ≤ last) where
    pub counted : slice start end text ≡ take (last - start) (drop start text)
    counted =
        let e : last ≡ start + (last - start) = omega arith in
        ends_with_text ∙ ap (λ (n : ℕ). drop start (take n text)) e ∙ drop-take start (last - start) text

    pub first_found : (k : ℕ) → k < length (take (last - start) (drop start text)) → (get_or (take (last - start) (drop start text)) k 0 == byte) ≡ true → ((j : ℕ) → j < k → (get_or (take (last - start) (drop start text)) j 0 == byte) ≡ true → ⊥) → Some (start + k) ≡ found_in byte start end text
    first_found k h e before =
        let is : index_of byte (slice start end text) ≡ k = ap (index_of byte) counted ∙ index_is byte (take (last - start) (drop start text)) k h e before in
        ap (λ (n : ℕ). Some (start + n)) (sym is)
        ∙ some_is byte start end text (omega (arith, is, h, ap length counted))

    pub none_found : ((k : ℕ) → k < length (take (last - start) (drop start text)) → (get_or (take (last - start) (drop start text)) k 0 == byte) ≡ true → ⊥) → None ≡ found_in byte start end text
    none_found h =
        none_is byte start end text (ap (index_of byte) counted ∙ index_none byte (take (last - start) (drop start text)) h ∙ sym (ap length counted))
