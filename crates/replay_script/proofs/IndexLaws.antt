-- Laws of the first place of a byte as a number: where a part has none, it is the end of the part. No function needs them, since a search answers an option.
use Rattle.std.specs.Prelude.{ℕ, ◌+◌, ◌-◌, ◌<◌, ◌≤◌, ◌≡◌, true, List, [], ◌==◌, length, get_or, take, drop, min}
use Rattle.std.proofs.Common.{sym, ◌∙◌, ap, arith, length-drop, length-take, length-take-le, drop_of_length-le}
use Rattle.replay_script.specs.Finding.{slice, index_of}
use Rattle.replay_script.proofs.FindingLaws.{index_none, index_within, part_size, found, ends_with_text, counted}
use Rattle.replay_script.proofs.FindingLaws as options

-- what is found in a part is within it
pub found_within : (byte start end : ℕ) (text : List ℕ) {found : ℕ} → start ≤ end → end ≤ length text → found ≡ start + index_of byte (slice start end text) → found ≤ end
found_within byte start end text h k e =
    omega (arith, e, h, index_within byte (slice start end text), part_size start end text k)

module _ (byte start end : ℕ) (text : List ℕ) (last : ℕ) (cut : last ≡ min end (length text)) where
  -- it may be empty
  pub nothing_found : last ≤ start → start ≡ start + index_of byte (slice start end text)
  unfolding index_of
  nothing_found h =
      let none : slice start end text ≡ [] = ends_with_text byte start end text last cut ∙ drop_of_length-le (take last text) (omega (arith, length-take last text)) in
      let sum : start ≡ start + 0 = omega arith in
      sum ∙ ap (λ (l : List ℕ). start + index_of byte l) (sym none)

  module _ (some : start ≤ last) where
    pub first_found : (k : ℕ) → k < length (take (last - start) (drop start text)) → (get_or (take (last - start) (drop start text)) k 0 == byte) ≡ true → ((j : ℕ) → j < k → (get_or (take (last - start) (drop start text)) j 0 == byte) ≡ true → ⊥) → start + k ≡ start + index_of byte (slice start end text)
    first_found k h e before =
        (found byte start end text (options.first_found byte start end text last cut some k h e before)).so

    pub none_found : ((k : ℕ) → k < length (take (last - start) (drop start text)) → (get_or (take (last - start) (drop start text)) k 0 == byte) ≡ true → ⊥) → last ≡ start + index_of byte (slice start end text)
    none_found h =
        let size : length (take (last - start) (drop start text)) ≡ last - start = length-take-le (last - start) (drop start text) (omega (arith, length-drop start text)) in
        let sum : last ≡ start + length (take (last - start) (drop start text)) = omega (arith, size) in
        sum ∙ ap (λ (n : ℕ). start + n) (sym (ap (index_of byte) (counted byte start end text last cut some) ∙ index_none byte (take (last - start) (drop start text)) h))
