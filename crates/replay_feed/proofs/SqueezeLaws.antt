-- Laws of squeezing in place: `kept` bytes are left of the first i.
use Rattle.std.specs.Prelude.{ℕ, suc, ◌+◌, ◌-◌, ◌≤◌, ◌<◌, ◌≡◌, refl, Bool, cond, eqb, ltb, length, drop, set, get_or}
use Rattle.std.proofs.Math.Path.{sym, ap}
use Rattle.std.proofs.Common.{◌∙◌, subst, add-one, arith, length-set, drop_of_length-le, take_all, take-take, drop-cons, get_or-take, drop-set-lt}
use Rattle.std.proofs.Math.Bool.{true, false}
use mathlib.Core.List.{List, [], ◌∷◌, ◌++◌, append_assoc, append-nil}
use Rattle.std.proofs.Math.ListN.{take}
use Rattle.std.proofs.Math.Seq.{length-take-le, take-suc-set}
use borrow.Author.Tests.{lt-ltb, le-ltb, lt-leb, le-leb}
use Rattle.replay_line.specs.LineWords.{space}
use Rattle.report.proofs.ChoicesLaws.{both}
use Rattle.replay_feed.specs.LongLines.{is_spare, squeezed, squeezed_line, longest, is_cut, shortened, held_text, held_cut}

pub record Squeezing (b₀ b : List ℕ) (size kept i : ℕ) (after : Bool) : Type 0 where
  pub so : take kept b ++ squeezed after (drop i (take size b₀)) ≡ squeezed false (take size b₀)
  pub behind : drop i b ≡ drop i b₀
  pub fewer : kept ≤ i
  pub within : i ≤ size
  pub same : length b ≡ length b₀

pub squeeze_begun : (b : List ℕ) (size : ℕ) → Squeezing b b size 0 0 false
squeeze_begun b size =
    record { so = refl; behind = refl; fewer = omega arith; within = omega arith; same = refl }

module _ {b₀ b : List ℕ} {size kept i : ℕ} {after : Bool} (s : Squeezing b₀ b size kept i after) (room : size ≤ length b₀) where
  module _ (read : i < size) where
    abbrev c : ℕ
    c = get_or b i 0

    abbrev front : List ℕ
    front = take size b₀

    here : drop i b ≡ c ∷ drop (suc i) b
    here = drop-cons b i 0 (omega (arith, read, room, s.same))

    there : drop i b₀ ≡ get_or b₀ i 0 ∷ drop (suc i) b₀
    there = drop-cons b₀ i 0 (omega (arith, read, room))

    same_byte : get_or b₀ i 0 ≡ c
    same_byte = ap (λ (l : List ℕ). get_or l 0 0) (sym there ∙ sym s.behind ∙ here)

    same_behind : drop (suc i) b ≡ drop (suc i) b₀
    same_behind = ap (drop 1) (sym here ∙ s.behind ∙ there)

    in_front_law : drop i front ≡ c ∷ drop (suc i) front
    in_front_law =
        drop-cons front i 0 (omega (arith, read, length-take-le size b₀ room))
        ∙ ap (λ (x : ℕ). x ∷ drop (suc i) front) (get_or-take size b₀ i 0 read ∙ same_byte)

    squeezed_by : take kept b ++ cond (is_spare c after) (squeezed after (drop (suc i) front)) (c ∷ squeezed (eqb c space) (drop (suc i) front)) ≡ squeezed false front
    unfolding squeezed
    squeezed_by = sym (ap (λ (l : List ℕ). take kept b ++ squeezed after l) in_front_law) ∙ s.so

    abbrev left : List ℕ
    left = drop (suc i) front

    next_byte : drop (i + 1) front ≡ left
    next_byte = ap (λ (k : ℕ). drop k front) (add-one i)

    spare : is_spare c after ≡ true → Squeezing b₀ b size kept (i + 1) (eqb c space)
    spare e =
        let tests = both (eqb c space) after e in
        record {
          so =
              ap (λ (l : List ℕ). take kept b ++ squeezed (eqb c space) l) next_byte
              ∙ ap (λ (t : Bool). take kept b ++ squeezed t left) (tests.0 ∙ sym tests.1)
              ∙ ap (λ (t : Bool). take kept b ++ cond t (squeezed after left) (c ∷ squeezed (eqb c space) left)) (sym e)
              ∙ squeezed_by;
          behind = ap (λ (k : ℕ). drop k b) (add-one i) ∙ same_behind ∙ sym (ap (λ (k : ℕ). drop k b₀) (add-one i));
          fewer = omega (arith, s.fewer);
          within = omega (arith, read);
          same = s.same;
        }

    taken : is_spare c after ≡ false → Squeezing b₀ (set b kept c) size (kept + 1) (i + 1) (eqb c space)
    taken e =
        record {
          so =
              ap (λ (k : ℕ). take k (set b kept c) ++ squeezed (eqb c space) (drop (i + 1) front)) (add-one kept)
              ∙ ap (λ (l : List ℕ). l ++ squeezed (eqb c space) (drop (i + 1) front)) (take-suc-set b kept c (omega (arith, s.fewer, read, room, s.same)))
              ∙ ap (λ (l : List ℕ). (take kept b ++ (c ∷ [])) ++ squeezed (eqb c space) l) next_byte
              ∙ append_assoc (take kept b) (c ∷ []) (squeezed (eqb c space) left)
              ∙ ap (λ (t : Bool). take kept b ++ cond t (squeezed after left) (c ∷ squeezed (eqb c space) left)) (sym e)
              ∙ squeezed_by;
          behind =
              drop-set-lt (i + 1) b kept c (omega (arith, s.fewer))
              ∙ ap (λ (k : ℕ). drop k b) (add-one i)
              ∙ same_behind
              ∙ sym (ap (λ (k : ℕ). drop k b₀) (add-one i));
          fewer = omega (arith, s.fewer);
          within = omega (arith, read);
          same = length-set b kept c ∙ s.same;
        }

    same_state : {b₁ b₂ : List ℕ} {n₁ n₂ : ℕ} → b₁ ≡ b₂ → n₁ ≡ n₂ → Squeezing b₀ b₂ size n₂ (i + 1) (eqb c space) → Squeezing b₀ b₁ size n₁ (i + 1) (eqb c space)
    same_state {b₁} {b₂} {n₁} {n₂} p n q =
        subst (λ (l : List ℕ). Squeezing b₀ l size n₁ (i + 1) (eqb c space)) (sym p)
        (subst (λ (k : ℕ). Squeezing b₀ b₂ size k (i + 1) (eqb c space)) (sym n) q)

    more_by : {b₁ : List ℕ} {next : ℕ} (t : Bool) → is_spare c after ≡ t → b₁ ≡ cond t b (set b kept c) → next ≡ cond t kept (kept + 1) → Squeezing b₀ b₁ size next (i + 1) (eqb c space)
    more_by true e p n = same_state p n (spare e)
    more_by false e p n = same_state p n (taken e)

    pub squeeze_more : {b₁ : List ℕ} {next : ℕ} (t : Bool) → t ≡ is_spare c after → b₁ ≡ cond t b (set b kept c) → next ≡ cond t kept (kept + 1) → Squeezing b₀ b₁ size next (i + 1) (eqb c space)
    squeeze_more t e p n = more_by t (sym e) p n

  module _ (out : size ≤ i) where
    pub squeeze_front : take kept b ≡ squeezed false (take size b₀)
    unfolding squeezed
    squeeze_front =
        sym (append-nil (take kept b))
        ∙ ap (λ (l : List ℕ). take kept b ++ squeezed after l) (sym (drop_of_length-le (take size b₀) {i = i} (omega (arith, out, length-take-le size b₀ room))))
        ∙ s.so

    pub squeeze_behind : drop size b ≡ drop size b₀
    squeeze_behind =
        let end : i ≡ size = omega (arith, out, s.within) in
        sym (ap (λ (k : ℕ). drop k b) end) ∙ s.behind ∙ ap (λ (k : ℕ). drop k b₀) end

-- what is held while there is room after it
pub held_whole : (held : ℕ) (b : List ℕ) → held < length b → (held < length b) × ((take held b ≡ held_text (length b) (take held b)) × (false ≡ held_cut (length b) (take held b)))
held_whole held b h =
    let test = lt-ltb (length (take held b)) (length b) (omega (arith, h, length-take-le held b (omega (arith, h)))) in
    (h, (sym (simp test), sym (simp test)))

-- what is held of a line that fills the buffer: the last byte follows what is left of the others
module _ (held : ℕ) (b₀ b : List ℕ) (kept : ℕ) (full : length b₀ ≤ held) (some_bytes : longest < length b₀) (same : length b₀ ≡ length b) where
  abbrev last : ℕ
  last = length b₀ - 1

  module _ (front : take kept b ≡ squeezed false (take last b₀)) (behind : drop last b ≡ drop last b₀) (fewer : kept ≤ last) where
    abbrev b₁ : List ℕ
    b₁ = set b kept (get_or b last 0)

    no_room_law : ltb (length b₀) (length b₀) ≡ false
    no_room_law = le-ltb (length b₀) (length b₀) (omega arith)

    whole : b₀ ≡ take held b₀
    whole = sym (take_all held b₀ full)

    the_last : drop last b₀ ≡ get_or b last 0 ∷ []
    the_last =
        sym behind
        ∙ drop-cons b last 0 (omega (arith, same, some_bytes))
        ∙ ap (λ (l : List ℕ). get_or b last 0 ∷ l) (drop_of_length-le b {i = suc last} (omega (arith, same, some_bytes)))

    all_left : take (suc kept) b₁ ≡ squeezed_line b₀
    unfolding squeezed_line
    all_left =
        take-suc-set b kept (get_or b last 0) (omega (arith, same, some_bytes, fewer))
        ∙ ap (λ (l : List ℕ). l ++ (get_or b last 0 ∷ [])) front
        ∙ ap (λ (l : List ℕ). squeezed false (take last b₀) ++ l) (sym the_last)

    size : length (squeezed_line b₀) ≡ suc kept
    size =
        sym (ap length all_left)
        ∙ length-take-le (suc kept) b₁ (omega (arith, same, some_bytes, fewer, length-set b kept (get_or b last 0)))

    still : length b₁ ≡ length b₀
    still = length-set b kept (get_or b last 0) ∙ sym same

    -- it is no longer than a call may be
    module _ (h : kept < longest) where
      no_cut : is_cut b₀ ≡ false
      no_cut = lt-leb (suc longest) (length (squeezed_line b₀)) (omega (arith, size, h))

      pub squeezed_text : take (kept + 1) b₁ ≡ held_text (length b₀) (take held b₀)
      unfolding shortened
      squeezed_text =
          ap (λ (k : ℕ). take k b₁) (add-one kept)
          ∙ all_left
          ∙ sym (simp (no_room_law, no_cut))
          ∙ ap (held_text (length b₀)) whole

      pub squeezed_goes_on : false ≡ held_cut (length b₀) (take held b₀)
      squeezed_goes_on = sym (simp (no_room_law, no_cut)) ∙ ap (held_cut (length b₀)) whole

      -- with room after it
      pub held_squeezed : (kept + 1 < length b₁) × ((take (kept + 1) b₁ ≡ held_text (length b₀) (take held b₀)) × (false ≡ held_cut (length b₀) (take held b₀)))
      held_squeezed = (omega (arith, h, some_bytes, still), (squeezed_text, squeezed_goes_on))

    -- it is longer, and cut
    module _ (h : longest ≤ kept) where
      cut : is_cut b₀ ≡ true
      cut = le-leb (suc longest) (length (squeezed_line b₀)) (omega (arith, size, h))

      pub cut_text : take longest b₁ ≡ held_text (length b₀) (take held b₀)
      unfolding shortened
      cut_text =
          sym (take-take longest (suc kept) b₁ (omega (arith, h)))
          ∙ ap (take longest) all_left
          ∙ sym (simp (no_room_law, cut))
          ∙ ap (held_text (length b₀)) whole

      pub cut_stops : true ≡ held_cut (length b₀) (take held b₀)
      cut_stops = sym (simp (no_room_law, cut)) ∙ ap (held_cut (length b₀)) whole

      pub held_cut_law : (longest < length b₁) × ((take longest b₁ ≡ held_text (length b₀) (take held b₀)) × (true ≡ held_cut (length b₀) (take held b₀)))
      held_cut_law = (omega (arith, some_bytes, still), (cut_text, cut_stops))
