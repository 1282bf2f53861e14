-- Laws of a loop that moves bytes down in a buffer one by one. No function needs them, since the bytes between two offsets are moved at once.
use Rattle.std.specs.Prelude.{ℕ, suc, ◌+◌, ◌-◌, ◌≤◌, ◌<◌, ◌≡◌, refl, List, [], ◌∷◌, ◌++◌, length, take, drop, set, get_or}
use Rattle.std.proofs.Common.{sym, ◌∙◌, ap, append_assoc, append-nil, add-one, arith, length-set, drop_of_length-le, length-take-le, take-suc, take-suc-set, drop-cons, drop-set-lt}
use Rattle.std.proofs.lemmas.List.{drop-append-le}

-- the loop's state: the bytes up to i are moved, up to the offset next
pub record Moving (b₀ b : List ℕ) (to from end next i : ℕ) : Type 0 where
  pub so : take next b ≡ take to b₀ ++ drop from (take i b₀)
  pub behind : drop i b ≡ drop i b₀
  pub next_is : next ≡ to + (i - from)
  pub begins : from ≤ i
  pub within : i ≤ end
  pub same : length b ≡ length b₀

pub move_begun : (b : List ℕ) (to from end : ℕ) → from ≤ end → end ≤ length b → Moving b b to from end to from
move_begun b to from end h room =
    record {
      so = sym (ap (λ (l : List ℕ). take to b ++ l) nothing ∙ append-nil (take to b));
      behind = refl;
      next_is = omega arith;
      begins = omega arith;
      within = h;
      same = refl;
    }
  where
    nothing : drop from (take from b) ≡ []
    nothing = drop_of_length-le (take from b) {i = from} (omega (arith, length-take-le from b (omega (arith, h, room))))

module _ {b₀ b : List ℕ} {to from end next i : ℕ} (m : Moving b₀ b to from end next i) (down : to ≤ from) (room : end ≤ length b₀) where
  module _ (left : i < end) where
    abbrev c : ℕ
    c = get_or b i 0

    same_byte : get_or b₀ i 0 ≡ c
    same_byte =
        ap (λ (l : List ℕ). get_or l 0 0) (sym (drop-cons b₀ i 0 (omega (arith, left, room))) ∙ sym m.behind ∙ drop-cons b i 0 (omega (arith, left, room, m.same)))

    same_behind : drop (suc i) b ≡ drop (suc i) b₀
    same_behind =
        ap (drop 1) (sym (drop-cons b i 0 (omega (arith, left, room, m.same))) ∙ m.behind ∙ drop-cons b₀ i 0 (omega (arith, left, room)))

    one_more : drop from (take (i + 1) b₀) ≡ drop from (take i b₀) ++ (c ∷ [])
    one_more =
        ap (λ (n : ℕ). drop from (take n b₀)) (add-one i)
        ∙ ap (drop from) (take-suc b₀ i 0 (omega (arith, left, room)) ∙ ap (λ (x : ℕ). take i b₀ ++ (x ∷ [])) same_byte)
        ∙ drop-append-le from (take i b₀) (c ∷ []) (omega (arith, m.begins, length-take-le i b₀ (omega (arith, left, room))))

    pub move_more : Moving b₀ (set b next c) to from end (next + 1) (i + 1)
    move_more =
        record {
          so =
              ap (λ (n : ℕ). take n (set b next c)) (add-one next)
              ∙ take-suc-set b next c (omega (arith, m.next_is, m.begins, m.same, left, room, down))
              ∙ ap (λ (l : List ℕ). l ++ (c ∷ [])) m.so
              ∙ append_assoc (take to b₀) (drop from (take i b₀)) (c ∷ [])
              ∙ ap (λ (l : List ℕ). take to b₀ ++ l) (sym one_more);
          behind =
              drop-set-lt (i + 1) b next c (omega (arith, m.next_is, m.begins, down))
              ∙ ap (λ (n : ℕ). drop n b) (add-one i)
              ∙ same_behind
              ∙ sym (ap (λ (n : ℕ). drop n b₀) (add-one i));
          next_is = omega (arith, m.next_is, m.begins);
          begins = omega (arith, m.begins);
          within = omega (arith, left);
          same = length-set b next c ∙ m.same;
        }

  pub moved : end ≤ i → take next b ≡ take to b₀ ++ drop from (take end b₀)
  moved out =
      let e : i ≡ end = omega (arith, out, m.within) in
      m.so ∙ ap (λ (n : ℕ). take to b₀ ++ drop from (take n b₀)) e
