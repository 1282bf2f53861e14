-- Laws of searches: the place that a search gives, in the words of document 02, is the one that the rules' search gives; and what a loop knows after i places.
use Prim.Native.Nat.{ℕ, zero, suc, ◌+◌, ◌≤◌, ◌<◌}
use Rattle.std.specs.Prelude.{◌≡◌, Bool, get_or, ltb, position, Option, Some, None}
use Rattle.std.proofs.Math.Path.{refl}
use Rattle.std.proofs.Common.{sym, ◌∙◌, ap, subst, true≢false, le_of_suc-le-suc, not-suc-le-zero, ltb-true, ltb-false}
use Rattle.std.proofs.lemmas.Option.{cond_some, none-some, same_Some}
use Rattle.std.proofs.lemmas.List.Recursion.{is_position_or_len}
use Rattle.std.proofs.Math.Bool.{true, false, cond}
use mathlib.Core.List.{List, [], ◌∷◌}
use native.Mathlib.Omega.{arith}
use Rattle.std.proofs.Math.Decide.{dec_lt, ℕ_discrete}
use Rattle.std.proofs.Math.ListN.{length}
use Rattle.report.proofs.ChoicesLaws.{by_case}
use Rattle.port.specs.declared.Request.{Request}
use Rattle.port.specs.Records.{request_in}
use Rattle.port.specs.Places.{first_at}
use Rattle.port.specs.Searching.{NoneBelow, Lowest, Searches, SearchesExactly, Finds, FindsExactly, place_or}

-- what is read of a place does not depend on what is read past the last
in_place : (places : List Request) (i : ℕ) (d : Request) → i < length places → request_in places i ≡ get_or places i d
in_place [] i d h = absurd (not-suc-le-zero h)
in_place (r ∷ rs) zero d h = refl
in_place (r ∷ rs) (suc i) d h = in_place rs i d (le_of_suc-le-suc h)

module _ (test : Request → Bool) where
  -- the rules' search: below what it gives none matches, what it gives matches, and it is a place or the number of places
  pub found_below : (places : List Request) → NoneBelow test places (first_at test places)
  unfolding first_at
  found_below [] lower h = absurd (not-suc-le-zero h)
  found_below (r ∷ rs) lower h = go (test r) refl lower h (found_below rs)
    where
      go : (b : Bool) → test r ≡ b → (k : ℕ) → k < cond b 0 (suc (first_at test rs)) → NoneBelow test rs (first_at test rs) → test (request_in (r ∷ rs) k) ≡ false
      go true e k q rest = absurd (not-suc-le-zero q)
      go false e zero q rest = e
      go false e (suc k) q rest = rest k (le_of_suc-le-suc q)

  pub found_passes : (places : List Request) → first_at test places < length places → test (request_in places (first_at test places)) ≡ true
  unfolding first_at
  found_passes [] h = absurd (not-suc-le-zero h)
  found_passes (r ∷ rs) h = go (test r) refl h (found_passes rs)
    where
      go : (b : Bool) → test r ≡ b → cond b 0 (suc (first_at test rs)) < suc (length rs) → (first_at test rs < length rs → test (request_in rs (first_at test rs)) ≡ true) → test (request_in (r ∷ rs) (cond b 0 (suc (first_at test rs)))) ≡ true
      go true e q rest = e
      go false e q rest = rest (le_of_suc-le-suc q)

  found_within : (places : List Request) → first_at test places ≤ length places
  unfolding first_at
  found_within [] = omega arith
  found_within (r ∷ rs) =
      let h = found_within rs in
      by_case (λ (n : ℕ). n ≤ suc (length rs)) (test r) (λ e. omega arith) (λ e. omega arith)

  module _ (places : List Request) where
    abbrev first : ℕ
    first = first_at test places

    clash : (place : ℕ) → test (request_in places place) ≡ true → test (request_in places place) ≡ false → ⊥
    clash place p q = true≢false (sym p ∙ q)

    pub at_first : first < length places → Lowest test places first
    at_first h = record { below = found_below places; it = found_passes places h }

    pub is_first : {place : ℕ} → place < length places → Lowest test places place → first ≡ place
    is_first {place} h l = go (dec_lt place first) (dec_lt first place)
      where
        go : Dec (place < first) → Dec (first < place) → first ≡ place
        go (yes p) q = absurd (clash place l.it (found_below places place p))
        go (no p) (yes q) = absurd (clash first (found_passes places (omega arith)) (l.below first q))
        go (no p) (no q) = omega arith

    pub none_first : NoneBelow test places (length places) → first ≡ length places
    none_first n = go (dec_lt first (length places))
      where
        go : Dec (first < length places) → first ≡ length places
        go (yes h) = absurd (clash first (found_passes places h) (n first h))
        go (no h) = omega (arith, found_within places)

    pub all_fail : length places ≤ first → NoneBelow test places (length places)
    all_fail h =
        let e : first ≡ length places = omega (arith, found_within places) in
        subst (NoneBelow test places) e (found_below places)

    searched : Searches test places first
    searched =
        record {
          lowest = λ place h. (λ e. subst (Lowest test places) e (at_first (subst (λ (n : ℕ). n < length places) (sym e) h)), is_first h);
          none = (λ e. all_fail (omega (arith, e)), none_first);
        }

    -- nothing else is what a search gives
    only_first : {found : ℕ} → Searches test places found → found ≡ first
    only_first {found} s = go (dec_lt first (length places))
      where
        go : Dec (first < length places) → found ≡ first
        go (yes h) = (s.lowest first h).1 (at_first h)
        go (no h) = let n = all_fail (omega arith) in s.none.1 n ∙ sym (none_first n)

    pub searches_exactly : (found : ℕ) → SearchesExactly test places found
    searches_exactly found = (λ e. subst (Searches test places) (sym e) searched, only_first)

    -- what a search of the program ensures: the rules' place, and the words
    abbrev pub Found : ℕ → Type 0
    Found found = (found ≡ first) × Searches test places found

    found_first : {found : ℕ} → first ≡ found → Found found
    found_first e = (sym e, subst (Searches test places) e searched)

    -- the loop's state: the first i places do not match
    pub record Searched (i : ℕ) : Type 0 where
      pub within : i ≤ length places
      pub below : NoneBelow test places i

    pub begun : Searched 0
    begun = record { within = omega arith; below = λ lower h. absurd (not-suc-le-zero h) }

    pub miss : {i : ℕ} (d : Request) → Searched i → i < length places → test (get_or places i d) ≡ false → Searched (i + 1)
    miss {i} d s h e = record { within = omega arith; below = λ lower q. at lower (ℕ_discrete lower i) q }
      where
        at : (lower : ℕ) → Dec (lower ≡ i) → lower < i + 1 → test (request_in places lower) ≡ false
        at lower (yes p) q =
            subst (λ (n : ℕ). test (request_in places n) ≡ false) (sym p) (ap test (in_place places i d h) ∙ e)
        at lower (no p) q = s.below lower (omega arith)

    pub hit : {i : ℕ} (d : Request) → Searched i → i < length places → test (get_or places i d) ≡ true → Found i
    hit {i} d s h e =
        found_first (is_first h (record { below = s.below; it = ap test (in_place places i d h) ∙ e }))

    pub missed_all : {i n : ℕ} → Searched i → length places ≤ i → length places ≡ n → Found n
    missed_all {i} {n} s h e =
        let all : i ≡ length places = omega (arith, s.within) in
        found_first (none_first (subst (NoneBelow test places) all s.below) ∙ e)

-- the library's search is the rules', with nothing where none matches
position_law : (test : Request → Bool) (places : List Request) → position test places ≡ cond (ltb (first_at test places) (length places)) (Some (first_at test places)) None
unfolding first_at
position_law test places =
    ap (λ (n : ℕ). cond (ltb n (length places)) (Some n) None) (sym (is_position_or_len (first_at test) test refl (λ r rs. ap (cond (test r) 0) (omega arith)) places))

-- what is found is a place, and the one that the rules' search gives
pub found_some : (test : Request → Bool) (places : List Request) {place : ℕ} → Some place ≡ position test places → (place ≡ first_at test places) × (place < length places)
found_some test places {place} e =
    let h = cond_some (ltb (first_at test places) (length places)) (first_at test places) place (sym (e ∙ position_law test places)) in
    (sym h.1, subst (λ (n : ℕ). n < length places) h.1 (ltb-true _ _ h.0))

-- and where nothing is found, that search gives no place
pub found_none : (test : Request → Bool) (places : List Request) → None ≡ position test places → length places ≤ first_at test places
found_none test places e = go (ltb (first_at test places) (length places)) refl (e ∙ position_law test places)
  where
    go : (b : Bool) → ltb (first_at test places) (length places) ≡ b → ◌≡◌ {A = Option ℕ} None (cond b (Some (first_at test places)) None) → length places ≤ first_at test places
    go true h e = absurd (none-some _ e)
    go false h e = ltb-false _ _ h

-- so what the library's search finds is what document 02 says
pub finds : (test : Request → Bool) (places : List Request) {found : Option ℕ} → found ≡ position test places → Finds test places found
finds test places {found} e =
    record {
      lowest = λ place. (λ q. at place (sym q ∙ e), λ h. is place found e h);
      none = (λ q. all_fail test places (found_none test places (sym q ∙ e)), λ n. nothing found e n);
    }
  where
    at : (place : ℕ) → Some place ≡ position test places → (place < length places) × Lowest test places place
    at place q =
        let f = found_some test places q in
        (f.1, subst (Lowest test places) (sym f.0) (at_first test places (omega (arith, f.0, f.1))))

    is : (place : ℕ) (found : Option ℕ) → found ≡ position test places → (place < length places) × Lowest test places place → found ≡ Some place
    is place (Some q) z h = ap (λ (n : ℕ). Some n) ((found_some test places z).0 ∙ is_first test places h.0 h.1)
    is place None z h =
        let past = found_none test places z in
        let at = is_first test places h.0 h.1 in
        let inside = h.0 in
        absurd (omega arith)

    nothing : (found : Option ℕ) → found ≡ position test places → NoneBelow test places (length places) → found ≡ None
    nothing (Some q) z n =
        let f = found_some test places z in
        let same = f.0 in
        let inside = f.1 in
        let past = none_first test places n in
        absurd (omega arith)
    nothing None z n = refl

-- and the number that stands for it is what the words say of a number
pub searches_of : (test : Request → Bool) (places : List Request) (found : Option ℕ) → Finds test places found → Searches test places (place_or places found)
searches_of test places (Some found) f =
    let it = (f.lowest found).0 refl in
    record {
      lowest = λ place h. (λ e. subst (Lowest test places) e it.1, λ l. same_Some _ _ ((f.lowest place).1 (h, l)));
      none = (λ e. absurd (omega (arith, e, it.0)), λ n. absurd (none-some _ (sym (f.none.1 n))));
    }
searches_of test places None f =
    record {
      lowest = λ place h. (λ e. absurd (omega (arith, e, h)), λ l. absurd (none-some _ ((f.lowest place).1 (h, l))));
      none = (λ e. f.none.0 refl, λ n. refl);
    }

-- nothing else is what document 02 says of what is found
pub finds_exactly : (test : Request → Bool) (places : List Request) (found : Option ℕ) → FindsExactly test places found
finds_exactly test places found =
    let it = finds test places {found = position test places} refl in
    record {
      words = (finds test places, only found it);
      number = (searches_exactly test places (place_or places (position test places))).1 (searches_of test places (position test places) it);
    }
  where
    only : (found : Option ℕ) → Finds test places (position test places) → Finds test places found → found ≡ position test places
    only (Some place) it f = sym ((it.lowest place).1 ((f.lowest place).0 refl))
    only None it f = sym (it.none.1 (f.none.0 refl))
