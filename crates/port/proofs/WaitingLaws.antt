-- Laws of the waiting requests: a program's test of the place that it found, and a full port as one without an empty place.
use Rattle.std.specs.Prelude.{refl, position, Option, Some, None, is_some, ok_or, Err, ℕ, suc, ◌+◌, ◌<◌, ◌≤◌, ◌≡◌, Bool, true, false, cond, List, [], ◌∷◌, length}
use Rattle.std.proofs.Common.{sym, true≢false, subst, not-suc-le-zero, le_of_suc-le-suc, arith, lit≤, lt-ltb, le-ltb, le-leb}
use Rattle.std.proofs.lemmas.Bool.{lt-leb}
use Rattle.port.specs.declared.Request.{Request}
use Rattle.port.specs.Records.{place_count}
use Rattle.report.specs.declared.Refusal.TheVariants.{AlreadyWaiting, PlacesFull}
use Rattle.port.specs.Places.{matches, first_at, is_empty, sum_over, count_waiting}
use Rattle.port.specs.Waiting.{is_found, is_full, room_for}
use Rattle.port.specs.PortContracts.{room_of}
use Rattle.port.proofs.SearchingLaws.{found_some, found_none}

pub is_found_law : {place found : ℕ} → place ≡ found → place < place_count → is_found found ≡ true
is_found_law e h = lt-ltb _ _ (subst (λ (n : ℕ). n < place_count) e h)

pub not_found : {place found : ℕ} → place ≡ found → place_count ≤ place → is_found found ≡ false
not_found e h = le-ltb _ _ (subst (λ (n : ℕ). place_count ≤ n) e h)

-- the program's search finds a place exactly where the rules' search does
pub some_found : (test : Request → Bool) (places : List Request) → length places ≡ place_count → {found : Option ℕ} → found ≡ position test places → is_some found ≡ is_found (first_at test places)
some_found test places placed {found} e = by found e
  where
    by : (found : Option ℕ) → found ≡ position test places → is_some found ≡ is_found (first_at test places)
    by (Some place) q =
        let f = found_some test places q in
        sym (is_found_law f.0 (omega (arith, f.1)))
    by None q = sym (not_found refl (omega (arith, found_none test places q)))

-- no more requests wait than there are places
pub few_waiting : (places : List Request) → count_waiting places ≤ length places
unfolding sum_over
few_waiting [] = lit≤ tt
few_waiting (r ∷ rs) = by (is_empty r) (few_waiting rs)
  where
    by : (b : Bool) → count_waiting rs ≤ length rs → cond b 0 1 + count_waiting rs ≤ suc (length rs)
    by true h = omega arith
    by false h = omega arith

-- fewer where a place is empty
some_empty : (places : List Request) → first_at is_empty places < length places → count_waiting places < length places
unfolding sum_over first_at
some_empty [] h = absurd (not-suc-le-zero h)
some_empty (r ∷ rs) h = by (is_empty r) h (some_empty rs)
  where
    by : (b : Bool) → cond b 0 (suc (first_at is_empty rs)) < suc (length rs) → (first_at is_empty rs < length rs → count_waiting rs < length rs) → cond b 0 1 + count_waiting rs < suc (length rs)
    by true q rest = omega (arith, few_waiting rs)
    by false q rest = omega (arith, rest (le_of_suc-le-suc q))

-- as many where none is
none_empty : (places : List Request) → length places ≤ first_at is_empty places → length places ≤ count_waiting places
unfolding sum_over first_at
none_empty [] h = lit≤ tt
none_empty (r ∷ rs) h = by (is_empty r) h (none_empty rs)
  where
    by : (b : Bool) → suc (length rs) ≤ cond b 0 (suc (first_at is_empty rs)) → (length rs ≤ first_at is_empty rs → length rs ≤ count_waiting rs) → suc (length rs) ≤ cond b 0 1 + count_waiting rs
    by true q rest = absurd (not-suc-le-zero q)
    by false q rest = omega (arith, rest (le_of_suc-le-suc q))

-- so a port that has all its places is full exactly where none of them is empty
module _ (places : List Request) (placed : length places ≡ place_count) {place : ℕ} (lowest : place ≡ first_at is_empty places) where
  pub not_full : place < place_count → is_full places ≡ false
  not_full h = lt-leb place_count (count_waiting places) (omega (arith, some_empty places (omega arith)))

  pub full : place_count ≤ place → is_full places ≡ true
  full h = le-leb place_count (count_waiting places) (omega (arith, none_empty places (omega arith)))

-- the program's search for a request that waits already, and then for an empty place
module _ (places : List Request) (placed : length places ≡ place_count) (byte2 byte3 : ℕ) where
  pub taken : (found : Option ℕ) → found ≡ position (matches byte2 byte3) places → is_some found ≡ true → room_of (Err AlreadyWaiting) ≡ room_for places byte2 byte3
  unfolding room_for
  taken (Some place) e h =
      let found = found_some (matches byte2 byte3) places e in
      simp (is_found_law found.0 (omega (arith, found.1, placed)))
  taken None e h = absurd (true≢false (sym h))

  pub room_left : (found : Option ℕ) → found ≡ position (matches byte2 byte3) places → is_some found ≡ false → (empty : Option ℕ) → empty ≡ position is_empty places → room_of (ok_or empty PlacesFull) ≡ room_for places byte2 byte3
  unfolding room_for
  room_left (Some place) e h empty o = absurd (true≢false h)
  room_left None e h (Some place) o =
      let none : place_count ≤ first_at (matches byte2 byte3) places = omega (arith, found_none (matches byte2 byte3) places e, placed) in
      let found = found_some is_empty places o in
      simp (not_found refl none, not_full places placed found.0 (omega (arith, found.1, placed)), found.0)
  room_left None e h None o =
      let none : place_count ≤ first_at (matches byte2 byte3) places = omega (arith, found_none (matches byte2 byte3) places e, placed) in
      let all : place_count ≤ first_at is_empty places = omega (arith, found_none is_empty places o, placed) in
      simp (not_found refl none, full places placed refl all)
