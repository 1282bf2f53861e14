-- Document 02, Ask 4, worked: of two equal places the lower is given; and what a search gives that keeps the last match, or stops one place short, is not what is asked for.
use Rattle.std.specs.Prelude.{ℕ, zero, suc, ◌≡◌, Bool, true, false, cond, ◌&&◌, List, [], ◌∷◌, length, eqb, Option, Some, None}
use Rattle.std.proofs.Common.{le_of_suc-le-suc, not-suc-le-zero, arith, lit<}
use Rattle.port.specs.declared.Request.{Request}
use Rattle.port.specs.Searching.{NoneBelow, Lowest, Searches, Finds}

-- places of a request that matches, and of one that does not
module _ (hit other : Request) where
  abbrev pub twins : List Request
  twins = other ∷ hit ∷ other ∷ hit ∷ []

  abbrev last_alone : List Request
  last_alone = other ∷ other ∷ other ∷ hit ∷ []

module _ (test : Request → Bool) (hit other : Request) (passes : test hit ≡ true) (fails : test other ≡ false) where
  -- of two equal places that match, the lower is the lowest, and is given
  pub twin : Lowest test (twins hit other) 1
  twin = record { below = below; it = passes }
    where
      below : NoneBelow test (twins hit other) 1
      below zero h = fails
      below (suc k) h = absurd (not-suc-le-zero (le_of_suc-le-suc h))

  pub lower_twin : (found : ℕ) → Searches test (twins hit other) found → found ≡ 1
  lower_twin found s = (s.lowest 1 (lit< tt)).1 twin

  pub lower_found : (found : Option ℕ) → Finds test (twins hit other) found → found ≡ Some 1
  lower_found found s = (s.lowest 1).1 (lit< tt, twin)

  -- all of them match
  pub lowest_of_all : (found : ℕ) → Searches test (hit ∷ hit ∷ hit ∷ hit ∷ []) found → found ≡ 0
  lowest_of_all found s = (s.lowest 0 (lit< tt)).1 (record { below = λ k h. absurd (not-suc-le-zero h); it = passes })

  pub last_place : (found : ℕ) → Searches test (last_alone hit other) found → found ≡ 3
  last_place found s = (s.lowest 3 (lit< tt)).1 (record { below = below; it = passes })
    where
      below : NoneBelow test (last_alone hit other) 3
      below zero h = fails
      below (suc zero) h = fails
      below (suc (suc zero)) h = fails
      below (suc (suc (suc k))) h = absurd (not-suc-le-zero (le_of_suc-le-suc (le_of_suc-le-suc (le_of_suc-le-suc h))))

  -- none matches; and there are no places
  none_of_two : NoneBelow test (other ∷ other ∷ []) 2
  none_of_two zero h = fails
  none_of_two (suc zero) h = fails
  none_of_two (suc (suc k)) h = absurd (not-suc-le-zero (le_of_suc-le-suc (le_of_suc-le-suc h)))

  pub no_place : (found : ℕ) → Searches test (other ∷ other ∷ []) found → found ≡ 2
  no_place found s = s.none.1 none_of_two

  pub none_found : (found : Option ℕ) → Finds test (other ∷ other ∷ []) found → found ≡ None
  none_found found s = s.none.1 none_of_two

  pub no_places : (found : ℕ) → Searches test [] found → found ≡ 0
  no_places found s = s.none.1 (λ k h. absurd (not-suc-le-zero h))

  -- a search that keeps the last match
  last_at : List Request → ℕ
  last_at [] = 0
  last_at (r ∷ rs) = cond (test r && eqb (last_at rs) (length rs)) 0 (suc (last_at rs))

  not_the_last : Searches test (twins hit other) (last_at (twins hit other)) → ⊥
  unfolding last_at
  not_the_last s = let e : last_at (twins hit other) ≡ 3 = simp (passes, fails) in omega (arith, e, lower_twin (last_at (twins hit other)) s)

  -- a search that stops one place short
  short_at : List Request → ℕ
  short_at [] = 0
  short_at (r ∷ []) = 1
  short_at (r ∷ (s ∷ rs)) = cond (test r) 0 (suc (short_at (s ∷ rs)))

  not_one_short : Searches test (last_alone hit other) (short_at (last_alone hit other)) → ⊥
  unfolding short_at
  not_one_short s = let e : short_at (last_alone hit other) ≡ 4 = simp fails in omega (arith, e, last_place (short_at (last_alone hit other)) s)
