-- Document 02, Ask 4, in its words: for any places, two equal ones too, a search gives the lowest that matches, or none exactly when none does.
use Rattle.std.specs.Prelude.{ℕ, ◌<◌, ◌≡◌, ◌↔◌, Bool, true, false, List, length, Option, Some, None, position}
use Rattle.port.specs.declared.Request.{Request}
use Rattle.port.specs.Records.{request_in}
use Rattle.port.specs.Places.{first_at}

-- below a place none matches
abbrev pub NoneBelow : (Request → Bool) → List Request → ℕ → Type 0
NoneBelow test places place = (lower : ℕ) → lower < place → test (request_in places lower) ≡ false

-- a place is the lowest that matches: below it none matches; it matches
pub record Lowest (test : Request → Bool) (places : List Request) (place : ℕ) : Type 0 where
  pub below : NoneBelow test places place
  pub it : test (request_in places place) ≡ true

-- what a search gives: a place, exactly when it is the lowest that matches; none, exactly when none of them matches. The number of places stands for none
pub record Searches (test : Request → Bool) (places : List Request) (found : ℕ) : Type 0 where
  pub lowest : (place : ℕ) → place < length places → (found ≡ place) ↔ Lowest test places place
  pub none : (found ≡ length places) ↔ NoneBelow test places (length places)

-- exactly the place that the rules' own search gives
abbrev pub SearchesExactly : (Request → Bool) → List Request → ℕ → Type 0
SearchesExactly test places found = (found ≡ first_at test places) ↔ Searches test places found

-- what a search of the program gives: a place, exactly when it is a place and the lowest that matches; nothing, exactly when none of them matches
pub record Finds (test : Request → Bool) (places : List Request) (found : Option ℕ) : Type 0 where
  pub lowest : (place : ℕ) → (found ≡ Some place) ↔ (place < length places) × Lowest test places place
  pub none : (found ≡ None) ↔ NoneBelow test places (length places)

-- the same as a number: the number of places stands for none
abbrev pub place_or : List Request → Option ℕ → ℕ
place_or places (Some place) = place
place_or places None = length places

-- so exactly what the library's search finds, and as a number the place that the rules' own search gives
pub record FindsExactly (test : Request → Bool) (places : List Request) (found : Option ℕ) : Type 0 where
  pub words : (found ≡ position test places) ↔ Finds test places found
  pub number : place_or places (position test places) ≡ first_at test places
