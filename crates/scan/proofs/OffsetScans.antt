-- What the rules find in a text from an offset in it on. No function needs this, since the readers take the rest of the text.
use Rattle.std.specs.Prelude.{ℕ, ◌≡◌, Bool, true, false, List, [], ◌∷◌, eqb, length, drop}
use Rattle.scan.specs.Scans.{Scan, missing, found, Run, capital_digit}
use Rattle.scan.specs.ScanContracts.{capped}

-- a value, and the text after it, or nothing
abbrev pub scanned : {A : Type 0} → Bool → A → List ℕ → Scan A
scanned true value rest = found value rest
scanned false value rest = missing

-- what a rule finds in the text from an offset on: the value and the offset after it; where it finds nothing, the offset is the end of the text
pub record Scans {A : Type 0} (rule : List ℕ → Scan A) (text : List ℕ) (at : ℕ) (is_found : Bool) (value : A) (next : ℕ) : Type 0 where
  pub so : scanned is_found value (drop next text) ≡ rule (drop at text)
  pub end : is_found ≡ false → next ≡ length text

-- nothing found: the value is 0, and the offset is the end of the text
pub record Nothing (text : List ℕ) (is_found : Bool) (value next : ℕ) : Type 0 where
  pub none : is_found ≡ false
  pub zero : value ≡ 0
  pub end : next ≡ length text

-- digits that were gone over: the number, too large or not, and the offset after them
pub record Runs (run : Run) (text : List ℕ) (value next : ℕ) : Type 0 where
  pub counted : value ≡ capped run.value
  pub so : drop next text ≡ run.rest

-- whether the text begins with this byte
unfoldable pub front_is : ℕ → List ℕ → Bool
front_is byte [] = false
front_is byte (c ∷ text) = eqb c byte

-- the value of the digit at the front
unfoldable pub front_digit : List ℕ → ℕ
front_digit [] = 16
front_digit (c ∷ text) = capital_digit c
