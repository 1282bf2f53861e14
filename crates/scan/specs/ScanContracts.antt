-- Helpers of contracts: what the program found, in the terms of the rules.
use Rattle.std.specs.Prelude.{ℕ, cond, List, ltb, Option, Some, None}
use Rattle.std.specs.Borrow.{Bor}
use Rattle.scan.specs.Scans.{Scan, missing, found, then_scan, Run, number_scan, capital_digit}

-- a value, and the text after it, or nothing
abbrev pub scan_of : {A : Type 0} → Option (A × Bor (List ℕ)) → Scan A
scan_of None = missing
scan_of (Some p) = found p.0 p.1.now

-- the text after what says no value, or nothing
abbrev pub after_of : Option (Bor (List ℕ)) → Scan (Unit {0})
after_of None = missing
after_of (Some rest) = found tt rest.now

-- a number that is too large for every field: the program takes all such numbers for one
abbrev pub too_large : ℕ
too_large = 1000

unfoldable pub capped : ℕ → ℕ
capped n = cond (ltb n too_large) n too_large

unfoldable pub capped_scan : (stop : ℕ) → List ℕ → Scan ℕ
capped_scan stop text = then_scan (number_scan stop text) λ n rest. found (capped n) rest

-- digits that the program went over: the number, too large or not, and the text after them
abbrev pub capped_run : Run → ℕ × List ℕ
capped_run run = (capped run.value, run.rest)

-- the value of a digit, or nothing where the byte is none
abbrev pub digit_value : ℕ → Option ℕ
digit_value c = cond (ltb (capital_digit c) 16) (Some (capital_digit c)) None
