-- Document 01, "Ports and their records" and "Taking a HID++ report": where requests wait.
use Rattle.std.specs.Prelude.{ℕ, suc, ◌+◌, List, [], ◌∷◌, Bool, cond, not, ◌&&◌, eqb}
use Rattle.port.specs.declared.Request.{Request}

-- no request waits in the place
abbrev pub is_empty : Request → Bool
is_empty r = eqb r.ticks 0

-- a request with these bytes 2 and 3 waits in the place
abbrev pub matches : ℕ → ℕ → Request → Bool
matches byte2 byte3 r = not (is_empty r) && (eqb r.byte2.0 byte2 && eqb r.byte3 byte3)

-- the lowest place that passes the test, counted from 0; the number of places where none does
unfoldable pub first_at : (Request → Bool) → List Request → ℕ
first_at test [] = 0
first_at test (r ∷ rs) = cond (test r) 0 (suc (first_at test rs))

-- the sum of a number over the places
unfoldable pub sum_over : (Request → ℕ) → List Request → ℕ
sum_over f [] = 0
sum_over f (r ∷ rs) = f r + sum_over f rs

abbrev pub one_if_waiting : Request → ℕ
one_if_waiting r = cond (is_empty r) 0 1

-- the number of requests that wait
abbrev pub count_waiting : List Request → ℕ
count_waiting places = sum_over one_if_waiting places
