-- docs/SCRIPTS.md, "Lines": HH, a byte in two hexadecimal digits, and N, a decimal number.
use Rattle.std.specs.Prelude.{ℕ, ◌+◌, ◌-◌, ◌*◌, Bool, true, cond, ◌&&◌, List, [], ◌∷◌, length, ltb, leb, eqb, Option, Some, None}
use Rattle.report.specs.Ports.{in_range}
use Rattle.report.specs.Sizes.{byte}
use Rattle.text.specs.Words.{is_digit}

-- '0' to '9', 'A' to 'F' and 'a' to 'f'; 16 where the character is no digit
unfoldable pub hex_digit : ℕ → ℕ
hex_digit c =
    cond (in_range 48 c 57) (c - 48)
    (cond (in_range 65 c 70) (c - 65 + 10)
    (cond (in_range 97 c 102) (c - 97 + 10) 16))

-- a byte of two digits
abbrev pub hex_pair : ℕ → ℕ → Option ℕ
hex_pair high low = cond (ltb high 16 && ltb low 16) (Some (high * 16 + low)) None

-- HH: exactly two digits
unfoldable pub hex_byte : List ℕ → Option ℕ
hex_byte word =
    cond (eqb (length word) 2) (hex_pair (hex_digit (byte word 0)) (hex_digit (byte word 1))) None

unfoldable pub all_digits : List ℕ → Bool
all_digits [] = true
all_digits (c ∷ text) = is_digit c && all_digits text

-- the number that digits come to after those that came to n
unfoldable pub value_after : ℕ → List ℕ → ℕ
value_after n [] = n
value_after n (c ∷ text) = value_after (n * 10 + (c - 48)) text

-- a leading zero is one with a digit after it
abbrev pub leading_zero : List ℕ → Bool
leading_zero word = ltb 1 (length word) && eqb (byte word 0) 48

abbrev pub greatest : ℕ
greatest = 65535

-- digits alone, up to the greatest number
unfoldable pub digits_after : ℕ → List ℕ → Option ℕ
digits_after n text =
    cond (all_digits text && leb (value_after n text) greatest) (Some (value_after n text)) None

-- N: a decimal number from 0 to 65535 without a sign and without a leading zero
unfoldable pub number : List ℕ → Option ℕ
number word =
    cond (eqb (length word) 0) None
    (cond (leading_zero word) None (digits_after 0 word))
