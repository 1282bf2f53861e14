-- Document 01, "Port listing": words and numbers as bytes of text.
use Rattle.std.specs.Prelude.{ℕ, zero, suc, ◌/◌, ◌%◌, List, [], ◌∷◌, ◌++◌, Bool, cond, get_or, ltb}
use Prim.Native.Char.{code}
use Prim.Native.String as strings
use Rattle.report.specs.Ports.{in_range}

-- the bytes of a word
abbrev pub ascii : strings.String → List ℕ
ascii strings.[] = []
ascii (strings.◌∷◌ c cs) = code c ∷ ascii cs

-- the byte that ends a line
abbrev pub newline : ℕ
newline = 10

-- one digit, hexadecimal in capitals
unfoldable pub digit : ℕ → ℕ
digit n = get_or (ascii "0123456789ABCDEF") n 0

-- '0' to '9'
abbrev pub is_digit : ℕ → Bool
is_digit c = in_range 48 c 57

-- hexadecimal at a fixed width
unfoldable pub hex : (width : ℕ) → ℕ → List ℕ
hex zero n = []
hex (suc width) n = hex width (n / 16) ++ (digit (n % 16) ∷ [])

-- decimal without a leading zero, in at most `most` digits
unfoldable pub decimal_in : (most : ℕ) → ℕ → List ℕ
decimal_in zero n = []
decimal_in (suc most) n =
    cond (ltb n 10) (digit n ∷ [])
    (decimal_in most (n / 10) ++ (digit (n % 10) ∷ []))

-- decimal without a leading zero: n has at most n + 1 digits
unfoldable pub decimal : ℕ → List ℕ
decimal n = decimal_in (suc n) n
