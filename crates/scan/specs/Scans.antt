-- Document 02, Ask 3: numbers and fields read from the front of a text.
use Rattle.std.specs.Prelude.{ℕ, zero, suc, ◌+◌, ◌-◌, ◌*◌, cond, List, [], ◌∷◌, leb, ltb, eqb, Option, Some, None}
use Rattle.report.specs.Ports.{in_range}
use Rattle.port.specs.declared.Version.{Version}
use Rattle.text.specs.Words.{is_digit}
use Rattle.text.specs.Texts.{digits32}

-- what is found at the front of a text: a value, and the text after it; or nothing
pub data Scan (A : Type 0) : Type 0 where
  missing : Scan A
  found : (value : A) (rest : List ℕ) → Scan A

abbrev pub then_scan : {A B : Type 0} → Scan A → (A → List ℕ → Scan B) → Scan B
then_scan missing next = missing
then_scan (found value rest) next = next value rest

-- one value, and after it another
unfoldable pub pair_scan : {A B : Type 0} → (List ℕ → Scan A) → (List ℕ → Scan B) → List ℕ → Scan (A × B)
pair_scan first second text =
    then_scan (first text) λ a rest.
    then_scan (second rest) λ b rest.
    found (a, b) rest

-- the bytes of a word
unfoldable pub word_scan : List ℕ → List ℕ → Scan (Unit {0})
word_scan [] text = found tt text
word_scan (w ∷ word) [] = missing
word_scan (w ∷ word) (c ∷ text) = cond (eqb c w) (word_scan word text) missing

-- a value that is read, if the byte after it comes next
unfoldable pub stopped : {A : Type 0} → (stop : ℕ) → A → List ℕ → Scan A
stopped stop value [] = missing
stopped stop value (c ∷ text) = cond (eqb c stop) (found value text) missing

-- digits, after those that came to n, up to the first byte that is none: the number, and the text after them
pub record Run : Type 0 where
  pub value : ℕ
  pub rest : List ℕ

unfoldable pub run_after : ℕ → List ℕ → Run
run_after n [] = record { value = n; rest = [] }
run_after n (c ∷ text) = cond (is_digit c) (run_after (n * 10 + (c - 48)) text) (record { value = n; rest = c ∷ text })

abbrev pub run_stopped : (stop : ℕ) → Run → Scan ℕ
run_stopped stop r = stopped stop r.value r.rest

-- a decimal number of any length, and the byte after it: no digit follows a zero at its front
unfoldable pub number_scan : (stop : ℕ) → List ℕ → Scan ℕ
number_scan stop [] = missing
number_scan stop (c ∷ text) =
    cond (is_digit c)
    (cond (eqb c 48) (stopped stop 0 text) (run_stopped stop (run_after (c - 48) text)))
    missing

abbrev pub within_most : (most : ℕ) → ℕ → List ℕ → Scan ℕ
within_most most n rest = cond (leb n most) (found n rest) missing

-- one that is at most `most`
unfoldable pub decimal_scan : (most stop : ℕ) → List ℕ → Scan ℕ
decimal_scan most stop text = then_scan (number_scan stop text) (within_most most)

-- '0' to '9' and 'A' to 'F'; 16 where the byte is no digit
unfoldable pub capital_digit : ℕ → ℕ
capital_digit c = cond (is_digit c) (c - 48) (cond (in_range 65 c 70) (c - 65 + 10) 16)

-- one digit more, after those that came to n
unfoldable pub digit_more : ℕ → List ℕ → Scan ℕ
digit_more n [] = missing
digit_more n (c ∷ text) = cond (ltb (capital_digit c) 16) (found (n * 16 + capital_digit c) text) missing

-- hexadecimal in capitals at a fixed width
unfoldable pub digits_scan : (width : ℕ) → List ℕ → Scan ℕ
digits_scan zero text = found 0 text
digits_scan (suc width) text = then_scan (digits_scan width text) digit_more

-- the same, and the byte after it
unfoldable pub hex_scan : (width stop : ℕ) → List ℕ → Scan ℕ
hex_scan width stop text = then_scan (digits_scan width text) (stopped stop)

-- '-' stands for what is unknown
abbrev pub dash : ℕ
dash = 45

-- '.'
abbrev pub point : ℕ
point = 46

-- "-", or what is known
abbrev pub unknown_or : {A : Type 0} → (stop : ℕ) → A → (List ℕ → Scan A) → List ℕ → Scan A
unknown_or stop unknown known [] = missing
unknown_or stop unknown known (c ∷ text) = cond (eqb c dash) (stopped stop unknown text) (known (c ∷ text))

-- eight digits
unfoldable pub known_serial : (stop : ℕ) → List ℕ → Scan (Option ℕ)
known_serial stop text = then_scan (hex_scan digits32 stop text) λ number rest. found (Some number) rest

unfoldable pub serial_scan : (stop : ℕ) → List ℕ → Scan (Option ℕ)
serial_scan stop text = unknown_or stop None (known_serial stop) text

-- the largest byte
abbrev pub byte_last : ℕ
byte_last = 255

-- major.minor, each at most 255
unfoldable pub known_version : (stop : ℕ) → List ℕ → Scan (Option Version)
known_version stop text =
    then_scan (pair_scan (decimal_scan byte_last point) (decimal_scan byte_last stop) text) λ parts rest.
    found (Some (record { major = parts.0; minor = parts.1 })) rest

unfoldable pub version_scan : (stop : ℕ) → List ℕ → Scan (Option Version)
version_scan stop text = unknown_or stop None (known_version stop) text
