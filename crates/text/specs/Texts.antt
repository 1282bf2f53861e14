-- Document 01, "Port listing", and document 02, Asks 1 (the serial) and 3 (the store): texts one after another, lines of fields, the lines of paired devices, and the text of a link, of a version, of a battery and of a serial.
use Rattle.std.specs.Prelude.{ℕ, suc, ◌+◌, ◌*◌, List, [], ◌∷◌, ◌++◌, Bool, cond, Option, None, Some, length, take}
use Rattle.report.specs.Ports.{device_count}
use Rattle.port.specs.declared.Port.{Port}
use Rattle.port.specs.declared.Version.{Version}
use Rattle.port.specs.declared.Battery.{Battery}
use Rattle.text.specs.Words.{ascii, newline, hex, decimal}

-- the text of each element in order; the number counts the elements before it
unfoldable pub each_from : {A : Type 0} → (ℕ → A → List ℕ) → ℕ → List A → List ℕ
each_from text n [] = []
each_from text n (x ∷ xs) = text n x ++ each_from text (suc n) xs

abbrev pub each : {A : Type 0} → (ℕ → A → List ℕ) → List A → List ℕ
each text xs = each_from text 0 xs

-- the byte between two fields
abbrev pub tab : ℕ
tab = 9

-- tabs between fields, and a newline at the end
abbrev pub tabbed : List (List ℕ) → List ℕ
tabbed [] = newline ∷ []
tabbed (field ∷ []) = field ++ (newline ∷ [])
tabbed (field ∷ next ∷ fields) = field ++ (tab ∷ tabbed (next ∷ fields))

-- a paired device's line, and nothing of an unpaired one
unfoldable pub paired_text : (ℕ → Port → List ℕ) → (number : ℕ) → Port → List ℕ
paired_text line number p = cond p.paired (line number p) []

-- the lines of paired devices in number order: the device at each position has the number after it
unfoldable pub paired_lines : (ℕ → Port → List ℕ) → List Port → List ℕ
paired_lines line ports =
    each (λ (position : ℕ) (p : Port). paired_text line (position + 1) p) (take device_count ports)

-- the hexadecimal digits of a number of 8, of 16 and of 32 bits
abbrev pub digits8 : ℕ
digits8 = 2

abbrev pub digits16 : ℕ
digits16 = 2 * digits8

abbrev pub digits32 : ℕ
digits32 = 2 * digits16

-- no number of 64 bits has more decimal digits
abbrev pub number_most : ℕ
number_most = 20

-- nor has a byte
abbrev pub byte_most : ℕ
byte_most = 3

unfoldable pub link_text : Bool → List ℕ
link_text up = cond up (ascii "up") (ascii "down")

abbrev pub link_most : ℕ
link_most = length (ascii "down")

-- unknown is "-"
abbrev pub unknown : List ℕ
unknown = ascii "-"

-- major.minor
unfoldable pub version_text : Option Version → List ℕ
version_text None = unknown
version_text (Some v) = decimal v.major ++ (ascii "." ++ decimal v.minor)

abbrev pub version_most : ℕ
version_most = byte_most + (length (ascii ".") + byte_most)

-- level,next,status
unfoldable pub battery_text : Option Battery → List ℕ
battery_text None = unknown
battery_text (Some b) =
    decimal b.level ++ (ascii "," ++ (decimal b.next ++ (ascii "," ++ decimal b.status)))

abbrev pub battery_most : ℕ
battery_most = byte_most + (length (ascii ",") + (byte_most + (length (ascii ",") + byte_most)))

-- eight hexadecimal digits
unfoldable pub serial_text : Option ℕ → List ℕ
serial_text None = unknown
serial_text (Some number) = hex digits32 number

abbrev pub serial_most : ℕ
serial_most = digits32
