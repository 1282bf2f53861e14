-- Document 01, "Port listing".
use Rattle.std.specs.Prelude.{ℕ, ◌+◌, List, [], ◌∷◌, ◌++◌, length}
use Rattle.text.specs.Words.{ascii, hex, decimal}
use Rattle.text.specs.Texts.{tabbed, paired_text, paired_lines, digits16, digits32, byte_most, link_text, link_most, version_text, version_most, battery_text, battery_most}
use Rattle.frame.specs.Writing.{WriteOutcome, frame_at}
use Rattle.port.specs.Places.{count_waiting}
use Rattle.port.specs.declared.Port.{Port}

abbrev pub field_names : List (List ℕ)
field_names =
    ascii "port"
    ∷ ascii "wpid"
    ∷ ascii "reports"
    ∷ ascii "link"
    ∷ ascii "version"
    ∷ ascii "battery"
    ∷ ascii "waiting"
    ∷ []

unfoldable pub header_line : List ℕ
header_line = tabbed field_names

-- the fields in the header's order: hexadecimal at fixed width, others decimal
unfoldable pub device_line : (number : ℕ) → Port → List ℕ
device_line number p =
    tabbed
    (decimal number
    ∷ hex digits16 p.wpid
    ∷ hex digits32 p.reports
    ∷ link_text p.up
    ∷ version_text p.version
    ∷ battery_text p.battery
    ∷ decimal (count_waiting p.places)
    ∷ [])

-- no line is longer: the fields at their longest, and the byte after each
abbrev pub line_most : ℕ
line_most =
    byte_most + digits16 + digits32 + link_most + version_most + battery_most + byte_most + length field_names

-- of paired devices alone
abbrev pub device_text : (number : ℕ) → Port → List ℕ
device_text number p = paired_text device_line number p

abbrev pub lines : List Port → List ℕ
lines ports = paired_lines device_line ports

-- header first, then paired devices in number order
unfoldable pub listing : List Port → List ℕ
listing ports = header_line ++ lines ports

-- the whole listing, or 10
unfoldable pub listing_rule : List Port → ℕ → List ℕ → WriteOutcome
listing_rule ports offset lent = frame_at (listing ports) offset lent
