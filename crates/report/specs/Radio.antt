-- Document 01, "Taking a DJ report": the lengths of radio payloads by type.
use Rattle.std.specs.Prelude.{ℕ, cond, ◌||◌, eqb}

-- the number of types that the table has
abbrev pub radio_types : ℕ
radio_types = 32

-- the types whose payload has a length of its own
abbrev pub keyboard : ℕ
keyboard = 1

abbrev pub mouse : ℕ
mouse = 2

abbrev pub consumer_control : ℕ
consumer_control = 3

abbrev pub system_control : ℕ
system_control = 4

abbrev pub media_center : ℕ
media_center = 8

abbrev pub keyboard_leds : ℕ
keyboard_leds = 14

-- types 1 and 2, 7; type 3, 4; types 4, 8 and 14, 1; any other, 0, which means all that follows
unfoldable pub table_length : ℕ → ℕ
table_length kind =
    cond (eqb kind keyboard || eqb kind mouse) 7
    (cond (eqb kind consumer_control) 4
    (cond (eqb kind system_control || (eqb kind media_center || eqb kind keyboard_leds)) 1 0))

-- the payload's length where `following` bytes come after the type
unfoldable pub payload_length : ℕ → ℕ → ℕ
payload_length kind following = cond (eqb (table_length kind) 0) following (table_length kind)
