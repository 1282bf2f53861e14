-- Document 01, "Report sizes and bytes".
use Rattle.std.specs.Prelude.{ℕ, ◌+◌, ◌*◌, ◌/◌, ◌%◌, ◌^◌, List, Bool, cond, ◌||◌, get_or, ltb, eqb}

abbrev pub hidpp_short : ℕ
hidpp_short = 0x10

abbrev pub hidpp_long : ℕ
hidpp_long = 0x11

abbrev pub dj_short : ℕ
dj_short = 0x20

abbrev pub dj_long : ℕ
dj_long = 0x21

-- the two ids of the family HID++
abbrev pub is_hidpp : ℕ → Bool
is_hidpp id = eqb id hidpp_short || eqb id hidpp_long

-- one of the four ids
abbrev pub is_report_id : ℕ → Bool
is_report_id id = is_hidpp id || (eqb id dj_short || eqb id dj_long)

-- the length of a report with this id; 0 where the id is none of the four
unfoldable pub length_of : ℕ → ℕ
length_of id =
    cond (eqb id hidpp_short) 7
    (cond (eqb id hidpp_long) 20
    (cond (eqb id dj_short) 15
    (cond (eqb id dj_long) 32 0)))

-- no report is shorter than the short one of HID++
abbrev pub shortest_size : ℕ
shortest_size = 7

-- where the parameters start
abbrev pub hidpp_start : ℕ
hidpp_start = 4

abbrev pub dj_start : ℕ
dj_start = 3

-- a byte of a report, counted from 0
abbrev pub byte : List ℕ → ℕ → ℕ
byte bytes i = get_or bytes i 0

-- a bit of a number, counted from 0
abbrev pub bit : ℕ → ℕ → Bool
bit i n = eqb (n / 2 ^ i % 2) 1

-- bytes as one number, the lowest first
abbrev pub joined2 : ℕ → ℕ → ℕ
joined2 a b = a + 256 * b

abbrev pub joined4 : ℕ → ℕ → ℕ → ℕ → ℕ
joined4 a b c d = a + 256 * b + 65536 * c + 16777216 * d

-- byte 3 is function × 16 + software id
abbrev pub software_id : ℕ → ℕ
software_id byte3 = byte3 % 16

abbrev pub function : ℕ → ℕ
function byte3 = byte3 / 16

-- byte 2 below 0x40 is a feature index
abbrev pub is_feature : ℕ → Bool
is_feature byte2 = ltb byte2 0x40
