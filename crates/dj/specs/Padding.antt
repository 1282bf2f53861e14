-- Document 02, Ask 5: the bytes after the payload of a radio report.
use Rattle.std.specs.Prelude.{ℕ, ◌+◌, Bool, true, ◌&&◌, List, [], ◌∷◌, drop, eqb}
use Rattle.report.specs.Sizes.{dj_start}
use Rattle.report.specs.Radio.{payload_length}

-- each of these bytes is zero
abbrev pub all_zero : List ℕ → Bool
all_zero [] = true
all_zero (x ∷ xs) = eqb x 0 && all_zero xs

-- and so is each byte from an offset to the end
abbrev pub is_zero_from : List ℕ → ℕ → Bool
is_zero_from bytes offset = all_zero (drop offset bytes)

-- every byte behind a payload of this length, to the end of the report
abbrev pub is_clean_after : ℕ → List ℕ → Bool
is_clean_after payload bytes = is_zero_from bytes (dj_start + payload)

-- which types have padding follows from the table of lengths: where the payload is all that follows the type, no byte is left
abbrev pub is_clean : ℕ → ℕ → List ℕ → Bool
is_clean kind size bytes = is_clean_after (payload_length kind size) bytes
