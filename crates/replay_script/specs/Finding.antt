-- Where a byte is in a part of a text.
use Rattle.std.specs.Prelude.{ℕ, suc, ◌+◌, Bool, true, false, cond, Option, None, Some, List, [], ◌∷◌, ◌==◌, ltb, length, take, drop}

-- the bytes between two offsets
unfoldable pub slice : (start end : ℕ) → List ℕ → List ℕ
slice start end text = drop start (take end text)

-- a place after a byte: the first, where that byte is the one
unfoldable pub index_after : (is : Bool) → ℕ → ℕ
index_after true k = 0
index_after false k = suc k

-- the first place of a byte; the length of a text that does not have it
unfoldable pub index_of : (byte : ℕ) → List ℕ → ℕ
index_of byte [] = 0
index_of byte (c ∷ text) = index_after (c == byte) (index_of byte text)

-- the first place of a byte in the part between two offsets, as an offset in the whole text
unfoldable pub found_in : (byte start end : ℕ) → List ℕ → Option ℕ
found_in byte start end text =
    cond (ltb (index_of byte (slice start end text)) (length (slice start end text))) (Some (start + index_of byte (slice start end text)))
    None
