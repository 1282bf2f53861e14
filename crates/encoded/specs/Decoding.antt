-- Encoded calls are blocks end to end, and the arena is their lent buffers end to end.
use Rattle.std.specs.Prelude.{ℕ, zero, suc, cond, List, [], ◌∷◌, length, take, drop}
use Rattle.sequence.specs.Steps.{Call}
use Rattle.encoded.specs.Blocks.{Header, header_size, header_of, lent_size, is_whole, block_call}

-- what encoded calls and an arena say
pub data Decoded : Type 0 where
  malformed : Decoded
  calls : List Call → Decoded

abbrev pub followed : Call → Decoded → Decoded
followed c malformed = malformed
followed c (calls cs) = calls (c ∷ cs)

-- at the end of the blocks no arena is left over
abbrev pub at_end : List ℕ → Decoded
at_end [] = calls []
at_end (x ∷ a) = malformed

-- the call of a first block, with its lent bytes
abbrev pub first_call : Header → List ℕ → List ℕ → Call
first_call h s a = block_call h (take h.size (drop header_size s)) (take (lent_size h) a)

-- what follows a first block
abbrev pub rest_of : Header → List ℕ → List ℕ
rest_of h s = drop h.size (drop header_size s)

-- nothing is left of the blocks, or something
abbrev pub pick : List ℕ → Decoded → Decoded → Decoded
pick [] none some = none
pick (x ∷ s) none some = some

-- block by block. The first number is the most blocks that are read: no block is empty, so the number of bytes is enough
unfoldable pub decode_by : ℕ → List ℕ → List ℕ → Decoded
decode_by zero s a = pick s (at_end a) malformed
decode_by (suc fuel) s a =
    pick s (at_end a)
    (cond (is_whole (header_of s) (length s) (length a))
    (followed (first_call (header_of s) s a)
    (decode_by fuel (rest_of (header_of s) s) (drop (lent_size (header_of s)) a)))
    malformed)

unfoldable pub decode : List ℕ → List ℕ → Decoded
decode s a = decode_by (length s) s a
