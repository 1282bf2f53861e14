-- The blocks and the arena of a list of calls, and the bounds within which they are bytes.
use Rattle.std.specs.Prelude.{ℕ, ◌^◌, ◌/◌, ◌%◌, ◌<◌, ◌≡◌, List, [], ◌∷◌, ◌++◌, length}
use Rattle.sequence.specs.Steps as steps
use Rattle.encoded.specs.Blocks.{Header, take_opcode, request_opcode, cancel_opcode, tick_opcode, switch_opcode, get_paired_opcode, led_opcode, list_opcode, store_opcode, restore_opcode}
use Rattle.encoded.specs.Decoding.{calls, decode}

-- the number of values of a byte
abbrev pub byte_values : ℕ
byte_values = 256

abbrev pub low : ℕ → ℕ
low n = n % byte_values

abbrev pub high : ℕ → ℕ
high n = n / byte_values

abbrev pub encode_header : Header → List ℕ
encode_header h =
    h.op ∷ h.a ∷ h.b ∷ h.c
    ∷ low h.ticks ∷ high h.ticks
    ∷ low h.offset ∷ high h.offset
    ∷ low h.size ∷ high h.size
    ∷ low h.lent ∷ high h.lent
    ∷ []

abbrev pub header : (op a b c ticks offset : ℕ) (bytes lent : List ℕ) → Header
header op a b c ticks offset bytes lent =
    record { op = op; a = a; b = b; c = c; ticks = ticks; offset = offset; size = length bytes; lent = length lent }

-- arguments that a call does not have are 0
abbrev pub header_for : steps.Call → Header
header_for (steps.take bytes) = header take_opcode 0 0 0 0 0 bytes []
header_for (steps.request device byte2 byte3 ticks params offset lent) =
    header request_opcode device byte2 byte3 ticks offset params lent
header_for (steps.cancel device byte2 byte3) = header cancel_opcode device byte2 byte3 0 0 [] []
header_for steps.tick = header tick_opcode 0 0 0 0 0 [] []
header_for (steps.write (steps.switch bits timeout) offset lent) = header switch_opcode bits timeout 0 0 offset [] lent
header_for (steps.write steps.get_paired offset lent) = header get_paired_opcode 0 0 0 0 offset [] lent
header_for (steps.write (steps.led device leds) offset lent) = header led_opcode device leds 0 0 offset [] lent
header_for (steps.write steps.list offset lent) = header list_opcode 0 0 0 0 offset [] lent
header_for (steps.write steps.store offset lent) = header store_opcode 0 0 0 0 offset [] lent
header_for (steps.restore text) = header restore_opcode 0 0 0 0 0 text []

abbrev pub encode_call : steps.Call → List ℕ
encode_call c = encode_header (header_for c) ++ steps.read_of c

unfoldable pub encode : List steps.Call → List ℕ
encode [] = []
encode (c ∷ cs) = encode_call c ++ encode cs

unfoldable pub arena_of : List steps.Call → List ℕ
arena_of [] = []
arena_of (c ∷ cs) = steps.lent_of c ++ arena_of cs

-- a number of one byte, of two and of four
abbrev pub Byte : ℕ → Type 0
Byte n = n < byte_values

abbrev pub InTwoBytes : ℕ → Type 0
InTwoBytes n = n < byte_values ^ 2

abbrev pub InFourBytes : ℕ → Type 0
InFourBytes n = n < byte_values ^ 4

unfoldable pub Bytes : List ℕ → Type 0
Bytes [] = Unit {0}
Bytes (x ∷ xs) = Byte x × Bytes xs

-- the bounds of the encoding: byte arguments and lent bytes are bytes; ticks, offset and both lengths are numbers of two bytes
pub record Within (call : steps.Call) : Type 0 where
  pub a : Byte (header_for call).a
  pub b : Byte (header_for call).b
  pub c : Byte (header_for call).c
  pub ticks : InTwoBytes (header_for call).ticks
  pub offset : InTwoBytes (header_for call).offset
  pub size : InTwoBytes (header_for call).size
  pub room : InTwoBytes (header_for call).lent
  pub bytes : Bytes (steps.read_of call)
  pub lent : Bytes (steps.lent_of call)

unfoldable pub AllWithin : List steps.Call → Type 0
AllWithin [] = Unit {0}
AllWithin (c ∷ cs) = Within c × AllWithin cs

-- blocks of bytes and an arena of bytes that decode to these calls
pub record Encoded (cs : List steps.Call) : Type 0 where
  pub encoded : List ℕ
  pub arena : List ℕ
  pub encoded_bytes : Bytes encoded
  pub arena_bytes : Bytes arena
  pub decoded : decode encoded arena ≡ calls cs
