-- Every list of calls has blocks and an arena that decode to it, and within the bounds both are bytes.
use Rattle.std.specs.Prelude.{ℕ, zero, suc, ◌+◌, ◌≤◌, ◌≡◌, refl, true, cond, List, [], ◌∷◌, ◌++◌, drop, leb}
use Rattle.std.proofs.Common.{◌∙◌, arith, div-add-mod'}
use Rattle.std.proofs.Math.Path.{ap}
use Rattle.std.proofs.Math.ListN.{length, length-append}
use Rattle.std.proofs.Math.Seq.{take-append_seam, drop-append_seam}
use borrow.Author.Tests.{le-leb, leb-true}
use Rattle.report.specs.Sizes.{joined2}
use Rattle.sequence.specs.Steps as steps
use Rattle.encoded.specs.Blocks.{Header, header_size, last_opcode, header_of, lent_size, is_whole, block_writer, block_call}
use Rattle.encoded.specs.Decoding.{Decoded, malformed, calls, followed, first_call, rest_of, decode_by, decode}
use Rattle.encoded.specs.Encoding.{byte_values, low, high, encode_header, header_for, encode_call, encode, arena_of, Byte, InTwoBytes, Bytes, Within, AllWithin, Encoded}

-- two bytes carry a number
joined_law : (n : ℕ) → joined2 (low n) (high n) ≡ n
joined_law n = omega (arith, div-add-mod' n byte_values)

header_law : (h : Header) (rest : List ℕ) → header_of (encode_header h ++ rest) ≡ h
unfolding header_of
header_law h rest = simp (joined_law h.ticks, joined_law h.offset, joined_law h.size, joined_law h.lent)

-- what the header of a call says
record Says (c : steps.Call) : Type 0 where
  known : leb (header_for c).op last_opcode ≡ true
  size : (header_for c).size ≡ length (steps.read_of c)
  lent : lent_size (header_for c) ≡ length (steps.lent_of c)
  call : block_call (header_for c) (steps.read_of c) (steps.lent_of c) ≡ c

says : (c : steps.Call) → Says c
unfolding lent_size block_writer block_call
says (steps.take bytes) = record { known = refl; size = refl; lent = refl; call = refl }
says (steps.request device byte2 byte3 ticks params offset lent) = record { known = refl; size = refl; lent = refl; call = refl }
says (steps.cancel device byte2 byte3) = record { known = refl; size = refl; lent = refl; call = refl }
says steps.tick = record { known = refl; size = refl; lent = refl; call = refl }
says (steps.write (steps.switch bits timeout) offset lent) = record { known = refl; size = refl; lent = refl; call = refl }
says (steps.write steps.get_paired offset lent) = record { known = refl; size = refl; lent = refl; call = refl }
says (steps.write (steps.led device leds) offset lent) = record { known = refl; size = refl; lent = refl; call = refl }
says (steps.write steps.list offset lent) = record { known = refl; size = refl; lent = refl; call = refl }
says (steps.write steps.store offset lent) = record { known = refl; size = refl; lent = refl; call = refl }
says (steps.restore text) = record { known = refl; size = refl; lent = refl; call = refl }

-- one call's block and buffer, and what follows
module _ (c : steps.Call) (rest arena : List ℕ) where
  blocks : List ℕ
  blocks = encode_header (header_for c) ++ (steps.read_of c ++ rest)

  by : ℕ → Header → Decoded
  by fuel h =
      cond (is_whole h (length blocks) (length (steps.lent_of c ++ arena)))
      (followed (first_call h blocks (steps.lent_of c ++ arena))
      (decode_by fuel (rest_of h blocks) (drop (lent_size h) (steps.lent_of c ++ arena))))
      malformed

  whole : is_whole (header_for c) (length blocks) (length (steps.lent_of c ++ arena)) ≡ true
  unfolding is_whole blocks
  whole =
      simp ((says c).known, (says c).size, (says c).lent, le-leb (header_size + length (steps.read_of c)) (length blocks) (omega (arith, length-append (steps.read_of c) rest)), le-leb (length (steps.lent_of c)) (length (steps.lent_of c ++ arena)) (omega (arith, length-append (steps.lent_of c) arena)))

  call_law : (fuel : ℕ) → decode_by (suc fuel) blocks (steps.lent_of c ++ arena) ≡ followed c (decode_by fuel rest arena)
  unfolding decode_by blocks by
  call_law fuel =
      ap (by fuel) (header_law (header_for c) (steps.read_of c ++ rest))
      ∙ simp (whole, (says c).size, (says c).lent, take-append_seam (steps.read_of c) rest, drop-append_seam (steps.read_of c) rest, take-append_seam (steps.lent_of c) arena, drop-append_seam (steps.lent_of c) arena, (says c).call)

decodes_by : (cs : List steps.Call) (fuel : ℕ) → length (encode cs) ≤ fuel → decode_by fuel (encode cs) (arena_of cs) ≡ calls cs
unfolding encode arena_of decode_by blocks
decodes_by [] zero h = refl
decodes_by [] (suc fuel) h = refl
decodes_by (c ∷ cs) zero h = absurd (omega arith)
decodes_by (c ∷ cs) (suc fuel) h =
    call_law c (encode cs) (arena_of cs) fuel ∙ ap (followed c) (decodes_by cs fuel (omega (arith, length-append (steps.read_of c) (encode cs))))

bytes_append : (xs ys : List ℕ) → Bytes xs → Bytes ys → Bytes (xs ++ ys)
unfolding Bytes
bytes_append [] ys p q = q
bytes_append (x ∷ xs) ys p q = (p.0, bytes_append xs ys p.1 q)

low_byte : (n : ℕ) → Byte (low n)
low_byte n = omega arith

high_byte : (n : ℕ) → InTwoBytes n → Byte (high n)
high_byte n h = omega arith

-- both parts of one call are bytes
call_bytes : (c : steps.Call) → Within c → Bytes (encode_call c) × Bytes (steps.lent_of c)
unfolding Bytes
call_bytes c w =
    let h = header_for c in
    let op : Byte h.op = omega (arith, leb-true h.op last_opcode (says c).known) in
    ((op, (w.a, (w.b, (w.c, (low_byte h.ticks, (high_byte h.ticks w.ticks, (low_byte h.offset, (high_byte h.offset w.offset, (low_byte h.size, (high_byte h.size w.size, (low_byte h.lent, (high_byte h.lent w.room, w.bytes)))))))))))), w.lent)

all_bytes : (cs : List steps.Call) → AllWithin cs → Bytes (encode cs) × Bytes (arena_of cs)
unfolding AllWithin encode arena_of Bytes
all_bytes [] w = (_, _)
all_bytes (c ∷ cs) w =
    let h = call_bytes c w.0 in
    let t = all_bytes cs w.1 in
    (bytes_append (encode_call c) (encode cs) h.0 t.0, bytes_append (steps.lent_of c) (arena_of cs) h.1 t.1)

pub encodes : (cs : List steps.Call) → AllWithin cs → Encoded cs
unfolding decode
encodes cs w =
    let b = all_bytes cs w in
    record { encoded = encode cs; arena = arena_of cs; encoded_bytes = b.0; arena_bytes = b.1; decoded = decodes_by cs (length (encode cs)) (omega arith) }
