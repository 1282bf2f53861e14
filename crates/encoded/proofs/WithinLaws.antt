-- The calls that bytes decode to are within the bounds of the encoding.
use Rattle.std.specs.Prelude.{ℕ, zero, suc, ◌≤◌, ◌≡◌, Bool, true, false, cond, List, [], ◌∷◌, eqb, length, take, drop}
use Rattle.std.proofs.Common.{subst, arith, lit≤, length-take}
use Rattle.report.proofs.ChoicesLaws.{by_case}
use Rattle.report.specs.Sizes.{byte, joined2}
use Rattle.sequence.specs.Steps as steps
use Rattle.encoded.specs.Blocks.{Header, header_size, take_opcode, request_opcode, cancel_opcode, tick_opcode, switch_opcode, get_paired_opcode, led_opcode, list_opcode, restore_opcode, header_of, is_writer, lent_size, is_whole, block_writer, block_call}
use Rattle.encoded.specs.Decoding.{Decoded, malformed, calls, followed, at_end, first_call, rest_of, decode_by, decode}
use Rattle.encoded.specs.Encoding.{Byte, InTwoBytes, Bytes, Within, AllWithin}

pub byte_below : (bytes : List ℕ) (i : ℕ) → Bytes bytes → Byte (byte bytes i)
unfolding Bytes
byte_below [] i b = lit≤ tt
byte_below (x ∷ xs) zero b = b.0
byte_below (x ∷ xs) (suc i) b = byte_below xs i b.1

bytes_taken : (n : ℕ) (xs : List ℕ) → Bytes xs → Bytes (take n xs)
unfolding Bytes
bytes_taken zero xs b = _
bytes_taken (suc n) [] b = _
bytes_taken (suc n) (x ∷ xs) b = (b.0, bytes_taken n xs b.1)

bytes_dropped : (n : ℕ) (xs : List ℕ) → Bytes xs → Bytes (drop n xs)
unfolding Bytes
bytes_dropped zero xs b = b
bytes_dropped (suc n) [] b = _
bytes_dropped (suc n) (x ∷ xs) b = bytes_dropped n xs b.1

-- a header of bytes
record Fields (h : Header) : Type 0 where
  a : Byte h.a
  b : Byte h.b
  c : Byte h.c
  ticks : InTwoBytes h.ticks
  offset : InTwoBytes h.offset
  size : InTwoBytes h.size
  lent : InTwoBytes h.lent

two_bytes : (bytes : List ℕ) (i j : ℕ) → Bytes bytes → InTwoBytes (joined2 (byte bytes i) (byte bytes j))
two_bytes bytes i j b = omega (arith, byte_below bytes i b, byte_below bytes j b)

fields : (s : List ℕ) → Bytes s → Fields (header_of s)
unfolding header_of
fields s b =
    record {
      a = byte_below s 1 b;
      b = byte_below s 2 b;
      c = byte_below s 3 b;
      ticks = two_bytes s 4 5 b;
      offset = two_bytes s 6 7 b;
      size = two_bytes s 8 9 b;
      lent = two_bytes s 10 11 b;
    }

-- a call with these fields
module _ (h : Header) (f : Fields h) (bytes lent : List ℕ) (data_bytes : Bytes bytes) (lent_bytes_law : Bytes lent) (size : InTwoBytes (length bytes)) (room : InTwoBytes (length lent)) where
  none : Byte 0
  none = lit≤ tt

  zero_in_two : InTwoBytes 0
  zero_in_two = lit≤ tt

  no_bytes : Bytes []
  unfolding Bytes
  no_bytes = _

  writer_within : Within (steps.write (block_writer h) h.offset lent)
  unfolding block_writer
  writer_within =
      by_case (λ (w : steps.Writer). Within (steps.write w h.offset lent)) (eqb h.op switch_opcode)
      (λ e. record { a = f.a; b = f.b; c = none; ticks = zero_in_two; offset = f.offset; size = zero_in_two; room = room; bytes = no_bytes; lent = lent_bytes_law })
      (λ e. by_case (λ (w : steps.Writer). Within (steps.write w h.offset lent)) (eqb h.op get_paired_opcode)
      (λ e. record { a = none; b = none; c = none; ticks = zero_in_two; offset = f.offset; size = zero_in_two; room = room; bytes = no_bytes; lent = lent_bytes_law })
      (λ e. by_case (λ (w : steps.Writer). Within (steps.write w h.offset lent)) (eqb h.op led_opcode)
      (λ e. record { a = f.a; b = f.b; c = none; ticks = zero_in_two; offset = f.offset; size = zero_in_two; room = room; bytes = no_bytes; lent = lent_bytes_law })
      (λ e. by_case (λ (w : steps.Writer). Within (steps.write w h.offset lent)) (eqb h.op list_opcode)
      (λ e. record { a = none; b = none; c = none; ticks = zero_in_two; offset = f.offset; size = zero_in_two; room = room; bytes = no_bytes; lent = lent_bytes_law })
      (λ e. record { a = none; b = none; c = none; ticks = zero_in_two; offset = f.offset; size = zero_in_two; room = room; bytes = no_bytes; lent = lent_bytes_law }))))

  call_within : Within (block_call h bytes lent)
  unfolding block_call
  call_within =
      by_case Within (eqb h.op take_opcode)
      (λ e. record { a = none; b = none; c = none; ticks = zero_in_two; offset = zero_in_two; size = size; room = zero_in_two; bytes = data_bytes; lent = no_bytes })
      (λ e. by_case Within (eqb h.op request_opcode)
      (λ e. record { a = f.a; b = f.b; c = f.c; ticks = f.ticks; offset = f.offset; size = size; room = room; bytes = data_bytes; lent = lent_bytes_law })
      (λ e. by_case Within (eqb h.op cancel_opcode)
      (λ e. record { a = f.a; b = f.b; c = f.c; ticks = zero_in_two; offset = zero_in_two; size = zero_in_two; room = zero_in_two; bytes = no_bytes; lent = no_bytes })
      (λ e. by_case Within (eqb h.op tick_opcode)
      (λ e. record { a = none; b = none; c = none; ticks = zero_in_two; offset = zero_in_two; size = zero_in_two; room = zero_in_two; bytes = no_bytes; lent = no_bytes })
      (λ e. by_case Within (eqb h.op restore_opcode)
      (λ e. record { a = none; b = none; c = none; ticks = zero_in_two; offset = zero_in_two; size = size; room = zero_in_two; bytes = data_bytes; lent = no_bytes })
      (λ e. writer_within)))))

lent_size_law : (h : Header) → lent_size h ≤ h.lent
unfolding lent_size
lent_size_law h = by (is_writer h.op)
  where
    by : (t : Bool) → cond t h.lent 0 ≤ h.lent
    by true = omega arith
    by false = omega arith

first_within : (s a : List ℕ) → Bytes s → Bytes a → Within (first_call (header_of s) s a)
first_within s a p q =
    let h = header_of s in
    let f = fields s p in
    let body = drop header_size s in
    call_within h f (take h.size body) (take (lent_size h) a) (bytes_taken h.size body (bytes_dropped header_size s p)) (bytes_taken (lent_size h) a q) (omega (arith, length-take h.size body, f.size)) (omega (arith, length-take (lent_size h) a, lent_size_law h, f.lent))

-- what is decoded, where it is no malformed list
AllDecoded : Decoded → Type 0
AllDecoded malformed = Unit {0}
AllDecoded (calls cs) = AllWithin cs

followed_within : (c : steps.Call) (d : Decoded) → Within c → AllDecoded d → AllDecoded (followed c d)
unfolding AllDecoded AllWithin
followed_within c malformed w ws = tt
followed_within c (calls cs) w ws = (w, ws)

end_within : (a : List ℕ) → AllDecoded (at_end a)
unfolding AllDecoded AllWithin
end_within [] = _
end_within (x ∷ a) = tt

blocks_within : (fuel : ℕ) (s a : List ℕ) → Bytes s → Bytes a → AllDecoded (decode_by fuel s a)
unfolding decode_by AllDecoded
blocks_within zero [] a p q = end_within a
blocks_within zero (x ∷ s) a p q = tt
blocks_within (suc fuel) [] a p q = end_within a
blocks_within (suc fuel) (x ∷ s) a p q =
    block (is_whole (header_of (x ∷ s)) (length (x ∷ s)) (length a)) (blocks_within fuel (rest_of h (x ∷ s)) (drop (lent_size h) a) (bytes_dropped h.size (drop header_size (x ∷ s)) (bytes_dropped header_size (x ∷ s) p)) (bytes_dropped (lent_size h) a q))
  where
    h : Header
    h = header_of (x ∷ s)

    block : (t : Bool) → AllDecoded (decode_by fuel (rest_of h (x ∷ s)) (drop (lent_size h) a)) → AllDecoded (cond t (followed (first_call h (x ∷ s) a) (decode_by fuel (rest_of h (x ∷ s)) (drop (lent_size h) a))) malformed)
    block true rest = followed_within (first_call h (x ∷ s) a) (decode_by fuel (rest_of h (x ∷ s)) (drop (lent_size h) a)) (first_within (x ∷ s) a p q) rest
    block false rest = tt

pub decoded_within : (encoded arena : List ℕ) → Bytes encoded → Bytes arena → (cs : List steps.Call) → decode encoded arena ≡ calls cs → AllWithin cs
unfolding decode AllDecoded
decoded_within encoded arena p q cs e = subst AllDecoded e (blocks_within (length encoded) encoded arena p q)
