-- Laws of decoding: the first block of what is left of encoded calls, which both passes cite, the block at an offset, and their end.
use Rattle.std.specs.Prelude.{ℕ, zero, suc, ◌+◌, ◌-◌, ◌≤◌, ◌<◌, ◌≡◌, refl, Bool, true, false, cond, ◌&&◌, List, [], ◌∷◌, length, take, drop, leb, Option, Some, None}
use Rattle.std.proofs.Common.{sym, ◌∙◌, ap, arith, le-leb, leb-true, length-drop, drop-drop, take_all}
use Rattle.report.proofs.ChoicesLaws.{both}
use Rattle.sequence.specs.Steps.{Call}
use Rattle.encoded.specs.Blocks.{Header, header_size, last_opcode, header_of, lent_size, is_whole, block_call}
use Rattle.encoded.specs.Decoding.{Decoded, malformed, followed, at_end, first_call, rest_of, decode_by}
use Rattle.encoded.specs.EncodedContracts.{first_block}

-- where nothing is left of the blocks, the arena decides
pub end_law : (fuel : ℕ) (s a : List ℕ) → length s ≡ 0 → decode_by fuel s a ≡ at_end a
unfolding decode_by
end_law zero [] a h = refl
end_law (suc fuel) [] a h = refl
end_law fuel (x ∷ s) a h = absurd (omega arith)

-- the same from an offset on
pub end_at : (fuel : ℕ) (s a : List ℕ) (at : ℕ) → length s ≤ at → decode_by fuel (drop at s) a ≡ at_end a
end_at fuel s a at h = end_law fuel (drop at s) a (omega (arith, length-drop at s))

-- how many bytes the first block of these takes
abbrev front : List ℕ → ℕ
front s = header_size + (header_of s).size

abbrev First : Type 0
First = Option (Header × (List ℕ × List ℕ))

-- the first block, where it is whole
abbrev block : Header → List ℕ → First
block h s = Some (h, (take h.size (drop header_size s), rest_of h s))

-- the parts of the first block
record Parts (s : List ℕ) (h : Header) (bytes rest : List ℕ) : Type 0 where
  pub header : h ≡ header_of s
  pub known : leb h.op last_opcode ≡ true
  pub whole : header_size + h.size ≤ length s
  pub is_bytes : bytes ≡ take h.size (drop header_size s)
  pub is_rest : rest ≡ rest_of h s

parts : (s : List ℕ) {h : Header} {bytes rest : List ℕ} → Some (h, (bytes, rest)) ≡ first_block s → Parts s h bytes rest
unfolding first_block
parts s {h} {bytes} {rest} e = go (leb (header_of s).op last_opcode && leb (front s) (length s)) refl e
  where
    go : (b : Bool) → (leb (header_of s).op last_opcode && leb (front s) (length s)) ≡ b → ◌≡◌ {A = First} (Some (h, (bytes, rest))) (cond b (block (header_of s) s) None) → Parts s h bytes rest
    go true q e =
        let t = both (leb (header_of s).op last_opcode) (leb (front s) (length s)) q in
        let so : ◌≡◌ {A = Header × (List ℕ × List ℕ)} (h, (bytes, rest)) (header_of s, (take (header_of s).size (drop header_size s), rest_of (header_of s) s)) = cc in
        let is_header = ap (λ (x : Header × (List ℕ × List ℕ)). x.0) so in
        let is_bytes = ap (λ (x : Header × (List ℕ × List ℕ)). x.1.0) so in
        let is_rest = ap (λ (x : Header × (List ℕ × List ℕ)). x.1.1) so in
        record { header = is_header; known = simp is_header t.0; whole = simp is_header (leb-true _ _ t.1); is_bytes = simp is_header is_bytes; is_rest = simp is_header is_rest }
    go false q e = absurd (let z : ◌≡◌ {A = ℕ} 0 1 = cc in omega arith)

pub shorter : (s : List ℕ) {h : Header} {bytes rest : List ℕ} → Some (h, (bytes, rest)) ≡ first_block s → header_size + h.size + length rest ≡ length s
shorter s {h} e =
    let p = parts s e in
    omega (arith, ap length p.is_rest, p.whole, length-drop h.size (drop header_size s), length-drop header_size s)

-- what is left, by its first block
pub block_law : (fuel : ℕ) (s a : List ℕ) {h : Header} {bytes rest : List ℕ} → length s ≤ fuel → Some (h, (bytes, rest)) ≡ first_block s → decode_by fuel s a ≡ cond (leb (lent_size h) (length a)) (followed (block_call h bytes (take (lent_size h) a)) (decode_by (fuel - 1) rest (drop (lent_size h) a))) malformed
unfolding decode_by is_whole
block_law zero s a enough e = absurd (omega (arith, (parts s e).whole))
block_law (suc fuel) [] a enough e = absurd (omega (arith, (parts [] e).whole))
block_law (suc fuel) (x ∷ s) a enough e =
    let p = parts (x ∷ s) e in
    let n : suc fuel - 1 ≡ fuel = omega arith in
    simp (n, p.is_bytes, p.is_rest, ← p.header, p.known, le-leb _ _ p.whole)

none_so : {A : Type 0} (b c d : Bool) (x : A) → None ≡ cond (b && c) (Some x) None → (b && (c && d)) ≡ false
none_so true true d x e = absurd (let z : ◌≡◌ {A = ℕ} 0 1 = cc in omega arith)
none_so true false d x e = refl
none_so false c d x e = refl

-- what begins with no block is malformed
pub no_block : (fuel : ℕ) (s a : List ℕ) → 0 < length s → None ≡ first_block s → decode_by fuel s a ≡ malformed
unfolding decode_by first_block is_whole
no_block fuel [] a h e = absurd (omega arith)
no_block zero (x ∷ s) a h e = refl
no_block (suc fuel) (x ∷ s) a h e =
    let hd = header_of (x ∷ s) in
    simp (none_so (leb hd.op last_opcode) (leb (front (x ∷ s)) (length (x ∷ s))) (leb (lent_size hd) (length a)) _ e)

-- a block at the front, by its header
abbrev by : ℕ → List ℕ → List ℕ → Header → Decoded
by fuel s a h =
    cond (is_whole h (length s) (length a))
    (followed (first_call h s a) (decode_by fuel (rest_of h s) (drop (lent_size h) a)))
    malformed

some : (fuel : ℕ) (s a : List ℕ) → 0 < length s → decode_by (suc fuel) s a ≡ by fuel s a (header_of s)
unfolding decode_by
some fuel [] a h = absurd (omega arith)
some fuel (x ∷ s) a h = refl

-- the call of the block at an offset
abbrev pub call_at : Header → List ℕ → List ℕ → ℕ → ℕ → Call
call_at h s a at lent = block_call h (take h.size (drop (at + header_size) s)) (take (lent_size h) (drop lent a))

-- what is left after that block
abbrev pub left_at : ℕ → Header → List ℕ → List ℕ → ℕ → ℕ → Decoded
left_at fuel h s a at lent = decode_by (fuel - 1) (drop (at + header_size + h.size) s) (drop (lent + lent_size h) a)

-- the block at an offset: its call, and then what is left
pub block_at : (fuel : ℕ) (s a : List ℕ) (at lent : ℕ) (h : Header) → at < length s → length s ≤ at + fuel → h ≡ header_of (take (length s - at) (drop at s)) → decode_by fuel (drop at s) (drop lent a) ≡ cond (is_whole h (length s - at) (length a - lent)) (followed (call_at h s a at lent) (left_at fuel h s a at lent)) malformed
block_at zero s a at lent h within enough e = absurd (omega arith)
block_at (suc fuel) s a at lent h within enough e =
    let n : suc fuel - 1 ≡ fuel = omega arith in
    let rest : take (length s - at) (drop at s) ≡ drop at s = take_all (length s - at) (drop at s) (omega (arith, length-drop at s)) in
    some fuel (drop at s) (drop lent a) (omega (arith, length-drop at s))
    ∙ ap (by fuel (drop at s) (drop lent a)) (sym (e ∙ ap header_of rest))
    ∙ simp (n, length-drop at s, length-drop lent a, drop-drop header_size at s, drop-drop h.size (at + header_size) s, drop-drop (lent_size h) lent a)

-- what a whole block says of its lengths
pub record Whole (h : Header) (left room : ℕ) : Type 0 where
  pub body : header_size + h.size ≤ left
  pub part : lent_size h ≤ room

pub is_whole_law : (h : Header) (left room : ℕ) → is_whole h left room ≡ true → Whole h left room
unfolding is_whole
is_whole_law h left room e =
    let t = both (leb h.op last_opcode) (leb (header_size + h.size) left && leb (lent_size h) room) e in
    let u = both (leb (header_size + h.size) left) (leb (lent_size h) room) t.1 in
    record { body = leb-true _ _ u.0; part = leb-true _ _ u.1 }
