-- Laws of a first pass that keeps the offset of the block that comes next, and not the bytes that are left.
use Rattle.std.specs.Prelude.{ℕ, ◌+◌, ◌-◌, ◌≤◌, ◌<◌, ◌≡◌, refl, true, false, cond, List, [], ◌∷◌, length, take, drop, Some, None}
use Rattle.std.proofs.Common.{sym, ◌∙◌, ap, arith, length-drop, drop_of_length-le}
use Rattle.encoded.specs.Blocks.{Header, header_size, header_of, lent_size, is_whole}
use Rattle.encoded.specs.Decoding.{malformed, followed, at_end, decode_by, decode}
use Rattle.encoded.proofs.DecodingLaws.{end_at, call_at, left_at, block_at, is_whole_law}
use Rattle.encoded.proofs.CheckLaws.{count_row}
use Rattle.encoded.specs.Rows.{row_size}
use Rattle.encoded.specs.EncodedRuns.{rows_size}
use Rattle.encoded.specs.EncodedContracts.{count_from}

-- the state of its loop: for every arena of this length, what is left decodes to what is left of the whole
pub record Checking (s : List ℕ) (room at lent size : ℕ) : Type 0 where
  pub fuel : ℕ
  pub within : at ≤ length s
  pub part : lent ≤ room
  pub enough : length s ≤ at + fuel
  pub small : size ≤ at
  pub so : (a : List ℕ) → length a ≡ room → count_from size (decode_by fuel (drop at s) (drop lent a)) ≡ count_from 0 (decode s a)

pub begun : (s : List ℕ) (room : ℕ) → Checking s room 0 0 0
unfolding decode
begun s room =
    record {
      fuel = length s;
      within = omega arith;
      part = omega arith;
      enough = omega arith;
      small = omega arith;
      so = λ a e. refl;
    }

module _ {s : List ℕ} {room at lent size : ℕ} (k : Checking s room at lent size) (h : Header) (here : at < length s) (e : h ≡ header_of (take (length s - at) (drop at s))) where
  -- what is left, by its first block
  by_block : (a : List ℕ) → length a ≡ room → count_from size (cond (is_whole h (length s - at) (room - lent)) (followed (call_at h s a at lent) (left_at k.fuel h s a at lent)) malformed) ≡ count_from 0 (decode s a)
  by_block a q =
      rw (← q) (ap (count_from size) (sym (block_at k.fuel s a at lent h here k.enough e)) ∙ k.so a q)

  pub refused : is_whole h (length s - at) (room - lent) ≡ false → (a : List ℕ) → length a ≡ room → None ≡ count_from 0 (decode s a)
  refused w a q = simp w at (by_block a q)

  pub record Bounds : Type 0 where
    pub body : at + header_size + h.size ≤ length s
    pub part : lent + lent_size h ≤ room
    pub small : size ≤ at

  module _ (w : is_whole h (length s - at) (room - lent) ≡ true) where
    pub bounds : Bounds
    bounds =
        let b = is_whole_law h (length s - at) (room - lent) w in
        record { body = omega (arith, b.body); part = omega (arith, b.part, k.part); small = k.small }

    pub more : {n : ℕ} → n ≡ lent_size h → Checking s room (at + header_size + h.size) (lent + n) (size + row_size)
    more {n} q =
        record {
          fuel = k.fuel - 1;
          within = bounds.body;
          part = omega (arith, q, bounds);
          enough = omega (arith, k.enough);
          small = omega (arith, bounds);
          so = λ a r. simp q (count_row size (call_at h s a at lent) (left_at k.fuel h s a at lent) ∙ (simp w at (by_block a r)));
        }

module _ {s : List ℕ} {room at lent size : ℕ} (k : Checking s room at lent size) (past : length s ≤ at) where
  at_end_law : (a : List ℕ) → length a ≡ room → count_from size (at_end (drop lent a)) ≡ count_from 0 (decode s a)
  at_end_law a q = ap (count_from size) (sym (end_at k.fuel s (drop lent a) at past)) ∙ k.so a q

  over : (l : List ℕ) → 0 < length l → None ≡ count_from size (at_end l)
  over [] h = absurd (omega arith)
  over (x ∷ l) h = refl

  pub left_over : lent < room → (a : List ℕ) → length a ≡ room → None ≡ count_from 0 (decode s a)
  left_over h a q = over (drop lent a) (omega (arith, length-drop lent a)) ∙ at_end_law a q

  pub done : room ≤ lent → (a : List ℕ) → length a ≡ room → Some size ≡ count_from 0 (decode s a)
  unfolding rows_size
  done h a q =
      let n : size ≡ size + 0 = omega arith in
      let none : drop lent a ≡ [] = drop_of_length-le a {i = lent} (omega arith) in
      ap Some n ∙ ap (λ (l : List ℕ). count_from size (at_end l)) (sym none) ∙ at_end_law a q
