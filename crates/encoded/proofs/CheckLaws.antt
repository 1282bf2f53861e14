-- Laws of the first pass: the blocks passed, and what is left to decode.
use Rattle.std.specs.Prelude.{ℕ, ◌+◌, ◌-◌, ◌≤◌, ◌<◌, ◌≡◌, refl, true, cond, List, [], ◌∷◌, length, take, drop, leb, Some, None}
use Rattle.std.proofs.Common.{sym, ◌∙◌, ap, arith, le-leb, length-drop, drop-drop, drop_of_length-le}
use Rattle.std.proofs.lemmas.Bool.{lt-leb}
use Rattle.sequence.specs.Steps.{Call}
use Rattle.encoded.specs.Blocks.{Header, lent_size, block_call}
use Rattle.encoded.specs.Decoding.{Decoded, malformed, calls, followed, at_end, decode_by, decode}
use Rattle.encoded.proofs.DecodingLaws.{end_law, block_law, no_block, shorter}
use Rattle.encoded.specs.Rows.{row_size}
use Rattle.encoded.specs.EncodedRuns.{rows_size}
use Rattle.encoded.specs.EncodedContracts.{count_from, first_block}

pub count_row : (n : ℕ) (c : Call) (d : Decoded) → count_from (n + row_size) d ≡ count_from n (followed c d)
unfolding rows_size
count_row n c malformed = refl
count_row n c (calls cs) = let e : n + row_size + rows_size cs ≡ n + (row_size + rows_size cs) = omega arith in ap Some e

-- the loop's state: for every arena of this length, what is left decodes to what is left of the whole
pub record Checking (s : List ℕ) (whole : ℕ) (left : List ℕ) (room size : ℕ) : Type 0 where
  pub fuel : ℕ
  pub part : room ≤ whole
  pub enough : length left ≤ fuel
  pub small : size + length left ≤ length s
  pub so : (a : List ℕ) → length a ≡ whole → count_from size (decode_by fuel left (drop (whole - room) a)) ≡ count_from 0 (decode s a)

pub begun : (s : List ℕ) (room : ℕ) → Checking s room s room 0
unfolding decode
begun s room =
    let none : room - room ≡ 0 = omega arith in
    record {
      fuel = length s;
      part = omega arith;
      enough = omega arith;
      small = omega arith;
      so = λ a e. simp none;
    }

module _ {s : List ℕ} {whole : ℕ} {left : List ℕ} {room size : ℕ} (k : Checking s whole left room size) where
  -- what is left begins with no block
  pub no_more : 0 < length left → None ≡ first_block left → (a : List ℕ) → length a ≡ whole → None ≡ count_from 0 (decode s a)
  no_more some none a e = ap (count_from size) (sym (no_block k.fuel left (drop (whole - room) a) some none)) ∙ k.so a e

  -- it begins with this block
  module _ {h : Header} {bytes rest : List ℕ} (first : Some (h, (bytes, rest)) ≡ first_block left) where
    by_block : (a : List ℕ) → length a ≡ whole → count_from size (cond (leb (lent_size h) room) (followed (block_call h bytes (take (lent_size h) (drop (whole - room) a))) (decode_by (k.fuel - 1) rest (drop (lent_size h) (drop (whole - room) a)))) malformed) ≡ count_from 0 (decode s a)
    by_block a e =
        let n : length (drop (whole - room) a) ≡ room = omega (arith, length-drop (whole - room) a, e, k.part) in
        simp n at (ap (count_from size) (sym (block_law k.fuel left (drop (whole - room) a) k.enough first)) ∙ k.so a e)

    pub no_room : room < lent_size h → (a : List ℕ) → length a ≡ whole → None ≡ count_from 0 (decode s a)
    no_room w a e = simp (lt-leb (lent_size h) room w) at (by_block a e)

    pub more : {n next : ℕ} → n ≡ lent_size h → n ≤ room → next ≡ room - n → Checking s whole rest next (size + row_size)
    more {n} {next} q w r =
        let taken : whole - room + lent_size h ≡ whole - next = omega (arith, q, w, r, k.part) in
        record {
          fuel = k.fuel - 1;
          part = omega (arith, r, k.part);
          enough = omega (arith, k.enough, shorter left first);
          small = omega (arith, k.small, shorter left first);
          so = λ a e.
              let fits : leb (lent_size h) room ≡ true = le-leb (lent_size h) room (omega (arith, q, w)) in
              let all : drop (lent_size h) (drop (whole - room) a) ≡ drop (whole - next) a = drop-drop (lent_size h) (whole - room) a ∙ ap (λ (i : ℕ). drop i a) taken in
              count_row size (block_call h bytes (take (lent_size h) (drop (whole - room) a))) (decode_by (k.fuel - 1) rest (drop (whole - next) a)) ∙ simp (fits, all) at (by_block a e);
        }

  at_end_law : length left ≡ 0 → (a : List ℕ) → length a ≡ whole → count_from size (at_end (drop (whole - room) a)) ≡ count_from 0 (decode s a)
  at_end_law z a e = ap (count_from size) (sym (end_law k.fuel left (drop (whole - room) a) z)) ∙ k.so a e

  over : (l : List ℕ) → 0 < length l → None ≡ count_from size (at_end l)
  over [] h = absurd (omega arith)
  over (x ∷ l) h = refl

  pub left_over : length left ≡ 0 → 0 < room → (a : List ℕ) → length a ≡ whole → None ≡ count_from 0 (decode s a)
  left_over z h a e = over (drop (whole - room) a) (omega (arith, length-drop (whole - room) a, e, k.part)) ∙ at_end_law z a e

  pub done : length left ≡ 0 → room ≡ 0 → (a : List ℕ) → length a ≡ whole → Some size ≡ count_from 0 (decode s a)
  unfolding rows_size
  done z h a e =
      let n : size ≡ size + 0 = omega arith in
      let none : drop (whole - room) a ≡ [] = drop_of_length-le a {i = whole - room} (omega (arith, h, e)) in
      ap Some n ∙ ap (λ (l : List ℕ). count_from size (at_end l)) (sym none) ∙ at_end_law z a e
