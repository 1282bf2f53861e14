-- Laws of putting text: nothing, one byte, one text after another, and a whole text or nothing.
use Rattle.std.specs.Prelude.{ℕ, zero, suc, ◌+◌, ◌-◌, min, ◌≤◌, ◌<◌, ◌≡◌, refl, Bool, false, List, [], ◌∷◌, ◌++◌, length, take, drop, set}
use Rattle.std.proofs.Math.Path.{sym}
use Rattle.std.proofs.Common.{◌∙◌, ap, subst, append_assoc, add-zero, add_assoc, le_refl, add-one, arith, length-append, length-take, length-drop, take-append-drop, take_all, take_at, drop-drop, length-take-le, leb-true, le-leb}
use Rattle.std.proofs.Math.Bool.{true}
use Rattle.std.proofs.Math.Decide.{dec_le}
use Rattle.std.proofs.Math.Seq.{take-nil, drop-append-add}
use Rattle.std.proofs.lemmas.List.{set_split}
use Rattle.frame.specs.Writing.{fits_at, pasted}
use Rattle.text.specs.Putting.{Filled, filled, fitting, put_rule, Puts, whole_rule, Outputs, OutputsWhole}
use Rattle.text.specs.declared.Out.{Out}

-- no text leaves all as it was
pasted_nothing : (at : ℕ) (b : List ℕ) → pasted [] at b ≡ b
pasted_nothing at b = ap (λ (n : ℕ). take at b ++ drop n b) (add-zero at) ∙ take-append-drop at b

pasted_part : (text part : List ℕ) (at : ℕ) (b : List ℕ) → fitting text at b ≡ part → put_rule text at b ≡ filled (at + length part) (pasted part at b)
unfolding put_rule
pasted_part text part at b e = ap (λ (l : List ℕ). filled (at + length l) (pasted l at b)) e

none_put : (text : List ℕ) (at : ℕ) (b : List ℕ) → fitting text at b ≡ [] → filled at b ≡ put_rule text at b
none_put text at b e =
    sym (pasted_part text [] at b e ∙ ap (λ (n : ℕ). filled n (pasted [] at b)) (add-zero at) ∙ ap (filled at) (pasted_nothing at b))

nothing : (at : ℕ) (b : List ℕ) → filled at b ≡ put_rule [] at b
nothing at b = none_put [] at b (take-nil (length b - at))

-- past the end nothing fits
pub past_end : (text : List ℕ) (at : ℕ) (b : List ℕ) → length b ≤ at → filled at b ≡ put_rule text at b
past_end text at b h =
    let e : length b - at ≡ 0 = omega arith in
    none_put text at b (ap (λ (n : ℕ). take n text) e)

-- a whole text, where there is room
whole : (text : List ℕ) (at : ℕ) (b : List ℕ) → at + length text ≤ length b → put_rule text at b ≡ filled (at + length text) (pasted text at b)
whole text at b h = pasted_part text text at b (take_all (length b - at) text (omega arith))

pub one_byte : (x at : ℕ) (b : List ℕ) → at < length b → filled (at + 1) (set b at x) ≡ put_rule (x ∷ []) at b
one_byte x at b h =
    sym (whole (x ∷ []) at b (omega arith) ∙ ap (λ (n : ℕ). filled (at + 1) (take at b ++ (x ∷ drop n b))) (add-one at) ∙ ap (filled (at + 1)) (sym (set_split b at x h)))

-- what a copy to the part from an offset to another leaves
pub copied : (at end : ℕ) (b part : List ℕ) → end ≡ at + length part → take at b ++ (part ++ drop (end - at) (drop at b)) ≡ pasted part at b
copied at end b part e =
    let size : at + (end - at) ≡ at + length part = omega arith in
    ap (λ (l : List ℕ). take at b ++ (part ++ l)) (drop-drop (end - at) at b ∙ ap (λ (k : ℕ). drop k b) size)

-- so what fits of a word is copied
pub word_copied : (word : List ℕ) (at size : ℕ) (b part : List ℕ) → size ≡ min (length word) (length b - at) → part ≡ take size word → filled (at + size) (take at b ++ (part ++ drop (at + size - at) (drop at b))) ≡ put_rule word at b
word_copied word at size b part least so =
    let sized : length (take size word) ≡ size = length-take-le size word (omega arith) in
    let end : at + size ≡ at + length (take size word) = ap (λ (k : ℕ). at + k) (sym sized) in
    ap (λ (l : List ℕ). filled (at + size) (take at b ++ (l ++ drop (at + size - at) (drop at b)))) so
    ∙ ap (filled (at + size)) (copied at (at + size) b (take size word) end)
    ∙ ap (λ (k : ℕ). filled k (pasted (take size word) at b)) end
    ∙ sym (pasted_part word (take size word) at b (by (dec_le (length word) (length b - at))))
  where
    by : Dec (length word ≤ length b - at) → fitting word at b ≡ take size word
    by (yes p) = take_all (length b - at) word p ∙ sym (take_all size word (omega arith))
    by (no p) =
        let e : length b - at ≡ size = omega arith in
        ap (λ (k : ℕ). take k word) e

take_append : (n : ℕ) (s t : List ℕ) → take n (s ++ t) ≡ take n s ++ take (n - length s) t
take_append zero s t = let e : 0 - length s ≡ 0 = omega arith in ap (λ (k : ℕ). take k t) (sym e)
take_append (suc n) [] t = let e : suc n - 0 ≡ suc n = omega arith in ap (λ (k : ℕ). take k t) (sym e)
take_append (suc n) (x ∷ s) t =
    let e : suc n - suc (length s) ≡ n - length s = omega arith in
    ap (λ (l : List ℕ). x ∷ l) (take_append n s t ∙ ap (λ (k : ℕ). take n s ++ take k t) (sym e))

module _ (s : List ℕ) (at : ℕ) (b : List ℕ) (room : at + length s ≤ length b) where
  before : length (take at b ++ s) ≡ at + length s
  before = length-append (take at b) s ∙ ap (λ (n : ℕ). n + length s) (length-take-le at b (omega arith))

  length_pasted : length (pasted s at b) ≡ length b
  length_pasted =
      omega (arith, length-append (take at b) (s ++ drop (at + length s) b), length-append s (drop (at + length s) b), length-drop (at + length s) b, length-take-le at b (omega arith))

  split : pasted s at b ≡ (take at b ++ s) ++ drop (at + length s) b
  split = sym (append_assoc (take at b) s (drop (at + length s) b))

  front : take (at + length s) (pasted s at b) ≡ take at b ++ s
  front = ap (take (at + length s)) split ∙ take_at (take at b ++ s) (drop (at + length s) b) (at + length s) before

  back : (n : ℕ) → drop (at + length s + n) (pasted s at b) ≡ drop (at + (length s + n)) b
  back n =
      ap (λ (k : ℕ). drop (k + n) (pasted s at b)) (sym before)
      ∙ ap (drop (length (take at b ++ s) + n)) split
      ∙ drop-append-add (take at b ++ s) (drop (at + length s) b) n
      ∙ drop-drop n (at + length s) b
      ∙ ap (λ (k : ℕ). drop k b) (add_assoc at (length s) n)

  pasted_pasted : (t : List ℕ) → pasted t (at + length s) (pasted s at b) ≡ pasted (s ++ t) at b
  pasted_pasted t = simp (front, back, append_assoc, length-append)

-- one text after another
joined : (s t : List ℕ) (at : ℕ) (b : List ℕ) → put_rule t (put_rule s at b).next (put_rule s at b).lent ≡ put_rule (s ++ t) at b
unfolding put_rule
joined s t at b = by (dec_le at (length b))
  where
    n : ℕ
    n = length b - at

    rest : List ℕ
    rest = take (n - length s) t

    by : Dec (at ≤ length b) → put_rule t (put_rule s at b).next (put_rule s at b).lent ≡ put_rule (s ++ t) at b
    by (yes p) =
        let room : at + length (take n s) ≤ length b = omega (arith, length-take n s) in
        let left : length (pasted (take n s) at b) - (at + length (take n s)) ≡ n - length s = omega (arith, length-take n s, length_pasted (take n s) at b room) in
        let sum : at + length (take n s) + length rest ≡ at + length (take n s ++ rest) = omega (arith, length-append (take n s) rest) in
        pasted_part t rest (at + length (take n s)) (pasted (take n s) at b) (ap (λ (k : ℕ). take k t) left)
        ∙ ap (filled (at + length (take n s) + length rest)) (pasted_pasted (take n s) at b room rest)
        ∙ ap (λ (k : ℕ). filled k (pasted (take n s ++ rest) at b)) sum
        ∙ sym (pasted_part (s ++ t) (take n s ++ rest) at b (take_append n s t))
    by (no p) =
        let out : length b ≤ at = omega arith in
        ap (λ (f : Filled). put_rule t f.next f.lent) (sym (past_end s at b out)) ∙ sym (past_end t at b out) ∙ past_end (s ++ t) at b out

-- the buffer keeps its length
length_lent : (text : List ℕ) (at : ℕ) (b : List ℕ) → length (put_rule text at b).lent ≡ length b
unfolding put_rule
length_lent text at b = by (dec_le at (length b))
  where
    part : List ℕ
    part = fitting text at b

    by : Dec (at ≤ length b) → length (put_rule text at b).lent ≡ length b
    by (yes p) = length_pasted part at b (omega (arith, length-take (length b - at) text))
    by (no p) =
        let out : length b ≤ at = omega arith in
        ap (λ (f : Filled). length f.lent) (sym (past_end text at b out))

-- a text put, with the length that it has at most
module _ {at : ℕ} {b : List ℕ} {next : ℕ} {b₁ : List ℕ} where
  pub at_most : {m : ℕ} {text : List ℕ} (most : ℕ) → m ≤ most → Puts m text at b next b₁ → Puts most text at b next b₁
  at_most most h p = record { put = p.put; short = omega (arith, p.short) }

  pub same_text : {m : ℕ} {s t : List ℕ} → s ≡ t → Puts m s at b next b₁ → Puts m t at b next b₁
  same_text {m} e p = subst (λ (l : List ℕ). Puts m l at b next b₁) e p

  module _ {most : ℕ} {text : List ℕ} (p : Puts most text at b next b₁) where
    pub kept_length : length b₁ ≡ length b
    kept_length = ap (λ (f : Filled). length f.lent) p.put ∙ length_lent text at b

    -- where there is room, it is put whole
    pub whole_put : at + most ≤ length b → filled next b₁ ≡ filled (at + length text) (pasted text at b)
    whole_put room = p.put ∙ whole text at b (omega (arith, p.short))

    -- so a test of room makes it whole or nothing
    pub put_with_room : {fits : Bool} → fits ≡ fits_at most at (length b) → fits ≡ true → filled next b₁ ≡ whole_rule most text at b
    unfolding whole_rule
    put_with_room test so =
        let room : fits_at most at (length b) ≡ true = sym test ∙ so in
        whole_put (leb-true _ _ room) ∙ sym (simp room)

  -- one text after another: a list of texts is put by this law, once for each
  pub then_put : {m k : ℕ} {s t : List ℕ} {n₂ : ℕ} {b₂ : List ℕ} → Puts m s at b next b₁ → Puts k t next b₁ n₂ b₂ → Puts (m + k) (s ++ t) at b n₂ b₂
  then_put {m} {k} {s} {t} p q =
      record {
        put = q.put ∙ ap (λ (f : Filled). put_rule t f.next f.lent) p.put ∙ joined s t at b;
        short = omega (arith, length-append s t, p.short, q.short);
      }

pub nothing_put : (at : ℕ) (b : List ℕ) → Puts 0 [] at b at b
nothing_put at b = record { put = nothing at b; short = le_refl 0 }

-- without room nothing is put
pub put_without_room : {fits : Bool} (most : ℕ) (text : List ℕ) (at : ℕ) (b : List ℕ) → fits ≡ fits_at most at (length b) → fits ≡ false → filled at b ≡ whole_rule most text at b
unfolding whole_rule
put_without_room most text at b test so =
    let room : fits_at most at (length b) ≡ false = sym test ∙ so in
    sym (simp room)

-- and with room all of it is
pub whole_with_room : (most : ℕ) (text : List ℕ) (at : ℕ) (b : List ℕ) → at + most ≤ length b → whole_rule most text at b ≡ filled (at + length text) (pasted text at b)
unfolding whole_rule
whole_with_room most text at b room = simp (le-leb (at + most) (length b) room)

-- no text has its room everywhere
pub nothing_whole : (at : ℕ) (b : List ℕ) → filled at b ≡ whole_rule 0 [] at b
nothing_whole at b = by (fits_at 0 at (length b)) refl
  where
    by : (fits : Bool) → fits ≡ fits_at 0 at (length b) → filled at b ≡ whole_rule 0 [] at b
    by true test = put_with_room (nothing_put at b) test refl
    by false test = put_without_room 0 [] at b test refl

-- the same of a lent buffer with its offset
pub nothing_out : (o : Out) → Outputs 0 [] o o
nothing_out o = record { puts = nothing_put o.at o.buffer.now; same = refl }

module _ {o o₁ : Out} where
  pub out_at_most : {m : ℕ} {text : List ℕ} (most : ℕ) → m ≤ most → Outputs m text o o₁ → Outputs most text o o₁
  out_at_most most h p = record { puts = at_most most h p.puts; same = p.same }

  pub same_out : {m : ℕ} {s t : List ℕ} → s ≡ t → Outputs m s o o₁ → Outputs m t o o₁
  same_out e p = record { puts = same_text e p.puts; same = p.same }

  pub then_out : {m k : ℕ} {s t : List ℕ} {o₂ : Out} → Outputs m s o o₁ → Outputs k t o₁ o₂ → Outputs (m + k) (s ++ t) o o₂
  then_out p q = record { puts = then_put p.puts q.puts; same = p.same ∙ q.same }

  -- where the loan ends, the buffer that was lent is what was put in it
  pub put_back : {m : ℕ} {text : List ℕ} {b₁ : List ℕ} → Outputs m text o o₁ → (o.buffer.ghost_name ≡ o₁.buffer.ghost_name → b₁ ≡ o₁.buffer.now) → Puts m text o.at o.buffer.now o₁.at b₁
  put_back {m} {text} p back = subst (λ (l : List ℕ). Puts m text o.at o.buffer.now o₁.at l) (sym (back p.same)) p.puts

  pub whole_back : {most : ℕ} {text : List ℕ} {b₁ : List ℕ} → OutputsWhole most text o o₁ → (o.buffer.ghost_name ≡ o₁.buffer.ghost_name → b₁ ≡ o₁.buffer.now) → filled o₁.at b₁ ≡ whole_rule most text o.at o.buffer.now
  whole_back p back = ap (filled o₁.at) (back p.same) ∙ p.whole

  pub out_with_room : {most : ℕ} {text : List ℕ} {fits : Bool} → Outputs most text o o₁ → fits ≡ fits_at most o.at (length o.buffer.now) → fits ≡ true → OutputsWhole most text o o₁
  out_with_room p test so = record { whole = put_with_room p.puts test so; same = p.same }

pub out_without_room : {fits : Bool} (most : ℕ) (text : List ℕ) (o : Out) → fits ≡ fits_at most o.at (length o.buffer.now) → fits ≡ false → OutputsWhole most text o o
out_without_room most text o test so =
    record { whole = put_without_room most text o.at o.buffer.now test so; same = refl }
