-- Laws of the rules, and of reading a text by them.
use Prim.Native.Nat.{ℕ, zero, suc, ◌+◌, ◌-◌, ◌*◌, ◌^◌, ◌≤◌, ◌<◌}
use Rattle.std.specs.Prelude.{◌≡◌, Bool, cond, leb, ltb, eqb, length, List, [], ◌∷◌, ◌&&◌, Option, Some, None, MatchOption}
use Rattle.std.specs.Borrow.{Bor}
use Rattle.std.specs.Cmp.Lexicographic.{pointwise}
use Rattle.std.proofs.Math.Path.{refl, sym, ap}
use Rattle.std.proofs.Common.{◌∙◌, true≢false, zero-add, suc-add, add-one, lit<}
use Rattle.std.proofs.Math.Nat.{pow-le-pow_right, pow-suc}
use Rattle.std.proofs.Math.Bool.{true, false}
use native.Mathlib.Omega.{arith}
use Rattle.std.proofs.Math.ListN.{get_or, take, drop}
use Rattle.std.proofs.Math.Seq.{take_all}
use borrow.Author.Tests.{ne_eqb, lt-ltb, le-ltb, le-leb, lt-leb, leb-true, ltb-true, ltb-false}
use Rattle.text.specs.Texts.{digits32}
use Rattle.scan.specs.Scans.{Scan, missing, found, then_scan, word_scan, stopped, Run, run_after, number_scan, digit_more, digits_scan}
use Rattle.scan.specs.ScanContracts.{after_of, too_large, capped, capped_scan, capped_run}

-- what is found is not nothing
pub not_missing : {A : Type 0} {value : A} {rest : List ℕ} → found value rest ≡ missing → ⊥
not_missing e = true≢false (ap is_found_law e)
  where
    is_found_law : {A : Type 0} → Scan A → Bool
    is_found_law missing = false
    is_found_law (found value rest) = true

pub same_value : {A : Type 0} {a b : A} {r s : List ℕ} → found a r ≡ found b s → a ≡ b
same_value e = cc e

pub same_rest : {A : Type 0} {a b : A} {r s : List ℕ} → found a r ≡ found b s → r ≡ s
same_rest e = cc e

-- another value before the same byte
pub stopped_as : {A B : Type 0} (stop : ℕ) (a : A) (b : B) (s : List ℕ) → then_scan (stopped stop a s) (λ x rest. found b rest) ≡ stopped stop b s
unfolding stopped
stopped_as stop a b [] = refl
stopped_as stop a b (c ∷ s) = go (eqb c stop)
  where
    go : (t : Bool) → then_scan (cond t (found a s) missing) (λ x rest. found b rest) ≡ cond t (found b s) missing
    go true = refl
    go false = refl

-- a word is found where its bytes come next
word_by : (word text : List ℕ) → word_scan word text ≡ cond (pointwise eqb (take (length word) text) word) (found tt (drop (length word) text)) missing
unfolding word_scan
word_by [] text = refl
word_by (w ∷ word) [] = refl
word_by (w ∷ word) (c ∷ text) = go (eqb c w) (word_by word text)
  where
    go : (b : Bool) → word_scan word text ≡ cond (pointwise eqb (take (length word) text) word) (found tt (drop (length word) text)) missing → cond b (word_scan word text) missing ≡ cond (b && pointwise eqb (take (length word) text) word) (found tt (drop (length word) text)) missing
    go true e = e
    go false e = refl

-- what `strip_prefix` gives
pub word_stripped : (word text : List ℕ) (r : Option (Bor (List ℕ))) → MatchOption r (pointwise eqb (take (length word) text) word ≡ false) (λ x. (pointwise eqb (take (length word) text) word ≡ true) × (x.now ≡ drop (length word) text) × (length x.now + length word ≡ length text)) → after_of r ≡ word_scan word text
word_stripped word text None h = sym (word_by word text ∙ simp h)
word_stripped word text (Some rest) h = ap (found tt) h.1 ∙ sym (word_by word text ∙ simp h.0)

-- numbers from a bound on are one
pub capped_small : (n : ℕ) → n < too_large → capped n ≡ n
unfolding capped
capped_small n h = simp (lt-ltb n too_large h)

pub capped_large : (n : ℕ) → too_large ≤ n → capped n ≡ too_large
unfolding capped
capped_large n h = simp (le-ltb n too_large h)

pub capped_most : (n : ℕ) → capped n ≤ too_large
capped_most n = go (ltb n too_large) refl
  where
    go : (b : Bool) → ltb n too_large ≡ b → capped n ≤ too_large
    go true e =
        let h : n < too_large = ltb-true _ _ e in
        omega (arith, capped_small n h)
    go false e = let h : too_large ≤ n = ltb-false _ _ e in omega (arith, capped_large n h)

pub capped_more : (n d : ℕ) → capped (capped n * 10 + d) ≡ capped (n * 10 + d)
capped_more n d = go (ltb n too_large) refl
  where
    go : (b : Bool) → ltb n too_large ≡ b → capped (capped n * 10 + d) ≡ capped (n * 10 + d)
    go true e = ap (λ (m : ℕ). capped (m * 10 + d)) (capped_small n (ltb-true _ _ e))
    go false e =
        let h : too_large ≤ n = ltb-false _ _ e in
        capped_large (capped n * 10 + d) (omega (arith, capped_large n h)) ∙ sym (capped_large (n * 10 + d) (omega arith))

-- a number of which only the bound tells that it is small is itself
pub capped_is : (n v most : ℕ) → capped n ≡ v → v ≤ most → most < too_large → n ≡ v
capped_is n v most e h l = go (ltb n too_large) refl
  where
    go : (b : Bool) → ltb n too_large ≡ b → n ≡ v
    go true q = sym (capped_small n (ltb-true _ _ q)) ∙ e
    go false q = absurd (let z : too_large ≤ n = ltb-false _ _ q in omega (arith, capped_large n z, e, h, l))

-- the bytes after the first
tail_is : (c : ℕ) (text : List ℕ) → take (suc (length text) - 1) text ≡ text
tail_is c text = take_all (suc (length text) - 1) text (omega arith)

-- no digit comes next
run_stops : (n : ℕ) (text : List ℕ) → (1 ≤ length text → 48 ≤ get_or text 0 0 → 57 < get_or text 0 0) → run_after n text ≡ record { value = n; rest = text }
unfolding run_after
run_stops n [] h = refl
run_stops n (c ∷ text) h = go (leb 48 c) refl
  where
    go : (b : Bool) → leb 48 c ≡ b → cond (b && leb c 57) (run_after (n * 10 + (c - 48)) text) (record { value = n; rest = c ∷ text }) ≡ record { value = n; rest = c ∷ text }
    go true e = simp (lt-leb c 57 (h (omega arith) (leb-true 48 c e)))
    go false e = refl

-- the digits so far came to n, or to a number that is too large
pub record Running (text : List ℕ) (value : ℕ) (rest : List ℕ) : Type 0 where
  pub n : ℕ
  pub counted : value ≡ capped n
  pub so : run_after n rest ≡ run_after 0 text

pub run_begun : (text : List ℕ) → Running text 0 text
unfolding capped
run_begun text = record { n = 0; counted = refl; so = refl }

module _ {text : List ℕ} {value : ℕ} {rest : List ℕ} (s : Running text value rest) where
  pub run_small : value ≤ too_large
  run_small = let m = capped_most s.n in omega (arith, s.counted)

  pub run_more : {more : ℕ} → 1 ≤ length rest → 48 ≤ get_or rest 0 0 → get_or rest 0 0 ≤ 57 → more ≡ capped (value * 10 + (get_or rest 0 0 - 48)) → Running text more (take (length rest - 1) (drop 1 rest))
  unfolding run_after
  run_more {more} = go rest s.so
    where
      go : (t : List ℕ) → run_after s.n t ≡ run_after 0 text → 1 ≤ length t → 48 ≤ get_or t 0 0 → get_or t 0 0 ≤ 57 → more ≡ capped (value * 10 + (get_or t 0 0 - 48)) → Running text more (take (length t - 1) (drop 1 t))
      go [] so h l u e = absurd (omega arith)
      go (c ∷ t) so h l u e =
          record {
            n = s.n * 10 + (c - 48);
            counted = e ∙ ap (λ (k : ℕ). capped (k * 10 + (c - 48))) s.counted ∙ capped_more s.n (c - 48);
            so = ap (run_after (s.n * 10 + (c - 48))) (tail_is c t) ∙ sym (sym so ∙ simp (le-leb 48 c l, le-leb c 57 u));
          }

  pub run_ended : (1 ≤ length rest → 48 ≤ get_or rest 0 0 → 57 < get_or rest 0 0) → ◌≡◌ {A = ℕ × List ℕ} (value, rest) (capped_run (run_after 0 text))
  run_ended d = ap (λ (k : ℕ). (k, rest)) s.counted ∙ ap capped_run (sym (run_stops s.n rest d) ∙ s.so)

-- a zero alone
pub capped_stop : (stop n : ℕ) (s : List ℕ) → stopped stop (capped n) s ≡ then_scan (stopped stop n s) (λ m rest. found (capped m) rest)
unfolding stopped
capped_stop stop n [] = refl
capped_stop stop n (c ∷ s) = go (eqb c stop)
  where
    go : (t : Bool) → cond t (found (capped n) s) missing ≡ then_scan (cond t (found n s) missing) (λ m rest. found (capped m) rest)
    go true = refl
    go false = refl

module _ (stop : ℕ) where
  abbrev capping : Scan ℕ → Scan ℕ
  capping x = then_scan x λ n rest. found (capped n) rest

  pub number_zero : (text : List ℕ) → 1 ≤ length text → get_or text 0 0 ≡ 48 → stopped stop 0 (take (length text - 1) (drop 1 text)) ≡ capped_scan stop text
  unfolding capped_scan number_scan capped
  number_zero [] h z = absurd (omega arith)
  number_zero (c ∷ text) h z = ap (stopped stop 0) (tail_is c text) ∙ capped_stop stop 0 text ∙ ap capping (sym (ap (λ (k : ℕ). number_scan stop (k ∷ text)) z))

  pub number_run : (text : List ℕ) {value : ℕ} {rest : List ℕ} → 1 ≤ length text → 49 ≤ get_or text 0 0 → get_or text 0 0 ≤ 57 → ◌≡◌ {A = ℕ × List ℕ} (value, rest) (capped_run (run_after 0 text)) → stopped stop value rest ≡ capped_scan stop text
  unfolding capped_scan number_scan run_after
  number_run [] h l u e = absurd (omega arith)
  number_run (c ∷ text) {value} {rest} h l u e =
      let run : Run = run_after (c - 48) text in
      let is : number_scan stop (c ∷ text) ≡ stopped stop run.value run.rest = simp (le-leb 48 c (omega arith), le-leb c 57 u, ne_eqb c 48 (λ z. omega (arith, z))) in
      let first : 0 * 10 + (c - 48) ≡ c - 48 = omega arith in
      let same : run_after 0 (c ∷ text) ≡ run = simp (le-leb 48 c (omega arith), le-leb c 57 u) (ap (λ (k : ℕ). run_after k text) first) in
      ap (λ (p : ℕ × List ℕ). stopped stop p.0 p.1) (e ∙ ap capped_run same) ∙ capped_stop stop run.value run.rest ∙ ap capping (sym is)

-- digits of a fixed width, one more
pub digits_more : (i : ℕ) (text : List ℕ) {rest : List ℕ} {value : ℕ} {x : Scan ℕ} → digits_scan i text ≡ found value rest → x ≡ digit_more value rest → digits_scan (i + 1) text ≡ x
unfolding digits_scan
digits_more i text e x = ap (λ (k : ℕ). digits_scan k text) (add-one i) ∙ ap (λ (y : Scan ℕ). then_scan y digit_more) e ∙ sym x

-- what is missing stays missing
pub gone : (text : List ℕ) (i more : ℕ) → digits_scan i text ≡ missing → digits_scan (more + i) text ≡ missing
unfolding digits_scan
gone text i zero e = ap (λ (k : ℕ). digits_scan k text) (zero-add i) ∙ e
gone text i (suc more) e = ap (λ (k : ℕ). digits_scan k text) (suc-add more i) ∙ ap (λ (x : Scan ℕ). then_scan x digit_more) (gone text i more e)

pub digits_missing : (width i : ℕ) (text : List ℕ) {rest : List ℕ} {value : ℕ} → digits_scan i text ≡ found value rest → i < width → missing ≡ digit_more value rest → missing ≡ digits_scan width text
digits_missing width i text e h m =
    let all : width ≡ (width - (i + 1)) + (i + 1) = omega arith in
    sym (ap (λ (k : ℕ). digits_scan k text) all ∙ gone text (i + 1) (width - (i + 1)) (digits_more i text e m))

-- a value of fewer than eight digits has room for another
pub digit_room : (width i value : ℕ) → value < 16 ^ i → i < width → width ≤ digits32 → value * 16 + 15 < 4294967296
digit_room width i value h l w =
    let few : i ≤ 7 = omega arith in
    omega (arith, pow-le-pow_right {n = 16} (lit< tt) few)

pub digit_small : (i value more : ℕ) → value < 16 ^ i → more ≤ value * 16 + 15 → more < 16 ^ (i + 1)
digit_small i value more h l = rw add-one (omega (arith, pow-suc 16 i))
