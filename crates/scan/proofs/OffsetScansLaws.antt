-- Laws of reading a text from an offset in it on, one field after another. No function needs them, since the readers take the rest of the text.
use Prim.Native.Nat.{ℕ, zero, suc, ◌+◌, ◌-◌, ◌*◌, ◌^◌, ◌≤◌, ◌<◌}
use Rattle.std.specs.Prelude.{◌≡◌, Bool, ltb, eqb, length}
use Rattle.std.proofs.Math.Path.{refl, sym, ap, subst}
use Rattle.std.proofs.Common.{◌∙◌, true≢false, not-suc-le-zero, le_of_suc-le-suc, add-one, drop-cons}
use Rattle.std.proofs.Math.Bool.{true, false}
use Rattle.std.proofs.lemmas.Bool.{false≢true}
use mathlib.Core.List.{List, [], ◌∷◌}
use native.Mathlib.Omega.{arith}
use Rattle.std.proofs.Math.ListN.{get_or, drop, drop_of_length-le}
use Rattle.std.proofs.Math.Seq.{drop-drop, drop-length}
use borrow.Author.Tests.{eqb-true, eq-eqb, ne_eqb, lt-ltb, le-ltb, le-leb, lt-leb, ltb-true, ltb-false}
use Rattle.text.specs.Texts.{digits32}
use Rattle.text.specs.Words.{is_digit}
use Rattle.scan.specs.Scans.{Scan, missing, found, then_scan, pair_scan, word_scan, stopped, Run, run_after, number_scan, within_most, decimal_scan, capital_digit, digit_more, digits_scan, hex_scan, dash, unknown_or}
use Rattle.scan.specs.ScanContracts.{too_large, capped, capped_scan}
use Rattle.scan.proofs.ScansLaws.{not_missing, same_value, same_rest, stopped_as, capped_small, capped_most, capped_more, capped_is, capped_stop, gone}
use Rattle.scan.proofs.OffsetScans.{scanned, Scans, Nothing, Runs, front_is, front_digit}

-- the byte at an offset, and the text after it
pub front : (text : List ℕ) (at : ℕ) → at < length text → drop at text ≡ get_or text at 0 ∷ drop (at + 1) text
front text at h = drop-cons text at 0 h ∙ ap (λ (n : ℕ). get_or text at 0 ∷ drop n text) (sym (add-one at))

module _ (byte : ℕ) (text : List ℕ) (at : ℕ) where
  pub front_is_law : at < length text → eqb (get_or text at 0) byte ≡ front_is byte (drop at text)
  unfolding front_is
  front_is_law h = ap (front_is byte) (sym (front text at h))

  pub front_none : length text ≤ at → false ≡ front_is byte (drop at text)
  unfolding front_is
  front_none h = ap (front_is byte) (sym (drop_of_length-le text h))

  pub front_cons : front_is byte (drop at text) ≡ true → drop at text ≡ byte ∷ drop (at + 1) text
  unfolding front_is
  front_cons e = go (drop at text) refl e
    where
      go : (s : List ℕ) → drop at text ≡ s → front_is byte s ≡ true → drop at text ≡ byte ∷ drop (at + 1) text
      go [] q t = absurd (false≢true t)
      go (c ∷ s) q t =
          let rest : s ≡ drop (at + 1) text = ap (drop 1) (sym q) ∙ drop-drop 1 at text in
          q ∙ (λ i. eqb-true c byte t i ∷ rest i)

-- a rule that finds nothing
nothing_found : {A : Type 0} (rule : List ℕ → Scan A) (text : List ℕ) (at : ℕ) {is_found : Bool} {value : A} {zero next : ℕ} → Nothing text is_found zero next → rule (drop at text) ≡ missing → Scans rule text at is_found value next
nothing_found rule text at {is_found} {value} {next} n m =
    record { so = ap (λ (b : Bool). scanned b value (drop next text)) n.none ∙ sym m; end = λ z. n.end }

-- a rule that finds this
pub value_found : {A : Type 0} (rule : List ℕ → Scan A) (text : List ℕ) (at : ℕ) (value : A) (next : ℕ) → rule (drop at text) ≡ found value (drop next text) → Scans rule text at true value next
value_found rule text at value next e = record { so = sym e; end = λ z. absurd (true≢false z) }

-- a rule that finds the same as another
pub as_rule : {A : Type 0} {rule other : List ℕ → Scan A} {text : List ℕ} {at from : ℕ} {is_found : Bool} {value : A} {next : ℕ} → rule (drop from text) ≡ other (drop at text) → Scans rule text from is_found value next → Scans other text at is_found value next
as_rule e s = record { so = s.so ∙ e; end = s.end }

-- the byte after a value
module _ {A : Type 0} (stop : ℕ) (value : A) (text : List ℕ) (at : ℕ) where
  pub stop_found : front_is stop (drop at text) ≡ true → Scans (stopped stop value) text at true value (at + 1)
  unfolding stopped
  stop_found e =
      value_found (stopped stop value) text at value (at + 1) (ap (stopped stop value) (front_cons stop text at e) ∙ simp (eq-eqb stop stop refl))

  pub stop_missing : {f : Bool} {v n : ℕ} {other : A} → front_is stop (drop at text) ≡ false → Nothing text f v n → Scans (stopped stop value) text at f other n
  unfolding front_is stopped
  stop_missing e n = nothing_found (stopped stop value) text at n (go (drop at text) e)
    where
      go : (s : List ℕ) → front_is stop s ≡ false → stopped stop value s ≡ missing
      go [] q = refl
      go (c ∷ s) q = simp q

-- a value made of the one that is found
pub mapped : {A B : Type 0} (g : A → B) {rule : List ℕ → Scan A} {text : List ℕ} {at : ℕ} {is_found : Bool} {value : A} {next : ℕ} → Scans rule text at is_found value next → Scans (λ (t : List ℕ). then_scan (rule t) λ x rest. found (g x) rest) text at is_found (g value) next
mapped {A} {B} g {rule} {text} {at} {is_found} {value} {next} s =
    record { so = go is_found ∙ ap (λ (x : Scan A). then_scan x λ a rest. found (g a) rest) s.so; end = s.end }
  where
    go : (b : Bool) → scanned b (g value) (drop next text) ≡ then_scan (scanned b value (drop next text)) (λ a rest. found (g a) rest)
    go true = refl
    go false = refl

-- one field after another: where the first is missing, the second is sought at the end of the text, and is missing too
pub pair_scanned : {A B : Type 0} {first : List ℕ → Scan A} {second : List ℕ → Scan B} {text : List ℕ} {at : ℕ} {f g : Bool} {a : A} {b : B} {m n : ℕ} → second [] ≡ missing → Scans first text at f a m → Scans second text m g b n → Scans (pair_scan first second) text at g (a, b) n
unfolding pair_scan
pair_scanned {A} {B} {first} {second} {text} {at} {f} {g} {a} {b} {m} {n} none p q = record { so = go f refl p.so; end = q.end }
  where
    both : (x : Bool) → scanned {A = A × B} x (a, b) (drop n text) ≡ then_scan (scanned x b (drop n text)) (λ y rest. found (a, y) rest)
    both true = refl
    both false = refl

    go : (x : Bool) → f ≡ x → scanned x a (drop m text) ≡ first (drop at text) → scanned {A = A × B} g (a, b) (drop n text) ≡ then_scan (first (drop at text)) (λ u rest. then_scan (second rest) (λ v rest. found (u, v) rest))
    go true e so =
        both g ∙ ap (λ (y : Scan B). then_scan y λ v rest. found (a, v) rest) q.so ∙ ap (λ (x : Scan A). then_scan x λ u rest. then_scan (second rest) λ v rest. found (u, v) rest) so
    go false e so =
        let last : second (drop m text) ≡ missing = ap second (ap (λ (k : ℕ). drop k text) (p.end e) ∙ drop-length text) ∙ none in
        both g ∙ ap (λ (y : Scan B). then_scan y λ v rest. found (a, v) rest) (q.so ∙ last) ∙ ap (λ (x : Scan A). then_scan x λ u rest. then_scan (second rest) λ v rest. found (u, v) rest) so

-- the first i bytes of a word have been found
pub record Matched (text : List ℕ) (at : ℕ) (word : List ℕ) (next i : ℕ) : Type 0 where
  pub so : word_scan (drop i word) (drop next text) ≡ word_scan word (drop at text)

module _ (text : List ℕ) (at : ℕ) (word : List ℕ) where
  pub word_begun : Matched text at word at 0
  word_begun = record { so = refl }

  module _ {next i : ℕ} (s : Matched text at word next i) where
    word_step : i < length word → word_scan word (drop at text) ≡ word_scan (get_or word i 0 ∷ drop (i + 1) word) (drop next text)
    word_step h = sym s.so ∙ ap (λ (w : List ℕ). word_scan w (drop next text)) (front word i h)

    pub word_more : i < length word → front_is (get_or word i 0) (drop next text) ≡ true → Matched text at word (next + 1) (i + 1)
    unfolding word_scan
    word_more h e =
        record { so = sym (word_step h ∙ ap (word_scan (get_or word i 0 ∷ drop (i + 1) word)) (front_cons (get_or word i 0) text next e) ∙ simp (eq-eqb (get_or word i 0) (get_or word i 0) refl)) }

    pub word_missing : {f : Bool} {v n : ℕ} → i < length word → front_is (get_or word i 0) (drop next text) ≡ false → Nothing text f v n → Scans (word_scan word) text at f tt n
    unfolding front_is word_scan
    word_missing h e n = nothing_found (word_scan word) text at n (word_step h ∙ go (drop next text) e)
      where
        go : (t : List ℕ) → front_is (get_or word i 0) t ≡ false → word_scan (get_or word i 0 ∷ drop (i + 1) word) t ≡ missing
        go [] q = refl
        go (c ∷ t) q = simp q

    pub word_done : length word ≤ i → Scans (word_scan word) text at true tt next
    unfolding word_scan
    word_done h =
        value_found (word_scan word) text at tt next (sym s.so ∙ ap (λ (w : List ℕ). word_scan w (drop next text)) (drop_of_length-le word h))

-- the digits up to an offset came to n, or to a number that is too large
pub record Running (text : List ℕ) (at first value next : ℕ) : Type 0 where
  pub n : ℕ
  pub counted : value ≡ capped n
  pub so : run_after n (drop next text) ≡ run_after first (drop at text)

module _ (text : List ℕ) (at first : ℕ) where
  pub run_begun : first < too_large → Running text at first first at
  run_begun h = record { n = first; counted = sym (capped_small first h); so = refl }

  module _ {value next : ℕ} (s : Running text at first value next) where
    pub run_small : value ≤ too_large
    run_small = let c = s.counted in let m = capped_most s.n in subst (λ (k : ℕ). k ≤ too_large) (sym c) m

    pub run_more : {more : ℕ} → next < length text → is_digit (get_or text next 0) ≡ true → more ≡ capped (value * 10 + (get_or text next 0 - 48)) → Running text at first more (next + 1)
    unfolding run_after
    run_more {more} h d e =
        let m : ℕ = s.n in
        record {
          n = m * 10 + (get_or text next 0 - 48);
          counted = e ∙ ap (λ (k : ℕ). capped (k * 10 + (get_or text next 0 - 48))) s.counted ∙ capped_more m (get_or text next 0 - 48);
          so = sym (sym s.so ∙ ap (run_after m) (front text next h) ∙ simp d);
        }

    pub run_stopped_law : next < length text → is_digit (get_or text next 0) ≡ false → Runs (run_after first (drop at text)) text value next
    unfolding run_after
    run_stopped_law h d =
        let stops : run_after s.n (drop next text) ≡ record { value = s.n; rest = get_or text next 0 ∷ drop (next + 1) text } = ap (run_after s.n) (front text next h) ∙ simp d in
        let e : record { value = s.n; rest = get_or text next 0 ∷ drop (next + 1) text } ≡ run_after first (drop at text) = sym stops ∙ s.so in
        record {
          counted = s.counted ∙ ap (λ (r : Run). capped r.value) e;
          so = front text next h ∙ ap (λ (r : Run). r.rest) e;
        }

    pub run_ended : length text ≤ next → Runs (run_after first (drop at text)) text value next
    unfolding run_after
    run_ended h =
        let none : drop next text ≡ [] = drop_of_length-le text h in
        let e : record { value = s.n; rest = [] } ≡ run_after first (drop at text) = sym (ap (run_after s.n) none) ∙ s.so in
        record { counted = s.counted ∙ ap (λ (r : Run). capped r.value) e; so = none ∙ ap (λ (r : Run). r.rest) e }

-- a number and the byte after it
module _ (stop : ℕ) (text : List ℕ) (at : ℕ) where
  abbrev capping : Scan ℕ → Scan ℕ
  capping x = then_scan x λ n rest. found (capped n) rest

  pub number_zero : {f : Bool} {v n : ℕ} → at < length text → get_or text at 0 ≡ 48 → Scans (stopped stop 0) text (at + 1) f v n → Scans (capped_scan stop) text at f v n
  unfolding capped_scan number_scan capped
  number_zero h z s =
      as_rule (capped_stop stop 0 (drop (at + 1) text) ∙ ap capping (sym (ap (number_scan stop) (front text at h ∙ ap (λ (c : ℕ). c ∷ drop (at + 1) text) z)))) s

  pub number_run : {f : Bool} {v n value next : ℕ} → at < length text → (get_or text at 0 ≡ 48 → ⊥) → is_digit (get_or text at 0) ≡ true → Runs (run_after (get_or text at 0 - 48) (drop (at + 1) text)) text value next → Scans (stopped stop value) text next f v n → Scans (capped_scan stop) text at f v n
  unfolding capped_scan number_scan
  number_run {f} {v} {n} {value} {next} h z d r s =
      let run : Run = run_after (get_or text at 0 - 48) (drop (at + 1) text) in
      let is : number_scan stop (get_or text at 0 ∷ drop (at + 1) text) ≡ stopped stop run.value run.rest = simp (d, ne_eqb (get_or text at 0) 48 z) in
      as_rule ((λ i. stopped stop (r.counted i) (r.so i)) ∙ capped_stop stop run.value run.rest ∙ ap capping (sym (ap (number_scan stop) (front text at h) ∙ is))) s

  pub number_none : {f : Bool} {v n : ℕ} → at < length text → is_digit (get_or text at 0) ≡ false → Nothing text f v n → Scans (capped_scan stop) text at f v n
  unfolding capped_scan number_scan
  number_none h d n =
      let is : number_scan stop (get_or text at 0 ∷ drop (at + 1) text) ≡ missing = simp d in
      nothing_found (capped_scan stop) text at n (ap capping (ap (number_scan stop) (front text at h) ∙ is))

  pub number_past : {f : Bool} {v n : ℕ} → length text ≤ at → Nothing text f v n → Scans (capped_scan stop) text at f v n
  unfolding capped_scan number_scan
  number_past h n =
      nothing_found (capped_scan stop) text at n (ap capping (ap (number_scan stop) (drop_of_length-le text h)))

  -- one that is at most a bound
  module _ (most : ℕ) (small : most < too_large) where
    within_bound : (x : Scan ℕ) {v : ℕ} {rest : List ℕ} → found v rest ≡ capping x → v ≤ most → then_scan x (within_most most) ≡ found v rest
    within_bound missing e h = absurd (not_missing e)
    within_bound (found m r) {v} {rest} e h =
        let is : m ≡ v = capped_is m v most (sym (same_value e)) h small in
        let fits : m ≤ most = omega (arith, is, h) in
        simp (le-leb m most fits) (λ i. found (is i) (sym (same_rest e) i))

    above_bound : (x : Scan ℕ) {v : ℕ} {rest : List ℕ} → found v rest ≡ capping x → most < v → then_scan x (within_most most) ≡ missing
    above_bound missing e h = refl
    above_bound (found m r) {v} e h = simp (lt-leb m most (over (ltb m too_large) refl))
      where
        over : (b : Bool) → ltb m too_large ≡ b → most < m
        over true q = let z : v ≡ m = same_value e ∙ capped_small m (ltb-true _ _ q) in omega (arith, z, h)
        over false q = let z : too_large ≤ m = ltb-false _ _ q in omega (arith, small)

    no_bound : (x : Scan ℕ) → missing ≡ capping x → then_scan x (within_most most) ≡ missing
    no_bound missing e = refl
    no_bound (found m r) e = absurd (not_missing (sym e))

    pub decimal_found : {v n : ℕ} {f : Bool} → Scans (capped_scan stop) text at f v n → f ≡ true → v ≤ most → Scans (decimal_scan most stop) text at f v n
    unfolding capped_scan decimal_scan
    decimal_found {v} {n} {f} s is h =
        let e : found v (drop n text) ≡ capped_scan stop (drop at text) = ap (λ (b : Bool). scanned b v (drop n text)) (sym is) ∙ s.so in
        record { so = ap (λ (b : Bool). scanned b v (drop n text)) is ∙ sym (within_bound (number_scan stop (drop at text)) e h); end = s.end }

    pub decimal_over : {v n w m : ℕ} {f g : Bool} → Scans (capped_scan stop) text at f v n → f ≡ true → most < v → Nothing text g w m → Scans (decimal_scan most stop) text at g w m
    unfolding capped_scan decimal_scan
    decimal_over {v} {n} {w} {m} {f} s is h none =
        nothing_found (decimal_scan most stop) text at none (above_bound (number_scan stop (drop at text)) (ap (λ (b : Bool). scanned b v (drop n text)) (sym is) ∙ s.so) h)

    pub decimal_none : {v n w m : ℕ} {f g : Bool} → Scans (capped_scan stop) text at f v n → f ≡ false → Nothing text g w m → Scans (decimal_scan most stop) text at g w m
    unfolding capped_scan decimal_scan
    decimal_none {v} {n} {w} {m} {f} s is none =
        nothing_found (decimal_scan most stop) text at none (no_bound (number_scan stop (drop at text)) (ap (λ (b : Bool). scanned b v (drop n text)) (sym is) ∙ s.so))

-- the digit at an offset
module _ (text : List ℕ) (at : ℕ) where
  pub front_digit_law : at < length text → capital_digit (get_or text at 0) ≡ front_digit (drop at text)
  unfolding front_digit
  front_digit_law h = ap front_digit (sym (front text at h))

  pub no_front_digit : length text ≤ at → 16 ≡ front_digit (drop at text)
  unfolding front_digit
  no_front_digit h = ap front_digit (sym (drop_of_length-le text h))

-- powers of sixteen grow
pow_pos_16 : (n : ℕ) → 0 < 16 ^ n
pow_pos_16 zero = omega arith
pow_pos_16 (suc n) = omega (arith, pow_pos_16 n)

pow_mono_16 : (i k : ℕ) → i ≤ k → 16 ^ i ≤ 16 ^ k
pow_mono_16 zero k h = omega (arith, pow_pos_16 k)
pow_mono_16 (suc i) zero h = absurd (not-suc-le-zero h)
pow_mono_16 (suc i) (suc k) h = omega (arith, pow_mono_16 i k (le_of_suc-le-suc h))

-- i digits came to a value
pub record Hexed (text : List ℕ) (at width value next i : ℕ) : Type 0 where
  pub within : i ≤ width
  pub small : value < 16 ^ i
  pub so : digits_scan i (drop at text) ≡ found value (drop next text)

-- the digits, and the byte after them
module _ (text : List ℕ) (at width stop : ℕ) where
  pub hex_begun : Hexed text at width 0 at 0
  unfolding digits_scan
  hex_begun = record { within = omega arith; small = omega arith; so = refl }

  module _ {value next i d : ℕ} (s : Hexed text at width value next i) (e : d ≡ front_digit (drop next text)) where
    one_more : digits_scan (suc i) (drop at text) ≡ digit_more value (drop next text)
    unfolding digits_scan
    one_more = ap (λ (x : Scan ℕ). then_scan x digit_more) s.so

    pub hex_more : i < width → d < 16 → Hexed text at width (value * 16 + d) (next + 1) (i + 1)
    unfolding digit_more front_digit
    hex_more h l =
        record {
          within = omega arith;
          small = ap_small (add-one i);
          so = ap (λ (k : ℕ). digits_scan k (drop at text)) (add-one i) ∙ one_more ∙ go (drop next text) refl e;
        }
      where
        ap_small : i + 1 ≡ suc i → value * 16 + d < 16 ^ (i + 1)
        ap_small q =
            subst (λ (k : ℕ). value * 16 + d < 16 ^ k) (sym q) (omega (arith, s.small))

        go : (t : List ℕ) → drop next text ≡ t → d ≡ front_digit t → digit_more value t ≡ found (value * 16 + d) (drop (next + 1) text)
        go [] q z = absurd (omega (arith, l, z))
        go (c ∷ t) q z =
            let rest : t ≡ drop (next + 1) text = ap (drop 1) (sym q) ∙ drop-drop 1 next text in
            simp (sym z, lt-ltb d 16 l) (ap (found (value * 16 + d)) rest)

    pub hex_missing : {f : Bool} {v n : ℕ} → i < width → 16 ≤ d → Nothing text f v n → Scans (hex_scan width stop) text at f v n
    unfolding hex_scan digit_more front_digit
    hex_missing h l n =
        let fails : digits_scan (suc i) (drop at text) ≡ missing = one_more ∙ go (drop next text) e in
        let all : width ≡ (width - suc i) + suc i = omega arith in
        nothing_found (hex_scan width stop) text at n (ap (λ (x : Scan ℕ). then_scan x (stopped stop)) (ap (λ (k : ℕ). digits_scan k (drop at text)) all ∙ gone (drop at text) (suc i) (width - suc i) fails))
      where
        go : (t : List ℕ) → d ≡ front_digit t → digit_more value t ≡ missing
        go [] z = refl
        go (c ∷ t) z = simp (sym z, le-ltb d 16 l)

  pub hex_done : {value next i v n : ℕ} {f : Bool} → Hexed text at width value next i → width ≤ i → Scans (stopped stop value) text next f v n → Scans (hex_scan width stop) text at f v n
  unfolding hex_scan
  hex_done {value} {next} {i} s h r =
      let all : i ≡ width = omega (arith, s.within) in
      as_rule (ap (λ (x : Scan ℕ). then_scan x (stopped stop)) (sym s.so ∙ ap (λ (k : ℕ). digits_scan k (drop at text)) all)) r

-- a value of fewer than eight digits has room for another
pub hex_room : {text : List ℕ} {at width value next i : ℕ} → Hexed text at width value next i → i < width → width ≤ digits32 → value * 16 + 15 < 4294967296
hex_room {text} {at} {width} {value} {next} {i} s h w =
    let few : i ≤ 7 = omega arith in
    omega (arith, s.small, pow_mono_16 i 7 few)

pub hex_small : (width : ℕ) {value : ℕ} → value ≡ 0 → value < 16 ^ width
hex_small width e = omega (arith, pow_pos_16 width, e)

pub hex_kept : {text : List ℕ} {at width value next i v : ℕ} → Hexed text at width value next i → width ≤ i → v ≤ value → v < 16 ^ width
hex_kept {text} {at} {width} {value} {next} {i} {v} s h l =
    let all : i ≡ width = omega (arith, s.within) in
    subst (λ (k : ℕ). v < 16 ^ k) all (omega (arith, s.small))

-- "-", or what is known
module _ {A : Type 0} (stop : ℕ) (unknown : A) (known : List ℕ → Scan A) (text : List ℕ) (at : ℕ) where
  pub unknown_scanned : {f : Bool} {v n : ℕ} → front_is dash (drop at text) ≡ true → Scans (stopped stop 0) text (at + 1) f v n → Scans (unknown_or stop unknown known) text at f unknown n
  unknown_scanned {f} {v} {n} e s =
      let is : then_scan (stopped {A = ℕ} stop 0 (drop (at + 1) text)) (λ x rest. found unknown rest) ≡ unknown_or stop unknown known (drop at text) = stopped_as {A = ℕ} stop 0 unknown (drop (at + 1) text) ∙ ap (unknown_or stop unknown known) (sym (front_cons dash text at e)) in
      let m = mapped (λ (x : ℕ). unknown) s in
      record { so = m.so ∙ is; end = m.end }

  pub known_scanned : {f : Bool} {v : A} {n : ℕ} → front_is dash (drop at text) ≡ false → known [] ≡ missing → Scans known text at f v n → Scans (unknown_or stop unknown known) text at f v n
  unfolding front_is
  known_scanned {f} {v} {n} e none s = as_rule (go (drop at text) e) s
    where
      go : (t : List ℕ) → front_is dash t ≡ false → known t ≡ unknown_or stop unknown known t
      go [] q = none
      go (c ∷ t) q = simp q
