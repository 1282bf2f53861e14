-- Laws of what is read and what is written: each rule reads exactly the texts that are written.
use Rattle.std.specs.Prelude.{ℕ, zero, suc, ◌+◌, ◌-◌, ◌*◌, ◌^◌, ◌/◌, ◌%◌, ◌≤◌, ◌<◌, ◌≡◌, refl, Bool, true, false, cond, List, [], ◌∷◌, ◌++◌, ◌⊎◌, leb, ltb, eqb, get_or, Option, Some, None}
use Rattle.std.proofs.Common.{sym, ◌∙◌, ap, subst, append_assoc, inl, inr, not-suc-le-zero, le_of_suc-le-suc, arith, eqb-true, eq-eqb, ne_eqb, lt-ltb, le-leb, leb-true, ltb-true, ltb-false}
use Rattle.std.proofs.lemmas.Bool.{eqb-false, lt-leb}
use Rattle.report.specs.Ports.{in_range}
use Rattle.report.proofs.ChoicesLaws.{in_range_law}
use Rattle.port.specs.declared.Version.{Version}
use Rattle.text.specs.Texts.{digits32, version_text, serial_text}
use Rattle.text.specs.Words.{digit, hex, decimal, is_digit}
use Rattle.text.proofs.WordsLaws.{decimal_last, decimal_more}
use Rattle.scan.specs.Scans.{Scan, missing, found, then_scan, pair_scan, word_scan, stopped, Run, run_after, run_stopped, number_scan, within_most, decimal_scan, capital_digit, digit_more, digits_scan, hex_scan, dash, point, unknown_or, byte_last, known_serial, serial_scan, known_version, version_scan}
use Rattle.scan.proofs.ScansLaws.{not_missing, same_value, same_rest}
use Rattle.scan.specs.Exact.{Reads, SerialFits, VersionFits}

-- numbers that rise by one
up_from : (start count : ℕ) → List ℕ
up_from start zero = []
up_from start (suc count) = start ∷ up_from (suc start) count

up_at : (start count n : ℕ) (more : List ℕ) → n < count → get_or (up_from start count ++ more) n 0 ≡ start + n
unfolding up_from
up_at start zero n more h = absurd (not-suc-le-zero h)
up_at start (suc count) zero more h = omega arith
up_at start (suc count) (suc n) more h = up_at (suc start) count n more (le_of_suc-le-suc h) ∙ omega arith

past_at : (start count n : ℕ) (more : List ℕ) → get_or (up_from start count ++ more) (count + n) 0 ≡ get_or more n 0
unfolding up_from
past_at start zero n more = ap (λ (k : ℕ). get_or more k 0) (omega arith)
past_at start (suc count) n more =
    let e : suc count + n ≡ suc (count + n) = omega arith in
    ap (λ (k : ℕ). get_or (start ∷ (up_from (suc start) count ++ more)) k 0) e ∙ past_at (suc start) count n more

-- the digits '0' to '9', and 'A' to 'F'
pub low_digit : (d : ℕ) → d < 10 → digit d ≡ 48 + d
unfolding digit up_from
low_digit d h = up_at 48 10 d (up_from 65 6 ++ []) h

pub high_digit : (d : ℕ) → d < 6 → digit (10 + d) ≡ 65 + d
unfolding digit up_from
high_digit d h = past_at 48 10 d (up_from 65 6 ++ []) ∙ up_at 65 6 d [] h

pub digit_char : (d : ℕ) → d < 10 → is_digit (48 + d) ≡ true
digit_char d h = simp (le-leb 48 (48 + d) (omega arith), le-leb (48 + d) 57 (omega arith))

pub capital_of : (d : ℕ) → d < 16 → capital_digit (digit d) ≡ d
unfolding capital_digit
capital_of d h = go (ltb d 10) refl
  where
    go : (b : Bool) → ltb d 10 ≡ b → capital_digit (digit d) ≡ d
    go true e =
        let l : d < 10 = ltb-true _ _ e in
        let is : 48 + d - 48 ≡ d = omega arith in
        ap capital_digit (low_digit d l) ∙ simp (digit_char d l) is
    go false e =
        let l : 10 ≤ d = ltb-false _ _ e in
        let f : ℕ = d - 10 in
        let is : d ≡ 10 + f = omega arith in
        let small : f < 6 = omega arith in
        let value : 65 + f - 65 + 10 ≡ d = omega arith in
        ap (λ (k : ℕ). capital_digit (digit k)) is
        ∙ ap capital_digit (high_digit f small)
        ∙ simp (le-leb 48 (65 + f) (omega arith), lt-leb (65 + f) 57 (omega arith), le-leb 65 (65 + f) (omega arith), le-leb (65 + f) 70 (omega arith)) value

pub digit_of : (c : ℕ) → capital_digit c < 16 → digit (capital_digit c) ≡ c
unfolding capital_digit
digit_of c h = go (is_digit c) refl
  where
    other : (b : Bool) → in_range 65 c 70 ≡ b → cond b (c - 65 + 10) 16 < 16 → digit (cond b (c - 65 + 10) 16) ≡ c
    other true e l =
        let r = in_range_law 65 c 70 e in
        let f : ℕ = c - 65 in
        let is : c - 65 + 10 ≡ 10 + f = omega arith in
        let small : f < 6 = omega (arith, r.1) in
        let whole : 65 + f ≡ c = omega (arith, r.0) in
        ap digit is ∙ high_digit f small ∙ whole
    other false e l = absurd (omega (arith, l))

    go : (b : Bool) → is_digit c ≡ b → digit (capital_digit c) ≡ c
    go true e =
        let r = in_range_law 48 c 57 e in
        let small : c - 48 < 10 = omega (arith, r.1) in
        let whole : 48 + (c - 48) ≡ c = omega (arith, r.0) in
        simp e (low_digit (c - 48) small ∙ whole)
    go false e = simp e (other (in_range 65 c 70) refl (simp e at h))

-- hexadecimal, one digit more
digit_read : (width : ℕ) → Reads (λ (n : ℕ). n < 16 ^ width) (hex width) (digits_scan width) → Reads (λ (n : ℕ). n < 16 ^ suc width) (hex (suc width)) (digits_scan (suc width))
unfolding digits_scan digit_more hex
digit_read width before = record { sound = λ s a rest e. sound_by s (digits_scan width s) refl a rest e; complete = complete }
  where
    more : (s : List ℕ) (u : ℕ) (t : List ℕ) → digits_scan width s ≡ found u t → (a : ℕ) (rest : List ℕ) → digit_more u t ≡ found a rest → (a < 16 ^ suc width) × (s ≡ hex (suc width) a ++ rest)
    more s u [] q a rest e = absurd (not_missing (sym e))
    more s u (c ∷ t) q a rest e = go (ltb (capital_digit c) 16) refl e
      where
        go : (b : Bool) → ltb (capital_digit c) 16 ≡ b → cond b (found (u * 16 + capital_digit c) t) missing ≡ found a rest → (a < 16 ^ suc width) × (s ≡ hex (suc width) a ++ rest)
        go false f z = absurd (not_missing (sym z))
        go true f z =
            let small : capital_digit c < 16 = ltb-true _ _ f in
            let value : u * 16 + capital_digit c ≡ a = same_value z in
            let high : a / 16 ≡ u = omega (arith, value) in
            let low : a % 16 ≡ capital_digit c = omega (arith, value) in
            let front = before.sound s u (c ∷ t) q in
            (omega (arith, front.0, value, small), front.1 ∙ sym (append_assoc (hex width u) (c ∷ []) t) ∙ (λ i. (hex width (sym high i) ++ ((sym (digit_of c small) ∙ ap digit (sym low)) i ∷ [])) ++ same_rest z i))

    sound_by : (s : List ℕ) (x : Scan ℕ) → digits_scan width s ≡ x → (a : ℕ) (rest : List ℕ) → then_scan x digit_more ≡ found a rest → (a < 16 ^ suc width) × (s ≡ hex (suc width) a ++ rest)
    sound_by s missing q a rest e = absurd (not_missing (sym e))
    sound_by s (found u t) q a rest e = more s u t q a rest e

    complete : (a : ℕ) → a < 16 ^ suc width → (rest : List ℕ) → then_scan (digits_scan width (hex width (a / 16) ++ (digit (a % 16) ∷ []) ++ rest)) digit_more ≡ found a rest
    complete a h rest =
        let high : a / 16 < 16 ^ width = omega arith in
        let low : a % 16 < 16 = omega arith in
        let whole : a / 16 * 16 + a % 16 ≡ a = omega arith in
        let value : digit_more (a / 16) (digit (a % 16) ∷ rest) ≡ found (a / 16 * 16 + a % 16) rest = simp (capital_of (a % 16) low, lt-ltb (a % 16) 16 low) in
        ap (λ (t : List ℕ). then_scan (digits_scan width t) digit_more) (append_assoc (hex width (a / 16)) (digit (a % 16) ∷ []) rest)
        ∙ ap (λ (x : Scan ℕ). then_scan x digit_more) (before.complete (a / 16) high (digit (a % 16) ∷ rest))
        ∙ value
        ∙ ap (λ (n : ℕ). found n rest) whole

-- at a fixed width
pub digits_read : (width : ℕ) → Reads (λ (n : ℕ). n < 16 ^ width) (hex width) (digits_scan width)
unfolding digits_scan hex
digits_read zero =
    record {
      sound = λ s a rest e. let z : 0 ≡ a = same_value e in (omega (arith, z), same_rest e);
      complete = λ a h rest. let z : 0 ≡ a = omega arith in ap (λ (n : ℕ). found n rest) z;
    }
digits_read (suc width) = digit_read width (digits_read width)

-- the byte after a value
stop_is : {A : Type 0} (stop : ℕ) (value : A) (s : List ℕ) {a : A} {rest : List ℕ} → stopped stop value s ≡ found a rest → (value ≡ a) × (s ≡ stop ∷ rest)
unfolding stopped
stop_is stop value [] e = absurd (not_missing (sym e))
stop_is stop value (c ∷ s) {a} {rest} e = go (eqb c stop) refl e
  where
    go : (b : Bool) → eqb c stop ≡ b → cond b (found value s) missing ≡ found a rest → (value ≡ a) × (c ∷ s ≡ stop ∷ rest)
    go true f z = (same_value z, λ i. eqb-true c stop f i ∷ same_rest z i)
    go false f z = absurd (not_missing (sym z))

stop_here : {A : Type 0} (stop : ℕ) (value : A) (rest : List ℕ) → stopped stop value (stop ∷ rest) ≡ found value rest
unfolding stopped
stop_here stop value rest = simp (eq-eqb stop stop refl)

pub stop_read : {A : Type 0} {Fits : A → Type 0} {text : A → List ℕ} {rule : List ℕ → Scan A} (stop : ℕ) → Reads Fits text rule → Reads Fits (λ (a : A). text a ++ (stop ∷ [])) (λ (s : List ℕ). then_scan (rule s) (stopped stop))
stop_read {A} {Fits} {text} {rule} stop r =
    record {
      sound = λ s a rest e. by s (rule s) refl a rest e;
      complete = λ a h rest. ap (λ (t : List ℕ). then_scan (rule t) (stopped stop)) (append_assoc (text a) (stop ∷ []) rest) ∙ ap (λ (x : Scan A). then_scan x (stopped stop)) (r.complete a h (stop ∷ rest)) ∙ stop_here stop a rest;
    }
  where
    by : (s : List ℕ) (x : Scan A) → rule s ≡ x → (a : A) (rest : List ℕ) → then_scan x (stopped stop) ≡ found a rest → Fits a × (s ≡ (text a ++ (stop ∷ [])) ++ rest)
    by s missing q a rest e = absurd (not_missing (sym e))
    by s (found u t) q a rest e =
        let z = stop_is stop u t e in
        let front = r.sound s a t (q ∙ ap (λ (v : A). found v t) z.0) in
        (front.0, front.1 ∙ ap (λ (l : List ℕ). text a ++ l) z.1 ∙ sym (append_assoc (text a) (stop ∷ []) rest))

pub hex_read : (width stop : ℕ) → Reads (λ (n : ℕ). n < 16 ^ width) (λ (n : ℕ). hex width n ++ (stop ∷ [])) (hex_scan width stop)
unfolding hex_scan
hex_read width stop = stop_read stop (digits_read width)

-- a number that is not 0 begins with a digit that is not '0'
record Led (n : ℕ) : Type 0 where
  d : ℕ
  ds : List ℕ
  some : 1 ≤ d
  small : d < 10
  so : decimal n ≡ (48 + d) ∷ ds
  runs : (t : List ℕ) → run_after d (ds ++ t) ≡ run_after n t

-- a digit more
run_digit : (v d : ℕ) (t : List ℕ) → d < 10 → run_after v ((48 + d) ∷ t) ≡ run_after (v * 10 + d) t
unfolding run_after
run_digit v d t h =
    let is : 48 + d - 48 ≡ d = omega arith in
    simp (digit_char d h) (ap (λ (k : ℕ). run_after (v * 10 + k) t) is)

led : (fuel n : ℕ) → n < fuel → 1 ≤ n → Led n
led zero n h l = absurd (not-suc-le-zero h)
led (suc fuel) n h l = go (ltb n 10) refl (led fuel (n / 10))
  where
    go : (b : Bool) → ltb n 10 ≡ b → (n / 10 < fuel → 1 ≤ n / 10 → Led (n / 10)) → Led n
    go true e before =
        let small : n < 10 = ltb-true _ _ e in
        record { d = n; ds = []; some = l; small = small; so = decimal_last n small ∙ ap (λ (c : ℕ). c ∷ []) (low_digit n small); runs = λ t. refl }
    go false e before =
        let large : 10 ≤ n = ltb-false _ _ e in
        let b : Led (n / 10) = before (omega arith) (omega arith) in
        let low : n % 10 < 10 = omega arith in
        let whole : n / 10 * 10 + n % 10 ≡ n = omega arith in
        record {
          d = b.d;
          ds = b.ds ++ (digit (n % 10) ∷ []);
          some = b.some;
          small = b.small;
          so = decimal_more n large ∙ ap (λ (l : List ℕ). l ++ (digit (n % 10) ∷ [])) b.so;
          runs = λ t.
              ap (run_after b.d) (append_assoc b.ds (digit (n % 10) ∷ []) t)
              ∙ b.runs (digit (n % 10) ∷ t)
              ∙ ap (λ (c : ℕ). run_after (n / 10) (c ∷ t)) (low_digit (n % 10) low)
              ∙ run_digit (n / 10) (n % 10) t low
              ∙ ap (λ (k : ℕ). run_after k t) whole;
        }

-- what digits come to has them as its last
run_text : (v : ℕ) (t : List ℕ) → 1 ≤ v → decimal v ++ t ≡ decimal (run_after v t).value ++ (run_after v t).rest
unfolding run_after
run_text v [] h = refl
run_text v (c ∷ t) h = go (is_digit c) refl (λ n. run_text n t)
  where
    go : (b : Bool) → is_digit c ≡ b → ((n : ℕ) → 1 ≤ n → decimal n ++ t ≡ decimal (run_after n t).value ++ (run_after n t).rest) → decimal v ++ (c ∷ t) ≡ decimal (cond b (run_after (v * 10 + (c - 48)) t) (record { value = v; rest = c ∷ t })).value ++ (cond b (run_after (v * 10 + (c - 48)) t) (record { value = v; rest = c ∷ t })).rest
    go true e after =
        let r = in_range_law 48 c 57 e in
        let d : ℕ = c - 48 in
        let small : d < 10 = omega (arith, r.1) in
        let is : 48 + d ≡ c = omega (arith, r.0) in
        let n : ℕ = v * 10 + d in
        let high : n / 10 ≡ v = omega arith in
        let low : n % 10 ≡ d = omega arith in
        let last : decimal n ≡ decimal v ++ (c ∷ []) = decimal_more n (omega arith) ∙ (λ i. decimal (high i) ++ ((ap digit low ∙ low_digit d small ∙ is) i ∷ [])) in
        sym (append_assoc (decimal v) (c ∷ []) t) ∙ ap (λ (l : List ℕ). l ++ t) (sym last) ∙ after n (omega arith)
    go false e after = refl

-- digits end before a byte that is none
stop_run : {stop : ℕ} (n : ℕ) (t : List ℕ) → is_digit stop ≡ false → run_after n (stop ∷ t) ≡ record { value = n; rest = stop ∷ t }
unfolding run_after
stop_run n t none = simp none

-- a decimal number without a leading zero
pub number_read_law : (stop : ℕ) → is_digit stop ≡ false → Reads (λ (n : ℕ). Unit {0}) (λ (n : ℕ). decimal n ++ (stop ∷ [])) (number_scan stop)
unfolding number_scan
number_read_law stop none = record { sound = sound; complete = complete }
  where
    zero_text : decimal 0 ≡ 48 ∷ []
    zero_text = decimal_last 0 (omega arith) ∙ ap (λ (c : ℕ). c ∷ []) (low_digit 0 (omega arith))

    sound : (s : List ℕ) (n : ℕ) (rest : List ℕ) → number_scan stop s ≡ found n rest → Unit {0} × (s ≡ (decimal n ++ (stop ∷ [])) ++ rest)
    sound [] n rest e = absurd (not_missing (sym e))
    sound (c ∷ s) n rest e = (tt, at (is_digit c) refl e)
      where
        run : Run
        run = run_after (c - 48) s

        first : (b : Bool) → eqb c 48 ≡ b → is_digit c ≡ true → cond b (stopped stop 0 s) (run_stopped stop run) ≡ found n rest → c ∷ s ≡ (decimal n ++ (stop ∷ [])) ++ rest
        first true f d z =
            let x = stop_is stop 0 s z in
            (λ i. eqb-true c 48 f i ∷ x.1 i) ∙ sym (ap (λ (l : List ℕ). (l ++ (stop ∷ [])) ++ rest) (ap decimal (sym x.0) ∙ zero_text))
        first false f d z =
            let x = stop_is stop run.value run.rest z in
            let r = in_range_law 48 c 57 d in
            let other : c ≡ 48 → ⊥ = eqb-false c 48 f in
            let v : ℕ = c - 48 in
            let small : v < 10 = omega (arith, r.1) in
            let is : 48 + v ≡ c = omega (arith, r.0) in
            let some : 1 ≤ v = omega (arith, r.0, other) in
            let front : decimal v ≡ c ∷ [] = decimal_last v small ∙ ap (λ (k : ℕ). k ∷ []) (low_digit v small ∙ is) in
            ap (λ (l : List ℕ). l ++ s) (sym front)
            ∙ run_text v s some
            ∙ (λ i. decimal (x.0 i) ++ x.1 i)
            ∙ sym (append_assoc (decimal n) (stop ∷ []) rest)

        at : (b : Bool) → is_digit c ≡ b → cond b (cond (eqb c 48) (stopped stop 0 s) (run_stopped stop run)) missing ≡ found n rest → c ∷ s ≡ (decimal n ++ (stop ∷ [])) ++ rest
        at true d z = first (eqb c 48) refl d z
        at false d z = absurd (not_missing (sym z))

    complete : (n : ℕ) → Unit {0} → (rest : List ℕ) → number_scan stop ((decimal n ++ (stop ∷ [])) ++ rest) ≡ found n rest
    complete n h rest = go (ltb n 1) refl
      where
        starts : (d : ℕ) (t : List ℕ) → d < 10 → (48 + d ≡ 48 → ⊥) → number_scan stop ((48 + d) ∷ t) ≡ run_stopped stop (run_after (48 + d - 48) t)
        starts d t small other = simp (digit_char d small, ne_eqb (48 + d) 48 other)

        go : (b : Bool) → ltb n 1 ≡ b → number_scan stop ((decimal n ++ (stop ∷ [])) ++ rest) ≡ found n rest
        go true e =
            let l : n < 1 = ltb-true _ _ e in
            let is : n ≡ 0 = omega arith in
            ap (λ (l : List ℕ). number_scan stop ((l ++ (stop ∷ [])) ++ rest)) (ap decimal is ∙ zero_text)
            ∙ stop_here stop 0 rest
            ∙ ap (λ (k : ℕ). found k rest) (sym is)
        go false e =
            let l : 1 ≤ n = ltb-false _ _ e in
            let b = led (suc n) n (omega arith) l in
            let other : 48 + b.d ≡ 48 → ⊥ = λ z. omega (arith, b.some, z) in
            let value : 48 + b.d - 48 ≡ b.d = omega arith in
            let stops : run_after n (stop ∷ rest) ≡ record { value = n; rest = stop ∷ rest } = stop_run n rest none in
            ap (λ (l : List ℕ). number_scan stop ((l ++ (stop ∷ [])) ++ rest)) b.so
            ∙ ap (λ (l : List ℕ). number_scan stop ((48 + b.d) ∷ l)) (append_assoc b.ds (stop ∷ []) rest)
            ∙ starts b.d (b.ds ++ (stop ∷ rest)) b.small other
            ∙ ap (run_stopped stop) (ap (λ (k : ℕ). run_after k (b.ds ++ (stop ∷ rest))) value ∙ b.runs (stop ∷ rest) ∙ stops)
            ∙ stop_here stop n rest

-- one that is at most a bound
pub decimal_read : (most stop : ℕ) → is_digit stop ≡ false → Reads (λ (n : ℕ). n ≤ most) (λ (n : ℕ). decimal n ++ (stop ∷ [])) (decimal_scan most stop)
unfolding decimal_scan
decimal_read most stop none =
    record {
      sound = λ s a rest e. by s (number_scan stop s) refl a rest e;
      complete = λ a h rest. ap (λ (x : Scan ℕ). then_scan x (within_most most)) (any.complete a tt rest) ∙ simp (le-leb a most h);
    }
  where
    any : Reads (λ (n : ℕ). Unit {0}) (λ (n : ℕ). decimal n ++ (stop ∷ [])) (number_scan stop)
    any = number_read_law stop none

    by : (s : List ℕ) (x : Scan ℕ) → number_scan stop s ≡ x → (a : ℕ) (rest : List ℕ) → then_scan x (within_most most) ≡ found a rest → (a ≤ most) × (s ≡ (decimal a ++ (stop ∷ [])) ++ rest)
    by s missing q a rest e = absurd (not_missing (sym e))
    by s (found n t) q a rest e = go (leb n most) refl e
      where
        go : (b : Bool) → leb n most ≡ b → cond b (found n t) missing ≡ found a rest → (a ≤ most) × (s ≡ (decimal a ++ (stop ∷ [])) ++ rest)
        go true f z =
            (subst (λ (k : ℕ). k ≤ most) (same_value z) (leb-true n most f), (any.sound s a rest (q ∙ z)).1)
        go false f z = absurd (not_missing (sym z))

-- one value, and after it another
pub pair_read : {A B : Type 0} {FitsA : A → Type 0} {FitsB : B → Type 0} {text_a : A → List ℕ} {text_b : B → List ℕ} {first : List ℕ → Scan A} {second : List ℕ → Scan B} → Reads FitsA text_a first → Reads FitsB text_b second → Reads (λ (p : A × B). FitsA p.0 × FitsB p.1) (λ (p : A × B). text_a p.0 ++ text_b p.1) (pair_scan first second)
unfolding pair_scan
pair_read {A} {B} {FitsA} {FitsB} {text_a} {text_b} {first} {second} r q =
    record { sound = λ s p rest e. by s (first s) refl p rest e; complete = complete }
  where
    after : (s : List ℕ) (a : A) (t : List ℕ) → first s ≡ found a t → (x : Scan B) → second t ≡ x → (p : A × B) (rest : List ℕ) → ◌≡◌ {A = Scan (A × B)} (then_scan x (λ b rest. found (a, b) rest)) (found p rest) → (FitsA p.0 × FitsB p.1) × (s ≡ (text_a p.0 ++ text_b p.1) ++ rest)
    after s a t f missing g p rest e = absurd (not_missing (sym e))
    after s a t f (found b u) g p rest e =
        let is : ◌≡◌ {A = A × B} (a, b) p = same_value e in
        let x = r.sound s a t f in
        let y = q.sound t b u g in
        let z : s ≡ (text_a a ++ text_b b) ++ rest = x.1 ∙ ap (λ (l : List ℕ). text_a a ++ l) (y.1 ∙ ap (λ (l : List ℕ). text_b b ++ l) (same_rest e)) ∙ sym (append_assoc (text_a a) (text_b b) rest) in
        subst (λ (o : A × B). (FitsA o.0 × FitsB o.1) × (s ≡ (text_a o.0 ++ text_b o.1) ++ rest)) is ((x.0, y.0), z)

    by : (s : List ℕ) (x : Scan A) → first s ≡ x → (p : A × B) (rest : List ℕ) → ◌≡◌ {A = Scan (A × B)} (then_scan x (λ a rest. then_scan (second rest) (λ b rest. found (a, b) rest))) (found p rest) → (FitsA p.0 × FitsB p.1) × (s ≡ (text_a p.0 ++ text_b p.1) ++ rest)
    by s missing f p rest e = absurd (not_missing (sym e))
    by s (found a t) f p rest e = after s a t f (second t) refl p rest e

    complete : (p : A × B) → FitsA p.0 × FitsB p.1 → (rest : List ℕ) → ◌≡◌ {A = Scan (A × B)} (then_scan (first ((text_a p.0 ++ text_b p.1) ++ rest)) (λ a rest. then_scan (second rest) (λ b rest. found (a, b) rest))) (found p rest)
    complete p h rest =
        ap (λ (t : List ℕ). then_scan (first t) (λ a rest. then_scan (second rest) (λ b rest. found (a, b) rest))) (append_assoc (text_a p.0) (text_b p.1) rest)
        ∙ ap (λ (x : Scan A). then_scan x (λ a rest. then_scan (second rest) (λ b rest. found (a, b) rest))) (r.complete p.0 h.0 (text_b p.1 ++ rest))
        ∙ ap (λ (x : Scan B). then_scan x (λ b rest. found (p.0, b) rest)) (q.complete p.1 h.1 rest)

-- a word
pub word_read : (word : List ℕ) → Reads (λ (u : Unit {0}). Unit {0}) (λ (u : Unit {0}). word) (word_scan word)
unfolding word_scan
word_read [] = record { sound = λ s u rest e. (tt, same_rest e); complete = λ u h rest. refl }
word_read (w ∷ word) = longer (word_read word)
  where
    longer : Reads (λ (u : Unit {0}). Unit {0}) (λ (u : Unit {0}). word) (word_scan word) → Reads (λ (u : Unit {0}). Unit {0}) (λ (u : Unit {0}). w ∷ word) (word_scan (w ∷ word))
    longer r = record { sound = sound; complete = λ u h rest. simp (eq-eqb w w refl) (r.complete u h rest) }
      where
        sound : (s : List ℕ) (u : Unit {0}) (rest : List ℕ) → word_scan (w ∷ word) s ≡ found u rest → Unit {0} × (s ≡ (w ∷ word) ++ rest)
        sound [] u rest e = absurd (not_missing (sym e))
        sound (c ∷ s) u rest e = go (eqb c w) refl e
          where
            go : (b : Bool) → eqb c w ≡ b → cond b (word_scan word s) missing ≡ found u rest → Unit {0} × (c ∷ s ≡ (w ∷ word) ++ rest)
            go true f z = (tt, λ i. eqb-true c w f i ∷ (r.sound s u rest z).1 i)
            go false f z = absurd (not_missing (sym z))

-- "-", or what is known
module _ {A : Type 0} {Fits : A → Type 0} {text : A → List ℕ} (stop : ℕ) (unknown : A) (known : List ℕ → Scan A) where
  pub unknown_read : Fits unknown → text unknown ≡ dash ∷ stop ∷ [] → ((s : List ℕ) (a : A) (rest : List ℕ) → known s ≡ found a rest → Fits a × (s ≡ text a ++ rest)) → ((t : List ℕ) → known (dash ∷ t) ≡ missing) → known [] ≡ missing → ((a : A) → Fits a → (rest : List ℕ) → (a ≡ unknown) ⊎ (known (text a ++ rest) ≡ found a rest)) → Reads Fits text (unknown_or stop unknown known)
  unknown_read fits is sound no_dash no_text complete =
      record { sound = λ s a rest e. read s a rest e; complete = λ a h rest. written a rest (complete a h rest) }
    where
      read : (s : List ℕ) (a : A) (rest : List ℕ) → unknown_or stop unknown known s ≡ found a rest → Fits a × (s ≡ text a ++ rest)
      read [] a rest e = absurd (not_missing (sym e))
      read (c ∷ s) a rest e = go (eqb c dash) refl e
        where
          go : (b : Bool) → eqb c dash ≡ b → cond b (stopped stop unknown s) (known (c ∷ s)) ≡ found a rest → Fits a × (c ∷ s ≡ text a ++ rest)
          go true f z =
              let x = stop_is stop unknown s z in
              (subst Fits x.0 fits, (λ i. eqb-true c dash f i ∷ x.1 i) ∙ ap (λ (l : List ℕ). l ++ rest) (sym is ∙ ap text x.0))
          go false f z = sound (c ∷ s) a rest z

      begins : (s : List ℕ) (a : A) (rest : List ℕ) → known s ≡ found a rest → unknown_or stop unknown known s ≡ found a rest
      begins [] a rest e = absurd (not_missing (sym e ∙ no_text))
      begins (c ∷ s) a rest e = go (eqb c dash) refl
        where
          go : (b : Bool) → eqb c dash ≡ b → cond b (stopped stop unknown s) (known (c ∷ s)) ≡ found a rest
          go true f = absurd (not_missing (sym e ∙ ap (λ (k : ℕ). known (k ∷ s)) (eqb-true c dash f) ∙ no_dash s))
          go false f = e

      written : (a : A) (rest : List ℕ) → (a ≡ unknown) ⊎ (known (text a ++ rest) ≡ found a rest) → unknown_or stop unknown known (text a ++ rest) ≡ found a rest
      written a rest (inl e) =
          ap (λ (l : List ℕ). unknown_or stop unknown known (l ++ rest)) (ap text e ∙ is) ∙ stop_here stop unknown rest ∙ ap (λ (x : A). found x rest) (sym e)
      written a rest (inr e) = begins (text a ++ rest) a rest e

-- a value made of the one that is found
mapped_sound : {A B : Type 0} (g : A → B) (rule : List ℕ → Scan A) (s : List ℕ) {b : B} {rest : List ℕ} → then_scan (rule s) (λ a rest. found (g a) rest) ≡ found b rest → (a : A) × ((rule s ≡ found a rest) × (g a ≡ b))
mapped_sound {A} {B} g rule s {b} {rest} e = go (rule s) refl e
  where
    go : (x : Scan A) → rule s ≡ x → then_scan x (λ a rest. found (g a) rest) ≡ found b rest → (a : A) × ((rule s ≡ found a rest) × (g a ≡ b))
    go missing q z = absurd (not_missing (sym z))
    go (found a t) q z = (a, (q ∙ ap (found a) (same_rest z), same_value z))

pub serial_read : (stop : ℕ) → Reads SerialFits (λ (x : Option ℕ). serial_text x ++ (stop ∷ [])) (serial_scan stop)
unfolding serial_scan known_serial serial_text hex_scan digits_scan digit_more capital_digit
serial_read stop = unknown_read stop None (known_serial stop) tt refl sound (λ t. refl) refl complete
  where
    number : Reads (λ (n : ℕ). n < 16 ^ digits32) (λ (n : ℕ). hex digits32 n ++ (stop ∷ [])) (hex_scan digits32 stop)
    number = hex_read digits32 stop

    sound : (s : List ℕ) (x : Option ℕ) (rest : List ℕ) → known_serial stop s ≡ found x rest → SerialFits x × (s ≡ (serial_text x ++ (stop ∷ [])) ++ rest)
    sound s x rest e =
        let m = mapped_sound Some (hex_scan digits32 stop) s e in
        let r = number.sound s m.0 rest m.1.0 in
        subst (λ (y : Option ℕ). SerialFits y × (s ≡ (serial_text y ++ (stop ∷ [])) ++ rest)) m.1.1 (r.0, r.1)

    complete : (x : Option ℕ) → SerialFits x → (rest : List ℕ) → (x ≡ None) ⊎ (known_serial stop ((serial_text x ++ (stop ∷ [])) ++ rest) ≡ found x rest)
    complete None h rest = inl refl
    complete (Some n) h rest =
        inr (ap (λ (y : Scan ℕ). then_scan y λ number rest. found (Some number) rest) (number.complete n h rest))

abbrev version_of : ℕ × ℕ → Option Version
version_of p = Some (record { major = p.0; minor = p.1 })

pub version_read : (stop : ℕ) → is_digit stop ≡ false → Reads VersionFits (λ (x : Option Version). version_text x ++ (stop ∷ [])) (version_scan stop)
unfolding version_scan known_version version_text pair_scan decimal_scan number_scan
version_read stop none = unknown_read stop None (known_version stop) tt refl sound (λ t. refl) refl complete
  where
    parts : Reads (λ (p : ℕ × ℕ). (p.0 ≤ byte_last) × (p.1 ≤ byte_last)) (λ (p : ℕ × ℕ). (decimal p.0 ++ (point ∷ [])) ++ (decimal p.1 ++ (stop ∷ []))) (pair_scan (decimal_scan byte_last point) (decimal_scan byte_last stop))
    parts = pair_read (decimal_read byte_last point refl) (decimal_read byte_last stop none)

    same_text : (a b : ℕ) → (decimal a ++ (point ∷ [])) ++ (decimal b ++ (stop ∷ [])) ≡ (decimal a ++ ((point ∷ []) ++ decimal b)) ++ (stop ∷ [])
    same_text a b =
        append_assoc (decimal a) (point ∷ []) (decimal b ++ (stop ∷ [])) ∙ sym (append_assoc (decimal a) (point ∷ decimal b) (stop ∷ []))

    sound : (s : List ℕ) (x : Option Version) (rest : List ℕ) → known_version stop s ≡ found x rest → VersionFits x × (s ≡ (version_text x ++ (stop ∷ [])) ++ rest)
    sound s x rest e =
        let m = mapped_sound version_of (pair_scan (decimal_scan byte_last point) (decimal_scan byte_last stop)) s e in
        let r = parts.sound s m.0 rest m.1.0 in
        subst (λ (y : Option Version). VersionFits y × (s ≡ (version_text y ++ (stop ∷ [])) ++ rest)) m.1.1 (r.0, r.1 ∙ ap (λ (l : List ℕ). l ++ rest) (same_text m.0.0 m.0.1))

    complete : (x : Option Version) → VersionFits x → (rest : List ℕ) → (x ≡ None) ⊎ (known_version stop ((version_text x ++ (stop ∷ [])) ++ rest) ≡ found x rest)
    complete None h rest = inl refl
    complete (Some v) h rest =
        inr (ap (λ (l : List ℕ). known_version stop (l ++ rest)) (sym (same_text v.major v.minor)) ∙ ap (λ (y : Scan (ℕ × ℕ)). then_scan y λ p rest. found (version_of p) rest) (parts.complete (v.major, v.minor) h rest))
