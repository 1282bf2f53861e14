-- Laws of the lines of a text: 16 names the first that breaks the rules, and every text is one of three.
use Prim.Native.Nat.{ℕ, zero, suc, ◌+◌, ◌-◌, ◌/◌, ◌%◌, ◌≤◌, ◌<◌}
use Rattle.std.specs.Prelude.{◌≡◌, ◌↔◌, ◌⊎◌, Bool, true, false, cond, ltb, eqb, Option, Some, None}
use Rattle.std.proofs.Math.Path.{refl, ap, subst}
use Rattle.std.proofs.Common.{sym, ◌∙◌, inl, inr, not-suc-le-zero, eqb-true, ne_eqb, ltb-true, ltb-false}
use mathlib.Core.List.{List, [], ◌∷◌, ◌++◌, append_assoc}
use native.Mathlib.Omega.{arith}
use Rattle.std.proofs.lemmas.Bool.{eqb-false}
use Rattle.report.specs.Ports.{device_count}
use Rattle.report.specs.declared.FeatureIndex.{FeatureIndex}
use Rattle.port.specs.declared.Port.{Port}
use Rattle.port.specs.declared.Version.{Version}
use Rattle.port.specs.Records.{fresh_port}
use Rattle.text.specs.Words.{ascii, newline, digit, hex, decimal}
use Rattle.text.proofs.WordsLaws.{decimal_last, decimal_more}
use Rattle.text.specs.Texts.{tab, tabbed, digits16, digits32, version_text, serial_text}
use Rattle.scan.specs.Scans.{Scan, missing, found, pair_scan, word_scan, capital_digit}
use Rattle.scan.proofs.ScansLaws.{not_missing}
use Rattle.scan.specs.Exact.{Reads}
use Rattle.scan.proofs.ExactLaws.{capital_of}
use Rattle.store.specs.Stores.{edition, edition_line, index_fields, pad_line}
use Rattle.restore.specs.Restoring.{device_scan, StoreRead, store_of, of_other, broken_at, with_first, row_in, devices_in, edition_scan, by_edition, read_store}
use Rattle.keeping.proofs.DeviceLaws.{device_read}
use Rattle.keeping.specs.Lines.{first_lines, IsStore, OtherEdition, BrokenAt, OneOf}
use Rattle.keeping.proofs.ReadingLaws.{store_not_other, store_not_broken, other_not_broken, same_store, same_line, is_missing, none_in_nothing, devices_missing, devices_found, edition_read, read_first, reads_exactly, other_exactly}

-- a text without a newline
unfoldable Plain : List ℕ → Type 0
Plain [] = Unit
Plain (c ∷ l) = (¬ (c ≡ newline)) × Plain l

plain_append : (a b : List ℕ) → Plain a → Plain b → Plain (a ++ b)
unfolding Plain
plain_append [] b p q = q
plain_append (c ∷ a) b p q = (p.0, plain_append a b p.1 q)

plain_digit : (d : ℕ) → d < 16 → ¬ (digit d ≡ newline)
unfolding capital_digit
plain_digit d h e =
    let is : d ≡ capital_digit newline = sym (capital_of d h) ∙ ap capital_digit e in
    omega (arith, is, h)

plain_hex : (width n : ℕ) → Plain (hex width n)
unfolding Plain hex
plain_hex zero n = tt
plain_hex (suc width) n = plain_append (hex width (n / 16)) (digit (n % 16) ∷ []) (plain_hex width (n / 16)) (plain_digit (n % 16) (omega arith), tt)

plain_decimal_in : (fuel n : ℕ) → n < fuel → Plain (decimal n)
unfolding Plain
plain_decimal_in zero n h = absurd (not-suc-le-zero h)
plain_decimal_in (suc fuel) n h = go (ltb n 10) refl (plain_decimal_in fuel (n / 10))
  where
    go : (b : Bool) → ltb n 10 ≡ b → (n / 10 < fuel → Plain (decimal (n / 10))) → Plain (decimal n)
    go true e before =
        let small : n < 10 = ltb-true _ _ e in
        subst Plain (sym (decimal_last n small)) (plain_digit n (omega arith), tt)
    go false e before =
        let large : 10 ≤ n = ltb-false _ _ e in
        subst Plain (sym (decimal_more n large)) (plain_append (decimal (n / 10)) (digit (n % 10) ∷ []) (before (omega arith)) (plain_digit (n % 10) (omega arith), tt))

plain_decimal : (n : ℕ) → Plain (decimal n)
plain_decimal n = plain_decimal_in (suc n) n (omega arith)

plain_serial : (x : Option ℕ) → Plain (serial_text x)
unfolding serial_text Plain
plain_serial None = ((λ e. omega (arith, e)), tt)
plain_serial (Some number) = plain_hex digits32 number

plain_version : (x : Option Version) → Plain (version_text x)
unfolding version_text Plain
plain_version None = ((λ e. omega (arith, e)), tt)
plain_version (Some version) =
    plain_append (decimal version.major) (ascii "." ++ decimal version.minor) (plain_decimal version.major) ((λ e. omega (arith, e)), plain_decimal version.minor)

-- a line: its newline is its last byte, and it has no other
record ALine (text : List ℕ) : Type 0 where
  line : List ℕ
  plain : Plain line
  so : text ≡ line ++ (newline ∷ [])

unfoldable AllPlain : List (List ℕ) → Type 0
AllPlain [] = Unit
AllPlain (field ∷ fields) = Plain field × AllPlain fields

a_line : (fields : List (List ℕ)) → AllPlain fields → ALine (tabbed fields)
unfolding Plain AllPlain
a_line [] h = record { line = []; plain = tt; so = refl }
a_line (field ∷ []) h = record { line = field; plain = h.0; so = refl }
a_line (field ∷ next ∷ fields) h = with_field (a_line (next ∷ fields) h.1)
  where
    with_field : ALine (tabbed (next ∷ fields)) → ALine (field ++ (tab ∷ tabbed (next ∷ fields)))
    with_field l =
        record {
          line = field ++ (tab ∷ l.line);
          plain = plain_append field (tab ∷ l.line) h.0 ((λ e. omega (arith, e)), l.plain);
          so = ap (λ (t : List ℕ). field ++ (tab ∷ t)) l.so ∙ sym (append_assoc field (tab ∷ l.line) (newline ∷ []));
        }

plain_indexes : (features : List FeatureIndex) → AllPlain (index_fields features)
unfolding AllPlain
plain_indexes [] = tt
plain_indexes (index ∷ features) = (plain_decimal index.0, plain_indexes features)

pad_is_line : (number : ℕ) (p : Port) → ALine (pad_line number p)
unfolding pad_line AllPlain
pad_is_line number p =
    a_line (decimal number ∷ hex digits16 p.wpid ∷ serial_text p.serial ∷ hex digits32 p.reports ∷ version_text p.version ∷ index_fields p.features)
    (plain_decimal number, (plain_hex digits16 p.wpid, (plain_serial p.serial, (plain_hex digits32 p.reports, (plain_version p.version, plain_indexes p.features)))))

edition_is_line : (n : ℕ) → ALine (edition_line n)
unfolding edition_line Plain AllPlain
edition_is_line n =
    a_line (ascii "pads" ∷ decimal n ∷ []) (((λ e. omega (arith, e)), ((λ e. omega (arith, e)), ((λ e. omega (arith, e)), ((λ e. omega (arith, e)), tt)))), (plain_decimal n, tt))

-- the first lines of a text with a line at its front
past_plain : (n : ℕ) (line rest : List ℕ) → Plain line → first_lines (suc n) (line ++ (newline ∷ rest)) ≡ line ++ (newline ∷ first_lines n rest)
unfolding first_lines Plain
past_plain n [] rest h = refl
past_plain n (c ∷ line) rest h = simp (ne_eqb c newline h.0) (ap (λ (l : List ℕ). c ∷ l) (past_plain n line rest h.1))

past_line : (n : ℕ) {line : List ℕ} → ALine line → (rest : List ℕ) → first_lines (suc n) (line ++ rest) ≡ line ++ first_lines n rest
past_line n {line} l rest =
    ap (λ (t : List ℕ). first_lines (suc n) (t ++ rest)) l.so
    ∙ ap (first_lines (suc n)) (append_assoc l.line (newline ∷ []) rest)
    ∙ past_plain n l.line rest l.plain
    ∙ sym (append_assoc l.line (newline ∷ []) (first_lines n rest))
    ∙ ap (λ (t : List ℕ). t ++ first_lines n rest) (sym l.so)

pub no_lines : (text : List ℕ) → first_lines 0 text ≡ []
unfolding first_lines
no_lines [] = refl
no_lines (c ∷ text) = refl

-- the first lines are at the front of the text
pub at_front : (n : ℕ) (text : List ℕ) → (rest : List ℕ) × (text ≡ first_lines n text ++ rest)
unfolding first_lines
at_front n [] = ([], refl)
at_front zero (c ∷ text) = (c ∷ text, refl)
at_front (suc n) (c ∷ text) =
    let r = at_front (cond (eqb c newline) n (suc n)) text in
    (r.0, ap (λ (l : List ℕ). c ∷ l) r.1)

-- what a text does not have at its front its first lines do not have
pub not_in_lines : {A : Type 0} {Fits : A → Type 0} {text : A → List ℕ} {rule : List ℕ → Scan A} → Reads Fits text rule → (n : ℕ) (s : List ℕ) → rule s ≡ missing → rule (first_lines n s) ≡ missing
not_in_lines {A} {Fits} {text} {rule} r n s e = is_missing (rule (first_lines n s)) none
  where
    none : (a : A) (rest : List ℕ) → rule (first_lines n s) ≡ found a rest → ⊥
    none a rest q =
        let f = at_front n s in
        let x = r.sound (first_lines n s) a rest q in
        let whole : s ≡ text a ++ (rest ++ f.0) = f.1 ∙ ap (λ (l : List ℕ). l ++ f.0) x.1 ∙ append_assoc (text a) rest f.0 in
        not_missing (sym (r.complete a x.0 (rest ++ f.0)) ∙ ap rule (sym whole) ∙ e)

-- the text is read as a store, and no line before a number breaks the rules
abbrev Accepted : StoreRead → Type 0
Accepted r = (ports : List Port) × (r ≡ store_of ports)

unfoldable NotBefore : ℕ → StoreRead → Type 0
NotBefore n (store_of ports) = Unit
NotBefore n of_other = ⊥
NotBefore n (broken_at line) = n ≤ line

first_accepted : (q : Port) (r : StoreRead) → Accepted r → Accepted (with_first q r)
first_accepted q r a = (q ∷ a.0, ap (with_first q) a.1)

accepted_rest : (q : Port) (r : StoreRead) → Accepted (with_first q r) → Accepted r
accepted_rest q (store_of ports) a = (ports, refl)
accepted_rest q of_other a = absurd (store_not_other (sym a.1))
accepted_rest q (broken_at line) a = absurd (store_not_broken (sym a.1))

first_before : (n : ℕ) (q : Port) (r : StoreRead) → NotBefore n r → NotBefore n (with_first q r)
unfolding NotBefore
first_before n q (store_of ports) h = h
first_before n q of_other h = h
first_before n q (broken_at line) h = h

before_rest : (n : ℕ) (q : Port) (r : StoreRead) → NotBefore n (with_first q r) → NotBefore n r
unfolding NotBefore
before_rest n q (store_of ports) h = h
before_rest n q of_other h = h
before_rest n q (broken_at line) h = h

-- with a port more on both sides, the same two hold or not
with_port_law : (n : ℕ) (p q : Port) (r s : StoreRead) → (Accepted r ↔ NotBefore n s) → (Accepted (with_first p r) ↔ NotBefore n (with_first q s))
with_port_law n p q r s h =
    ((λ a. first_before n q s (h.0 (accepted_rest p r a))), (λ b. first_accepted p r (h.1 (before_rest n q s b))))

-- no line is named before the first of the devices
not_before : (more number line : ℕ) (text : List ℕ) → NotBefore line (devices_in more number line text)
unfolding devices_in NotBefore
not_before zero number line [] = tt
not_before zero number line (c ∷ text) = omega arith
not_before (suc more) number line text =
    first_before line (row_in number text).port (devices_in more (suc number) (line + (row_in number text).lines) (row_in number text).rest) (lower (devices_in more (suc number) (line + (row_in number text).lines) (row_in number text).rest) (not_before more (suc number) (line + (row_in number text).lines) (row_in number text).rest))
  where
    lower : (r : StoreRead) → NotBefore (line + (row_in number text).lines) r → NotBefore line r
    lower (store_of ports) h = h
    lower of_other h = h
    lower (broken_at l) h = omega (arith, h)

nothing_accepted : (more number line : ℕ) → Accepted (devices_in more number line [])
unfolding devices_in
nothing_accepted zero number line = (fresh_port ∷ [], refl)
nothing_accepted (suc more) number line =
    let e : devices_in (suc more) number line [] ≡ with_first fresh_port (devices_in more (suc number) line []) = devices_missing more number line [] (none_in_nothing number) in
    subst Accepted (sym e) (first_accepted fresh_port (devices_in more (suc number) line []) (nothing_accepted more (suc number) line))

-- the first lines are read as a store exactly where no line among them is the first that breaks the rules
lines_accepted : (more number line n : ℕ) (text : List ℕ) → Accepted (devices_in more number line (first_lines n text)) ↔ NotBefore (line + n) (devices_in more number line text)
unfolding devices_in first_lines NotBefore
lines_accepted zero number line n [] = ((λ a. tt), (λ b. (fresh_port ∷ [], refl)))
lines_accepted zero number line zero (c ∷ text) = ((λ a. omega arith), (λ b. (fresh_port ∷ [], refl)))
lines_accepted zero number line (suc n) (c ∷ text) = ((λ a. absurd (store_not_broken (sym a.1))), (λ b. absurd (omega (arith, b))))
lines_accepted (suc more) number line n text = go (device_scan number text) refl n (λ line n text. lines_accepted more (suc number) line n text)
  where
    go : (x : Scan Port) → device_scan number text ≡ x → (n : ℕ) → ((line n : ℕ) (text : List ℕ) → Accepted (devices_in more (suc number) line (first_lines n text)) ↔ NotBefore (line + n) (devices_in more (suc number) line text)) → Accepted (devices_in (suc more) number line (first_lines n text)) ↔ NotBefore (line + n) (devices_in (suc more) number line text)
    go missing q n after =
        let whole : devices_in (suc more) number line text ≡ with_first fresh_port (devices_in more (suc number) line text) = devices_missing more number line text q in
        let part : devices_in (suc more) number line (first_lines n text) ≡ with_first fresh_port (devices_in more (suc number) line (first_lines n text)) = devices_missing more number line (first_lines n text) (not_in_lines (device_read number) n text q) in
        let same = with_port_law (line + n) fresh_port fresh_port (devices_in more (suc number) line (first_lines n text)) (devices_in more (suc number) line text) (after line n text) in
        ((λ a. subst (NotBefore (line + n)) (sym whole) (same.0 (subst Accepted part a))), (λ b. subst Accepted (sym part) (same.1 (subst (NotBefore (line + n)) whole b))))
    go (found p rest) q zero after =
        let e : line + 0 ≡ line = omega arith in
        ((λ a. subst (λ (k : ℕ). NotBefore k (devices_in (suc more) number line text)) (sym e) (not_before (suc more) number line text)), (λ b. subst (λ (t : List ℕ). Accepted (devices_in (suc more) number line t)) (sym (no_lines text)) (nothing_accepted (suc more) number line)))
    go (found p rest) q (suc n) after =
        let r = (device_read number).sound text p rest q in
        let lines : first_lines (suc n) text ≡ pad_line number p ++ first_lines n rest = ap (first_lines (suc n)) r.1 ∙ past_line n (pad_is_line number p) rest in
        let whole : devices_in (suc more) number line text ≡ with_first p (devices_in more (suc number) (suc line) rest) = devices_found more number line text p rest q in
        let part : devices_in (suc more) number line (first_lines (suc n) text) ≡ with_first p (devices_in more (suc number) (suc line) (first_lines n rest)) = devices_found more number line (first_lines (suc n) text) p (first_lines n rest) (ap (device_scan number) lines ∙ (device_read number).complete p r.0 (first_lines n rest)) in
        let e : suc line + n ≡ line + suc n = omega arith in
        let same = with_port_law (suc line + n) p p (devices_in more (suc number) (suc line) (first_lines n rest)) (devices_in more (suc number) (suc line) rest) (after (suc line) n rest) in
        ((λ a. subst (λ (k : ℕ). NotBefore k (devices_in (suc more) number line text)) e (subst (NotBefore (suc line + n)) (sym whole) (same.0 (subst Accepted part a)))), (λ b. subst Accepted (sym part) (same.1 (subst (NotBefore (suc line + n)) whole (subst (λ (k : ℕ). NotBefore k (devices_in (suc more) number line text)) (sym e) b)))))

-- a text without a first line of a store has none in its first lines
no_first_line : (n : ℕ) (text : List ℕ) → edition_scan text ≡ missing → read_store (first_lines n text) ≡ broken_at 1
unfolding read_store
no_first_line n text e = ap by_edition (not_in_lines edition_read n text e)

-- a text of edition 1
edition_lines : (n : ℕ) (rest : List ℕ) → read_store (first_lines (suc n) (edition_line edition ++ rest)) ≡ devices_in device_count 1 2 (first_lines n rest)
edition_lines n rest = ap read_store (past_line n (edition_is_line edition) rest) ∙ read_first edition (first_lines n rest)

store_accepted : (text : List ℕ) → IsStore text → Accepted (read_store text)
store_accepted text (ports, s) = (ports, (reads_exactly text ports).1 s)

accepted_store : (text : List ℕ) → Accepted (read_store text) → IsStore text
accepted_store text (ports, e) = (ports, (reads_exactly text ports).0 e)

broken_no_store : (text : List ℕ) (line : ℕ) → read_store text ≡ broken_at line → ¬ IsStore text
broken_no_store text line e s = store_not_broken (sym (store_accepted text s).1 ∙ e)

-- the empty text is no store
empty_broken : read_store [] ≡ broken_at 1
unfolding read_store edition_scan pair_scan word_scan
empty_broken = refl

-- the number of the line is where the lines stop being a store
module _ (text rest : List ℕ) (front : text ≡ edition_line edition ++ rest) where
  whole_read : read_store text ≡ devices_in device_count 1 2 rest
  whole_read = ap read_store front ∙ read_first edition rest

  part_store : (n : ℕ) → IsStore (first_lines (suc n) text) ↔ NotBefore (2 + n) (read_store text)
  part_store n =
      let part : read_store (first_lines (suc n) text) ≡ devices_in device_count 1 2 (first_lines n rest) = ap (λ (t : List ℕ). read_store (first_lines (suc n) t)) front ∙ edition_lines n rest in
      let same = lines_accepted device_count 1 2 n rest in
      ((λ s. subst (NotBefore (2 + n)) (sym whole_read) (same.0 (subst Accepted part (store_accepted (first_lines (suc n) text) s)))), (λ b. accepted_store (first_lines (suc n) text) (subst Accepted (sym part) (same.1 (subst (NotBefore (2 + n)) whole_read b)))))

  from_two : NotBefore 2 (read_store text)
  from_two = subst (NotBefore 2) (sym whole_read) (not_before device_count 1 2 rest)

  broken_first : (n : ℕ) → read_store text ≡ broken_at n → BrokenAt text n
  unfolding NotBefore
  broken_first n e = by n e (subst (NotBefore 2) e from_two)
    where
      by : (n : ℕ) → read_store text ≡ broken_at n → 2 ≤ n → BrokenAt text n
      by zero e h = absurd (omega (arith, h))
      by (suc zero) e h = absurd (omega (arith, h))
      by (suc (suc n)) e h =
          let less : suc (suc n) - 1 ≡ suc n = omega arith in
          let two : 2 + n ≡ suc (suc n) = omega arith in
          let in_time : NotBefore (2 + n) (read_store text) = subst (NotBefore (2 + n)) (sym e) (omega arith) in
          let stops : NotBefore (2 + suc n) (read_store text) → ⊥ = λ b. let l : 2 + suc n ≤ suc (suc n) = subst (NotBefore (2 + suc n)) e b in omega (arith, l) in
          ((λ o. other_not_broken (sym ((other_exactly text).1 o) ∙ e)), (inr (subst (λ (k : ℕ). IsStore (first_lines k text)) (sym less) ((part_store n).1 in_time)), (λ s. stops ((part_store (suc n)).0 s))))

  first_broken : (n : ℕ) → BrokenAt text n → read_store text ≡ broken_at n
  unfolding NotBefore
  first_broken zero (other, (inl e, none)) = absurd (omega (arith, e))
  first_broken zero (other, (inr s, none)) =
      let e : 0 - 1 ≡ 0 = omega arith in
      absurd (broken_no_store [] 1 empty_broken (subst IsStore (ap (λ (k : ℕ). first_lines k text) e ∙ no_lines text) s))
  first_broken (suc zero) (other, (before, none)) =
      absurd (none ((part_store 0).1 from_two))
  first_broken (suc (suc n)) (other, (inl e, none)) = absurd (omega (arith, e))
  first_broken (suc (suc n)) (other, (inr s, none)) =
      let less : suc (suc n) - 1 ≡ suc n = omega arith in
      let before : NotBefore (2 + n) (read_store text) = (part_store n).0 (subst (λ (k : ℕ). IsStore (first_lines k text)) less s) in
      let after : NotBefore (2 + suc n) (read_store text) → ⊥ = λ b. none ((part_store (suc n)).1 b) in
      by (read_store text) refl before after
    where
      by : (r : StoreRead) → read_store text ≡ r → NotBefore (2 + n) r → (NotBefore (2 + suc n) r → ⊥) → read_store text ≡ broken_at (suc (suc n))
      by (store_of ports) e b a = absurd (a tt)
      by of_other e b a = absurd b
      by (broken_at line) e b a =
          let not : 2 + suc n ≤ line → ⊥ = a in
          let low : 2 + n ≤ line = b in
          let is : line ≡ suc (suc n) = omega (arith, low, not) in
          e ∙ ap broken_at is

-- 16 with n exactly where the text is of no other edition, its lines 1 to n − 1 are a store (or n is 1), and its lines 1 to n are not
pub broken_exactly : (text : List ℕ) (n : ℕ) → (read_store text ≡ broken_at n) ↔ BrokenAt text n
unfolding read_store
broken_exactly text n = by (edition_scan text) refl
  where
    by : (x : Scan (Unit {0} × ℕ)) → edition_scan text ≡ x → (read_store text ≡ broken_at n) ↔ BrokenAt text n
    by missing q =
        let broken : read_store text ≡ broken_at 1 = ap by_edition q in
        let never : (k : ℕ) → ¬ IsStore (first_lines k text) = λ k. broken_no_store (first_lines k text) 1 (no_first_line k text q) in
        ((λ e. ((λ o. other_not_broken (sym ((other_exactly text).1 o) ∙ broken)), (inl (same_line (sym e ∙ broken)), never n))), (λ b. is_one broken never b.1.0))
      where
        is_one : read_store text ≡ broken_at 1 → ((k : ℕ) → ¬ IsStore (first_lines k text)) → (n ≡ 1) ⊎ IsStore (first_lines (n - 1) text) → read_store text ≡ broken_at n
        is_one broken never (inl e) = broken ∙ ap broken_at (sym e)
        is_one broken never (inr s) = absurd (never (n - 1) s)
    by (found p rest) q = go (eqb p.1 edition) refl
      where
        front : text ≡ edition_line p.1 ++ rest
        front = (edition_read.sound text p rest q).1

        go : (b : Bool) → eqb p.1 edition ≡ b → (read_store text ≡ broken_at n) ↔ BrokenAt text n
        go true e =
            let is : text ≡ edition_line edition ++ rest = front ∙ ap (λ (k : ℕ). edition_line k ++ rest) (eqb-true p.1 edition e) in
            (broken_first text rest is n, first_broken text rest is n)
        go false e =
            let other : OtherEdition text = (p.1, (rest, (eqb-false p.1 edition e, front))) in
            ((λ z. absurd (other_not_broken (sym ((other_exactly text).1 other) ∙ z))), (λ b. absurd (b.0 other)))

-- the number of a line is 1 to 8
unfoldable NotAfter : ℕ → StoreRead → Type 0
NotAfter n (store_of ports) = Unit
NotAfter n of_other = Unit
NotAfter n (broken_at line) = line ≤ n

not_after : (more number line : ℕ) (text : List ℕ) → NotAfter (line + more) (devices_in more number line text)
unfolding devices_in NotAfter
not_after zero number line [] = tt
not_after zero number line (c ∷ text) = omega arith
not_after (suc more) number line text = go (device_scan number text) refl (λ line text. not_after more (suc number) line text)
  where
    first_after : (n m : ℕ) (q : Port) (r : StoreRead) → n ≤ m → NotAfter n r → NotAfter m (with_first q r)
    first_after n m q (store_of ports) l h = tt
    first_after n m q of_other l h = tt
    first_after n m q (broken_at line) l h = omega (arith, l, h)

    go : (x : Scan Port) → device_scan number text ≡ x → ((line : ℕ) (text : List ℕ) → NotAfter (line + more) (devices_in more (suc number) line text)) → NotAfter (line + suc more) (devices_in (suc more) number line text)
    go missing q after =
        subst (NotAfter (line + suc more)) (sym (devices_missing more number line text q)) (first_after (line + more) (line + suc more) fresh_port (devices_in more (suc number) line text) (omega arith) (after line text))
    go (found p rest) q after =
        subst (NotAfter (line + suc more)) (sym (devices_found more number line text p rest q)) (first_after (suc line + more) (line + suc more) p (devices_in more (suc number) (suc line) rest) (omega arith) (after (suc line) rest))

pub line_bounds : (text : List ℕ) (n : ℕ) → read_store text ≡ broken_at n → (1 ≤ n) × (n ≤ 8)
unfolding read_store NotBefore NotAfter
line_bounds text n z = by (edition_scan text) refl
  where
    by : (x : Scan (Unit {0} × ℕ)) → edition_scan text ≡ x → (1 ≤ n) × (n ≤ 8)
    by missing q =
        let is : 1 ≡ n = same_line (sym (ap by_edition q) ∙ z) in
        (omega (arith, is), omega (arith, is))
    by (found p rest) q = go (eqb p.1 edition) refl
      where
        go : (b : Bool) → eqb p.1 edition ≡ b → (1 ≤ n) × (n ≤ 8)
        go true e =
            let whole : devices_in device_count 1 2 rest ≡ broken_at n = sym (ap by_edition q ∙ ap (λ (t : Bool). cond t (devices_in device_count 1 2 rest) of_other) e) ∙ z in
            let low : 2 ≤ n = subst (NotBefore 2) whole (not_before device_count 1 2 rest) in
            let high : n ≤ 2 + device_count = subst (NotAfter (2 + device_count)) whole (not_after device_count 1 2 rest) in
            (omega (arith, low), omega (arith, high))
        go false e = absurd (other_not_broken (sym (ap by_edition q ∙ ap (λ (t : Bool). cond t (devices_in device_count 1 2 rest) of_other) e) ∙ z))

-- every text is exactly one of the three
pub one_of : (text : List ℕ) → OneOf text
one_of text =
    record {
      some = some (read_store text) refl;
      no_other = λ s o. store_not_other (sym (read s) ∙ (other_exactly text).1 o);
      unbroken = λ s n b. store_not_broken (sym (read s) ∙ (broken_exactly text n).1 b);
      other_unbroken = λ o n b. other_not_broken (sym ((other_exactly text).1 o) ∙ (broken_exactly text n).1 b);
      one_store = λ ports others s t. same_store (sym ((reads_exactly text ports).1 s) ∙ (reads_exactly text others).1 t);
      one_line = λ m n b c. same_line (sym ((broken_exactly text m).1 b) ∙ (broken_exactly text n).1 c);
    }
  where
    read : (s : IsStore text) → read_store text ≡ store_of s.0
    read s = (reads_exactly text s.0).1 s.1

    some : (r : StoreRead) → read_store text ≡ r → IsStore text ⊎ (OtherEdition text ⊎ ((n : ℕ) × BrokenAt text n))
    some (store_of ports) e = inl (ports, (reads_exactly text ports).0 e)
    some of_other e = inr (inl ((other_exactly text).0 e))
    some (broken_at n) e = inr (inr (n, (broken_exactly text n).0 e))
