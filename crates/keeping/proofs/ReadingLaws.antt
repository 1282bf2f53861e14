-- Laws of reading a store: it is accepted exactly where it is one, and refused with 15 exactly where its edition is another.
use Rattle.std.specs.Prelude.{ℕ, zero, suc, ◌+◌, ◌<◌, ◌≡◌, refl, ◌↔◌, Bool, true, false, cond, List, [], ◌∷◌, ◌++◌, eqb, length}
use Rattle.std.proofs.Common.{sym, ◌∙◌, ap, append_assoc, add-one, arith, take_at, eqb-true, ne_eqb}
use Rattle.std.proofs.lemmas.Bool.{false≢true, eqb-false}
use Rattle.report.specs.Ports.{device_count}
use Rattle.port.specs.declared.Port.{Port}
use Rattle.port.specs.Records.{fresh_port}
use Rattle.text.specs.Words.{ascii, newline, decimal}
use Rattle.text.specs.Texts.{each_from, tab, paired_text, paired_lines}
use Rattle.scan.specs.Scans.{Scan, missing, found, number_scan}
use Rattle.scan.proofs.ScansLaws.{not_missing, same_value}
use Rattle.scan.specs.Exact.{Reads}
use Rattle.scan.proofs.ExactLaws.{number_read_law, word_read, pair_read}
use Rattle.store.specs.Stores.{edition, edition_line, pad_line, store_text, stored_of, StoredDevice, AllStored, Store}
use Rattle.restore.specs.Restoring.{device_scan, StoreRead, store_of, of_other, broken_at, with_first, Row, row_by, row_in, devices_in, edition_scan, by_edition, read_store}
use Rattle.keeping.proofs.DeviceLaws.{pad_text, PairedStored, pad_stored, line_text, device_read}
use Rattle.keeping.specs.Lines.{OtherEdition}

-- the three that a text can be are three
sort : StoreRead → ℕ
sort (store_of ports) = 0
sort of_other = 1
sort (broken_at line) = 2

pub store_not_other : {ports : List Port} → store_of ports ≡ of_other → ⊥
unfolding sort
store_not_other e = let z : ◌≡◌ {A = ℕ} 0 1 = ap sort e in omega (arith, z)

pub store_not_broken : {ports : List Port} {line : ℕ} → store_of ports ≡ broken_at line → ⊥
unfolding sort
store_not_broken e = let z : ◌≡◌ {A = ℕ} 0 2 = ap sort e in omega (arith, z)

pub other_not_broken : {line : ℕ} → of_other ≡ broken_at line → ⊥
unfolding sort
other_not_broken e = let z : ◌≡◌ {A = ℕ} 1 2 = ap sort e in omega (arith, z)

pub same_store : {ports others : List Port} → store_of ports ≡ store_of others → ports ≡ others
same_store e = cc e

pub same_line : {m n : ℕ} → broken_at m ≡ broken_at n → m ≡ n
same_line e = cc e

-- what finds nothing is missing
pub is_missing : {A : Type 0} (x : Scan A) → ((a : A) (rest : List ℕ) → x ≡ found a rest → ⊥) → x ≡ missing
is_missing missing none = refl
is_missing (found a rest) none = absurd (none a rest refl)

-- the number at the front of a line
front_number : (number : ℕ) (p : Port) → PairedStored p → (rest : List ℕ) → (t : List ℕ) × (number_scan tab (pad_line number p ++ rest) ≡ found number t)
front_number number p h rest =
    let q = pad_stored p h in
    let line : pad_line number p ≡ (decimal number ++ (tab ∷ [])) ++ pad_text q.0 = sym (line_text number q.0 q.1.0.1.1.1.1.0 ∙ ap (pad_line number) q.1.1) in
    (pad_text q.0 ++ rest, ap (λ (l : List ℕ). number_scan tab (l ++ rest)) line ∙ ap (number_scan tab) (append_assoc (decimal number ++ (tab ∷ [])) (pad_text q.0) rest) ∙ (number_read_law tab refl).complete number tt (pad_text q.0 ++ rest))

-- a device has no line in an empty text
pub none_in_nothing : (number : ℕ) → device_scan number [] ≡ missing
unfolding number_scan
none_in_nothing number = is_missing (device_scan number []) none
  where
    none : (p : Port) (rest : List ℕ) → device_scan number [] ≡ found p rest → ⊥
    none p rest e =
        let r = (device_read number).sound [] p rest e in
        let f = front_number number p r.0 rest in
        not_missing (sym (ap (number_scan tab) r.1 ∙ f.1))

-- nor where the line at the front is of another
other_number : (number other : ℕ) (p : Port) → PairedStored p → (rest : List ℕ) → number < other → device_scan number (pad_line other p ++ rest) ≡ missing
other_number number other p h rest less = is_missing (device_scan number (pad_line other p ++ rest)) none
  where
    none : (q : Port) (t : List ℕ) → device_scan number (pad_line other p ++ rest) ≡ found q t → ⊥
    none q t e =
        let r = (device_read number).sound (pad_line other p ++ rest) q t e in
        let f = front_number number q r.0 t in
        let g = front_number other p h rest in
        let same : number ≡ other = same_value (sym f.1 ∙ ap (number_scan tab) (sym r.1) ∙ g.1) in
        omega (arith, same, less)

-- the lines of the devices from a number on
unfoldable pub lines_from : (number : ℕ) → List Port → List ℕ
lines_from number [] = []
lines_from number (p ∷ devices) = paired_text pad_line number p ++ lines_from (suc number) devices

pub fresh_stored : StoredDevice fresh_port
unfolding fresh_port stored_of
fresh_stored = record { fits = λ e. absurd (false≢true e); rest = refl }

fresh_unpaired : fresh_port.paired ≡ false
unfolding fresh_port
fresh_unpaired = refl

pub unpaired_fresh : (p : Port) → StoredDevice p → p.paired ≡ false → p ≡ fresh_port
unfolding stored_of
unpaired_fresh p h e = let is : stored_of p ≡ fresh_port = simp e in h.rest ∙ is

pub paired_line : (number : ℕ) (p : Port) → p.paired ≡ true → paired_text pad_line number p ≡ pad_line number p
unfolding paired_text
paired_line number p e = simp e

pub no_line : (number : ℕ) (p : Port) → p.paired ≡ false → paired_text pad_line number p ≡ []
unfolding paired_text
no_line number p e = simp e

-- a device before all of them has no line
before_all : (number later : ℕ) (devices : List Port) → AllStored devices → number < later → device_scan number (lines_from later devices) ≡ missing
unfolding lines_from AllStored
before_all number later [] h less = none_in_nothing number
before_all number later (p ∷ devices) h less = go p.paired refl (before_all number (suc later) devices h.1)
  where
    go : (b : Bool) → p.paired ≡ b → (number < suc later → device_scan number (lines_from (suc later) devices) ≡ missing) → device_scan number (paired_text pad_line later p ++ lines_from (suc later) devices) ≡ missing
    go true e after =
        ap (λ (l : List ℕ). device_scan number (l ++ lines_from (suc later) devices)) (paired_line later p e)
        ∙ other_number number later p (e, h.0) (lines_from (suc later) devices) less
    go false e after =
        ap (λ (l : List ℕ). device_scan number (l ++ lines_from (suc later) devices)) (no_line later p e) ∙ after (omega arith)

-- the devices from a number on, as the text has them
pub record Devices (more number : ℕ) (text : List ℕ) (ports : List Port) : Type 0 where
  pub devices : List Port
  pub counted : length devices ≡ more
  pub each : AllStored devices
  pub all : ports ≡ devices ++ (fresh_port ∷ [])
  pub so : text ≡ lines_from number devices

-- reading a device and those after it
pub devices_missing : (more number line : ℕ) (text : List ℕ) → device_scan number text ≡ missing → devices_in (suc more) number line text ≡ with_first fresh_port (devices_in more (suc number) line text)
unfolding devices_in row_in
devices_missing more number line text e =
    let zero : line + 0 ≡ line = omega arith in
    let row : row_in number text ≡ record { port = fresh_port; rest = text; lines = 0 } = ap (row_by text) e in
    ap (λ (r : Row). with_first r.port (devices_in more (suc number) (line + r.lines) r.rest)) row
    ∙ ap (λ (l : ℕ). with_first fresh_port (devices_in more (suc number) l text)) zero

pub devices_found : (more number line : ℕ) (text : List ℕ) (p : Port) (rest : List ℕ) → device_scan number text ≡ found p rest → devices_in (suc more) number line text ≡ with_first p (devices_in more (suc number) (suc line) rest)
unfolding devices_in row_in
devices_found more number line text p rest e =
    let row : row_in number text ≡ record { port = p; rest = rest; lines = 1 } = ap (row_by text) e in
    ap (λ (r : Row). with_first r.port (devices_in more (suc number) (line + r.lines) r.rest)) row
    ∙ ap (λ (l : ℕ). with_first p (devices_in more (suc number) l rest)) (add-one line)

-- the first of the ports, and the others
first_of : (p : Port) (r : StoreRead) (ports : List Port) → with_first p r ≡ store_of ports → (others : List Port) × ((r ≡ store_of others) × (ports ≡ p ∷ others))
first_of p (store_of others) ports e = (others, (refl, sym (same_store e)))
first_of p of_other ports e = absurd (store_not_other (sym e))
first_of p (broken_at line) ports e = absurd (store_not_broken (sym e))

pub devices_sound : (more number line : ℕ) (text : List ℕ) (ports : List Port) → devices_in more number line text ≡ store_of ports → Devices more number text ports
unfolding devices_in lines_from AllStored
devices_sound zero number line [] ports e = record { devices = []; counted = refl; each = tt; all = sym (same_store e); so = refl }
devices_sound zero number line (c ∷ text) ports e = absurd (store_not_broken (sym e))
devices_sound (suc more) number line text ports e =
    go (device_scan number text) refl (λ line text others. devices_sound more (suc number) line text others)
  where
    with_device : (p : Port) → StoredDevice p → (rest : List ℕ) → text ≡ paired_text pad_line number p ++ rest → (line : ℕ) → with_first p (devices_in more (suc number) line rest) ≡ store_of ports → ((others : List Port) → devices_in more (suc number) line rest ≡ store_of others → Devices more (suc number) rest others) → Devices (suc more) number text ports
    with_device p h rest t line z after =
        let f = first_of p (devices_in more (suc number) line rest) ports z in
        let d = after f.0 f.1.0 in
        record {
          devices = p ∷ d.devices;
          counted = ap suc d.counted;
          each = (h, d.each);
          all = f.1.1 ∙ ap (λ (l : List Port). p ∷ l) d.all;
          so = t ∙ ap (λ (l : List ℕ). paired_text pad_line number p ++ l) d.so;
        }

    go : (x : Scan Port) → device_scan number text ≡ x → ((line : ℕ) (text : List ℕ) (others : List Port) → devices_in more (suc number) line text ≡ store_of others → Devices more (suc number) text others) → Devices (suc more) number text ports
    go missing q after =
        with_device fresh_port fresh_stored text (ap (λ (l : List ℕ). l ++ text) (sym (no_line number fresh_port fresh_unpaired))) line (sym (devices_missing more number line text q) ∙ e) (after line text)
    go (found p rest) q after =
        let r = (device_read number).sound text p rest q in
        with_device p r.0.1 rest (r.1 ∙ ap (λ (l : List ℕ). l ++ rest) (sym (paired_line number p r.0.0))) (suc line) (sym (devices_found more number line text p rest q) ∙ e) (after (suc line) rest)

pub devices_complete : (more number line : ℕ) (devices : List Port) → length devices ≡ more → AllStored devices → devices_in more number line (lines_from number devices) ≡ store_of (devices ++ (fresh_port ∷ []))
unfolding devices_in lines_from AllStored
devices_complete zero number line [] e h = refl
devices_complete zero number line (p ∷ devices) e h = absurd (omega (arith, e))
devices_complete (suc more) number line [] e h = absurd (omega (arith, e))
devices_complete (suc more) number line (p ∷ devices) e h =
    go p.paired refl (λ line. devices_complete more (suc number) line devices (omega (arith, e)) h.1)
  where
    rest : List ℕ
    rest = lines_from (suc number) devices

    go : (b : Bool) → p.paired ≡ b → ((line : ℕ) → devices_in more (suc number) line rest ≡ store_of (devices ++ (fresh_port ∷ []))) → devices_in (suc more) number line (paired_text pad_line number p ++ rest) ≡ store_of (p ∷ (devices ++ (fresh_port ∷ [])))
    go true q after =
        ap (λ (l : List ℕ). devices_in (suc more) number line (l ++ rest)) (paired_line number p q)
        ∙ devices_found more number line (pad_line number p ++ rest) p rest ((device_read number).complete p (q, h.0) rest)
        ∙ ap (with_first p) (after (suc line))
    go false q after =
        ap (λ (l : List ℕ). devices_in (suc more) number line (l ++ rest)) (no_line number p q)
        ∙ devices_missing more number line rest (before_all number (suc number) devices h.1 (omega arith))
        ∙ ap (with_first fresh_port) (after line)
        ∙ ap (λ (o : Port). store_of (o ∷ (devices ++ (fresh_port ∷ [])))) (sym (unpaired_fresh p h.0 q))

-- the text of a store is its first line and the lines of its devices
each_lines : (n : ℕ) (devices : List Port) → each_from (λ (position : ℕ) (p : Port). paired_text pad_line (position + 1) p) n devices ≡ lines_from (suc n) devices
unfolding each_from lines_from
each_lines n [] = refl
each_lines n (p ∷ devices) = λ i. paired_text pad_line (add-one n i) p ++ each_lines (suc n) devices i

pub store_lines : (devices : List Port) (receiver : Port) → length devices ≡ device_count → store_text (devices ++ (receiver ∷ [])) ≡ edition_line edition ++ lines_from 1 devices
unfolding store_text paired_lines
store_lines devices receiver six =
    ap (λ (l : List ℕ). edition_line edition ++ l) (ap (each_from (λ (position : ℕ) (p : Port). paired_text pad_line (position + 1) p) 0) (take_at devices (receiver ∷ []) device_count six) ∙ each_lines 0 devices)

-- the first line
pub edition_read : Reads (λ (p : Unit {0} × ℕ). Unit {0} × Unit {0}) (λ (p : Unit {0} × ℕ). edition_line p.1) edition_scan
unfolding edition_scan edition_line
edition_read = pair_read (word_read (ascii "pads" ++ (tab ∷ []))) (number_read_law newline refl)

pub read_first : (n : ℕ) (rest : List ℕ) → read_store (edition_line n ++ rest) ≡ cond (eqb n edition) (devices_in device_count 1 2 rest) of_other
unfolding read_store
read_first n rest = ap by_edition (edition_read.complete (tt, n) (tt, tt) rest)

-- a store is read exactly where the text is one
pub reads_exactly : (text : List ℕ) (ports : List Port) → (read_store text ≡ store_of ports) ↔ Store text ports
unfolding read_store
reads_exactly text ports = (read (edition_scan text) refl, written)
  where
    read : (x : Scan (Unit {0} × ℕ)) → edition_scan text ≡ x → by_edition x ≡ store_of ports → Store text ports
    read missing q e = absurd (store_not_broken (sym e))
    read (found p rest) q e = go (eqb p.1 edition) refl e
      where
        go : (b : Bool) → eqb p.1 edition ≡ b → cond b (devices_in device_count 1 2 rest) of_other ≡ store_of ports → Store text ports
        go false f z = absurd (store_not_other (sym z))
        go true f z =
            let d = devices_sound device_count 1 2 rest ports z in
            let front : text ≡ edition_line p.1 ++ rest = (edition_read.sound text p rest q).1 in
            let is : p.1 ≡ edition = eqb-true p.1 edition f in
            record {
              devices = d.devices;
              six = d.counted;
              each = d.each;
              all = d.all;
              so = front ∙ (λ i. edition_line (is i) ++ d.so i) ∙ sym (ap store_text d.all ∙ store_lines d.devices fresh_port d.counted);
            }

    written : Store text ports → by_edition (edition_scan text) ≡ store_of ports
    written s =
        ap read_store (s.so ∙ ap store_text s.all ∙ store_lines s.devices fresh_port s.six)
        ∙ read_first edition (lines_from 1 s.devices)
        ∙ devices_complete device_count 1 2 s.devices s.six s.each
        ∙ ap store_of (sym s.all)

-- the devices of a text are of no other edition
first_other : (p : Port) (r : StoreRead) → with_first p r ≡ of_other → r ≡ of_other
first_other p (store_of ports) e = absurd (store_not_other e)
first_other p of_other e = e
first_other p (broken_at line) e = absurd (other_not_broken (sym e))

pub devices_never_other : (more number line : ℕ) (text : List ℕ) → devices_in more number line text ≡ of_other → ⊥
unfolding devices_in
devices_never_other zero number line [] e = store_not_other e
devices_never_other zero number line (c ∷ text) e = other_not_broken (sym e)
devices_never_other (suc more) number line text e =
    devices_never_other more (suc number) (line + (row_in number text).lines) (row_in number text).rest (first_other (row_in number text).port (devices_in more (suc number) (line + (row_in number text).lines) (row_in number text).rest) e)

-- 15 exactly where the first line says another edition
pub other_exactly : (text : List ℕ) → (read_store text ≡ of_other) ↔ OtherEdition text
unfolding read_store
other_exactly text = (read (edition_scan text) refl, written)
  where
    read : (x : Scan (Unit {0} × ℕ)) → edition_scan text ≡ x → by_edition x ≡ of_other → OtherEdition text
    read missing q e = absurd (other_not_broken (sym e))
    read (found p rest) q e = go (eqb p.1 edition) refl e
      where
        go : (b : Bool) → eqb p.1 edition ≡ b → cond b (devices_in device_count 1 2 rest) of_other ≡ of_other → OtherEdition text
        go true f z = absurd (devices_never_other device_count 1 2 rest z)
        go false f z = (p.1, (rest, (eqb-false p.1 edition f, (edition_read.sound text p rest q).1)))

    written : OtherEdition text → by_edition (edition_scan text) ≡ of_other
    written (n, (rest, (other, front))) =
        let is : cond (eqb n edition) (devices_in device_count 1 2 rest) of_other ≡ of_other = simp (ne_eqb n edition other) in
        ap read_store front ∙ read_first n rest ∙ is
