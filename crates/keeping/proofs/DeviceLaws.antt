-- Laws of a device's line: it is read exactly as it is written.
use Rattle.std.specs.Prelude.{ℕ, zero, suc, ◌+◌, ◌^◌, ◌≤◌, ◌<◌, ◌≡◌, refl, Bool, true, false, cond, List, [], ◌∷◌, ◌++◌, ltb, length}
use Rattle.std.proofs.Common.{sym, ◌∙◌, ap, subst, append_assoc, append-nil, arith}
use Rattle.report.specs.declared.FeatureIndex.{FeatureIndex}
use Rattle.port.specs.declared.Port.{Port}
use Rattle.port.specs.Records.{max_index, feature_count}
use Rattle.text.specs.Words.{newline, hex, decimal, is_digit}
use Rattle.text.specs.Texts.{tab, tabbed, digits16, digits32, version_text, serial_text}
use Rattle.scan.specs.Scans.{Scan, missing, found, then_scan}
use Rattle.scan.proofs.ScansLaws.{not_missing, same_value, same_rest}
use Rattle.scan.specs.Exact.{Reads, SerialFits, VersionFits}
use Rattle.scan.proofs.ExactLaws.{decimal_read, hex_read, serial_read, version_read, pair_read, word_read}
use Rattle.store.specs.Stores.{index_fields, pad_line, pad_port, stored_of, IndexesFit, PadFits, StoredDevice}
use Rattle.restore.specs.Restoring.{stop_after, with_index, indexes_scan, Pad, pad_scan, port_of, device_scan}

-- a value made of the one that is read
pub mapped_read : {A B : Type 0} {FitsA : A → Type 0} {FitsB : B → Type 0} {text_a : A → List ℕ} {text_b : B → List ℕ} {rule : List ℕ → Scan A} (g : A → B) → Reads FitsA text_a rule → ((a : A) → FitsA a → FitsB (g a) × (text_a a ≡ text_b (g a))) → ((b : B) → FitsB b → (a : A) × (FitsA a × (g a ≡ b))) → Reads FitsB text_b (λ (s : List ℕ). then_scan (rule s) (λ a rest. found (g a) rest))
mapped_read {A} {B} {FitsA} {FitsB} {text_a} {text_b} {rule} g r to from =
    record { sound = λ s b rest e. read s (rule s) refl b rest e; complete = λ b h rest. written b h rest (from b h) }
  where
    read : (s : List ℕ) (x : Scan A) → rule s ≡ x → (b : B) (rest : List ℕ) → then_scan x (λ a rest. found (g a) rest) ≡ found b rest → FitsB b × (s ≡ text_b b ++ rest)
    read s missing q b rest e = absurd (not_missing (sym e))
    read s (found a t) q b rest e =
        let front = r.sound s a t q in
        let made = to a front.0 in
        let is : g a ≡ b = same_value e in
        (subst FitsB is made.0, front.1 ∙ (λ i. (made.1 ∙ ap text_b is) i ++ same_rest e i))

    written : (b : B) → FitsB b → (rest : List ℕ) → (a : A) × (FitsA a × (g a ≡ b)) → then_scan (rule (text_b b ++ rest)) (λ a rest. found (g a) rest) ≡ found b rest
    written b h rest (a, (fits, is)) =
        ap (λ (t : List ℕ). then_scan (rule (t ++ rest)) (λ a rest. found (g a) rest)) (sym ((to a fits).1 ∙ ap text_b is))
        ∙ ap (λ (x : Scan A). then_scan x (λ a rest. found (g a) rest)) (r.complete a fits rest)
        ∙ ap (λ (o : B). found o rest) is

-- the indexes from a position on, each with the byte after it
unfoldable pub indexes_text : (position : ℕ) → List FeatureIndex → List ℕ
indexes_text position [] = []
indexes_text position (index ∷ features) = (decimal index.0 ++ (stop_after position ∷ [])) ++ indexes_text (suc position) features

abbrev pub SomeIndexes : ℕ → List FeatureIndex → Type 0
SomeIndexes count features = (length features ≡ count) × IndexesFit features

-- one index more
more_text : (position : ℕ) (features : List FeatureIndex) (n : ℕ) → indexes_text position features ++ (decimal n ++ (stop_after (position + length features) ∷ [])) ≡ indexes_text position (features ++ (record { 0 = n } ∷ []))
unfolding indexes_text
more_text position [] n =
    let e : position + 0 ≡ position = omega arith in
    ap (λ (k : ℕ). decimal n ++ (stop_after k ∷ [])) e ∙ sym (append-nil (decimal n ++ (stop_after position ∷ [])))
more_text position (index ∷ features) n =
    let e : position + suc (length features) ≡ suc position + length features = omega arith in
    append_assoc (decimal index.0 ++ (stop_after position ∷ [])) (indexes_text (suc position) features) (decimal n ++ (stop_after (position + suc (length features)) ∷ []))
    ∙ ap (λ (k : ℕ). (decimal index.0 ++ (stop_after position ∷ [])) ++ (indexes_text (suc position) features ++ (decimal n ++ (stop_after k ∷ [])))) e
    ∙ ap (λ (l : List ℕ). (decimal index.0 ++ (stop_after position ∷ [])) ++ l) (more_text (suc position) features n)

more_fits : (count n : ℕ) (features : List FeatureIndex) → SomeIndexes count features → n ≤ max_index → SomeIndexes (suc count) (features ++ (record { 0 = n } ∷ []))
unfolding IndexesFit
more_fits zero n [] h small = (refl, (small, tt))
more_fits (suc count) n [] h small = absurd (omega (arith, h.0))
more_fits zero n (index ∷ features) h small = absurd (omega (arith, h.0))
more_fits (suc count) n (index ∷ features) h small =
    let next = more_fits count n features (omega (arith, h.0), h.1.1) small in
    (ap suc next.0, (h.1.0, next.1))

-- all but the last index, and the last
record Last (count : ℕ) (features : List FeatureIndex) : Type 0 where
  first : List FeatureIndex
  last : ℕ
  fits : SomeIndexes count first
  small : last ≤ max_index
  so : first ++ (record { 0 = last } ∷ []) ≡ features

last_of : (count : ℕ) (features : List FeatureIndex) → SomeIndexes (suc count) features → Last count features
unfolding IndexesFit
last_of count [] h = absurd (omega (arith, h.0))
last_of zero (index ∷ []) h = record { first = []; last = index.0; fits = (refl, tt); small = h.1.0; so = refl }
last_of zero (index ∷ next ∷ features) h = absurd (omega (arith, h.0))
last_of (suc count) (index ∷ features) h = with_first_law (last_of count features (omega (arith, h.0), h.1.1))
  where
    with_first_law : Last count features → Last (suc count) (index ∷ features)
    with_first_law l =
        record {
          first = index ∷ l.first;
          last = l.last;
          fits = (ap suc l.fits.0, (h.1.0, l.fits.1));
          small = l.small;
          so = ap (λ (r : List FeatureIndex). index ∷ r) l.so;
        }

no_digit : (position : ℕ) → is_digit (stop_after position) ≡ false
no_digit position = go (ltb (suc position) feature_count)
  where
    go : (b : Bool) → is_digit (cond b tab newline) ≡ false
    go true = refl
    go false = refl

none_there : (count : ℕ) (features : List FeatureIndex) → length features ≡ 0 → [] ≡ features
none_there count [] e = refl
none_there count (index ∷ features) e = absurd (omega (arith, e))

-- the first indexes of a line
pub indexes_read : (count : ℕ) → Reads (SomeIndexes count) (indexes_text 0) (indexes_scan count)
unfolding indexes_scan indexes_text IndexesFit
indexes_read zero =
    record {
      sound = λ s a rest e. let is : [] ≡ a = same_value e in (subst (SomeIndexes 0) is (refl, tt), same_rest e ∙ ap (λ (l : List FeatureIndex). indexes_text 0 l ++ rest) is);
      complete = λ a h rest. let is : [] ≡ a = none_there 0 a h.0 in subst (λ (l : List FeatureIndex). found [] (indexes_text 0 l ++ rest) ≡ found l rest) is refl;
    }
indexes_read (suc count) =
    mapped_read with_index (pair_read (indexes_read count) (decimal_read max_index (stop_after count) (no_digit count)))
    (λ p h. (more_fits count p.1 p.0 h.0 h.1, same p h.0.0))
    (λ features h. let l = last_of count features h in ((l.first, l.last), ((l.fits, l.small), l.so)))
  where
    same : (p : List FeatureIndex × ℕ) → length p.0 ≡ count → indexes_text 0 p.0 ++ (decimal p.1 ++ (stop_after count ∷ [])) ≡ indexes_text 0 (with_index p)
    same p e =
        let is : count ≡ 0 + length p.0 = omega (arith, e) in
        ap (λ (k : ℕ). indexes_text 0 p.0 ++ (decimal p.1 ++ (stop_after k ∷ []))) is ∙ more_text 0 p.0 p.1

-- what follows the port in a line, each field with the byte after it
abbrev pub PadTold : Pad → Type 0
PadTold p =
    (p.0 < 16 ^ digits16) × (SerialFits p.1.0 × ((p.1.1.0 < 16 ^ digits32) × (VersionFits p.1.1.1.0 × SomeIndexes feature_count p.1.1.1.1)))

abbrev pub pad_text : Pad → List ℕ
pad_text p =
    (hex digits16 p.0 ++ (tab ∷ [])) ++ ((serial_text p.1.0 ++ (tab ∷ [])) ++ ((hex digits32 p.1.1.0 ++ (tab ∷ [])) ++ ((version_text p.1.1.1.0 ++ (tab ∷ [])) ++ indexes_text 0 p.1.1.1.1)))

pub pad_read : Reads PadTold pad_text pad_scan
unfolding pad_scan
pad_read =
    pair_read (hex_read digits16 tab) (pair_read (serial_read tab) (pair_read (hex_read digits32 tab) (pair_read (version_read tab refl) (indexes_read feature_count))))

-- a field with the byte after it, and more
pub field_then : (field : List ℕ) (stop : ℕ) {l m : List ℕ} → l ≡ m → (field ++ (stop ∷ [])) ++ l ≡ field ++ (stop ∷ m)
field_then field stop {l} {m} e = append_assoc field (stop ∷ []) l ∙ ap (λ (k : List ℕ). field ++ (stop ∷ k)) e

-- five indexes, each with the byte after it, are the fields of a line
five_indexes : (features : List FeatureIndex) → length features ≡ feature_count → (field : List ℕ) → (field ++ (tab ∷ [])) ++ indexes_text 0 features ≡ tabbed (field ∷ index_fields features)
unfolding indexes_text
five_indexes (a ∷ b ∷ c ∷ d ∷ e ∷ []) h field =
    field_then field tab (field_then (decimal a.0) tab (field_then (decimal b.0) tab (field_then (decimal c.0) tab (field_then (decimal d.0) tab (append-nil (decimal e.0 ++ (newline ∷ [])))))))
five_indexes [] h field = absurd (omega (arith, h))
five_indexes (a ∷ []) h field = absurd (omega (arith, h))
five_indexes (a ∷ b ∷ []) h field = absurd (omega (arith, h))
five_indexes (a ∷ b ∷ c ∷ []) h field = absurd (omega (arith, h))
five_indexes (a ∷ b ∷ c ∷ d ∷ []) h field = absurd (omega (arith, h))
five_indexes (a ∷ b ∷ c ∷ d ∷ e ∷ f ∷ features) h field = absurd (omega (arith, h))

-- the whole line is the number, a tab, and what follows
pub line_text : (number : ℕ) (p : Pad) → length p.1.1.1.1 ≡ feature_count → (decimal number ++ (tab ∷ [])) ++ pad_text p ≡ pad_line number (port_of p)
unfolding pad_line pad_port
line_text number p h =
    field_then (decimal number) tab (field_then (hex digits16 p.0) tab (field_then (serial_text p.1.0) tab (field_then (hex digits32 p.1.1.0) tab (five_indexes p.1.1.1.1 h (version_text p.1.1.1.0)))))

-- a paired device as a store has it
abbrev pub PairedStored : Port → Type 0
PairedStored p = (p.paired ≡ true) × StoredDevice p

pub stored_pad : (p : Pad) → PadTold p → PairedStored (port_of p)
unfolding pad_port stored_of
stored_pad p h =
    (refl, record { fits = λ e. record { model = h.0; told = h.1.0; types = h.1.1.0; spoken = h.1.1.1.0; all = h.1.1.1.1.0; indexes = h.1.1.1.1.1 }; rest = refl })

pub pad_stored : (p : Port) → PairedStored p → (q : Pad) × (PadTold q × (port_of q ≡ p))
unfolding stored_of
pad_stored p h =
    let f : PadFits p = h.1.fits h.0 in
    let is : stored_of p ≡ pad_port p.wpid p.serial p.reports p.version p.features = simp h.0 in
    ((p.wpid, (p.serial, (p.reports, (p.version, p.features)))), ((f.model, (f.told, (f.types, (f.spoken, (f.all, f.indexes))))), sym (h.1.rest ∙ is)))

-- the line of the device of a number
pub device_read : (number : ℕ) → Reads PairedStored (pad_line number) (device_scan number)
unfolding device_scan
device_read number =
    mapped_read (λ (p : Unit {0} × Pad). port_of p.1) (pair_read (word_read (decimal number ++ (tab ∷ []))) pad_read)
    (λ p h. (stored_pad p.1 h.1, line_text number p.1 h.1.1.1.1.1.0))
    (λ port h. let q = pad_stored port h in ((tt, q.0), ((tt, q.1.0), q.1.1)))
