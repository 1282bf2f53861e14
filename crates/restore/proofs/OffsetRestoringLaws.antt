-- Laws of reading a store from an offset in its text on. No function needs them, since the readers take the rest of the text.
use Rattle.std.specs.Prelude.{ℕ, zero, suc, ◌+◌, ◌≤◌, ◌<◌, Bool, true, false, length, get_or, set, replicate, Option}
use Rattle.std.proofs.Math.Path.{◌≡◌, refl, sym, ap, subst}
use Rattle.std.proofs.Common.{◌∙◌, add-one, zero-add, arith, drop_of_length-le, take-suc-set, take-suc, get_or-set_other, eq-eqb, ne_eqb}
use mathlib.Core.List.{List, [], ◌∷◌, ◌++◌}
use Rattle.std.proofs.Math.ListN.{take, drop, length-set}
use Rattle.std.proofs.Math.Seq.{take_all}
use Rattle.report.specs.Refusals as refusals
use Rattle.report.specs.Ports.{device_count}
use Rattle.report.specs.declared.FeatureIndex.{FeatureIndex}
use Rattle.port.specs.declared.Port.{Port}
use Rattle.port.specs.declared.Version.{Version}
use Rattle.port.specs.Records.{max_index, feature_count, fresh_port}
use Rattle.text.specs.Words.{ascii, newline, decimal}
use Rattle.text.specs.Texts.{tab, digits16, digits32}
use Rattle.scan.specs.Scans.{Scan, missing, found, then_scan, pair_scan, word_scan, number_scan, decimal_scan, digits_scan, digit_more, hex_scan, serial_scan, version_scan}
use Rattle.scan.specs.ScanContracts.{capped, capped_scan}
use Rattle.scan.proofs.OffsetScans.{scanned, Scans}
use Rattle.scan.proofs.ScansLaws.{not_missing, same_value, same_rest, capped_is, capped_small}
use Rattle.scan.proofs.OffsetScansLaws.{front, value_found, mapped, pair_scanned}
use Rattle.store.specs.Stores.{edition, pad_port}
use Rattle.restore.specs.Restoring.{stop_after, with_index, indexes_scan, Pad, pad_scan, port_of, device_scan, store_of, with_first, Row, row_by, row_in, devices_in, edition_scan, by_edition, read_store, Restoring, restored, refused, refused_at, restored_by, restore_ports}
use Rattle.restore.proofs.RestoringLaws.{device_word, with_all, one_more, none_before, next_device}

-- the first i indexes have been read
pub record Indexed (text : List ℕ) (at : ℕ) (features : List FeatureIndex) (is_found : Bool) (next i : ℕ) : Type 0 where
  pub all : length features ≡ feature_count
  pub within : i ≤ feature_count
  pub so : Scans (indexes_scan i) text at is_found (take i features) next

module _ (text : List ℕ) (at : ℕ) where
  pub indexes_begun : (features : List FeatureIndex) → length features ≡ feature_count → Indexed text at features true at 0
  unfolding indexes_scan
  indexes_begun features all =
      record { all = all; within = omega arith; so = value_found (indexes_scan 0) text at [] at refl }

  module _ {features : List FeatureIndex} {f : Bool} {next i : ℕ} (s : Indexed text at features f next i) where
    pub index_read : {g : Bool} {v n stop : ℕ} → i < feature_count → stop ≡ stop_after i → Scans (decimal_scan max_index stop) text next g v n → Indexed text at (set features i (record { 0 = v })) g n (i + 1)
    unfolding indexes_scan decimal_scan number_scan
    index_read {g} {v} {n} {stop} h e r =
        let q : Scans (decimal_scan max_index (stop_after i)) text next g v n = subst (λ (k : ℕ). Scans (decimal_scan max_index k) text next g v n) e r in
        let both : Scans (indexes_scan (suc i)) text at g (take i features ++ (record { 0 = v } ∷ [])) n = mapped with_index (pair_scanned refl s.so q) in
        let value : take i features ++ (record { 0 = v } ∷ []) ≡ take (suc i) (set features i (record { 0 = v })) = sym (take-suc-set features i (record { 0 = v }) (omega (arith, s.all))) in
        record {
          all = length-set features i (record { 0 = v }) ∙ s.all;
          within = omega arith;
          so = subst (λ (k : ℕ). Scans (indexes_scan k) text at g (take k (set features i (record { 0 = v }))) n) (sym (add-one i)) (subst (λ (l : List FeatureIndex). Scans (indexes_scan (suc i)) text at g l n) value both);
        }

    pub indexes_done : feature_count ≤ i → Scans (indexes_scan feature_count) text at f features next
    indexes_done h =
        let all : i ≡ feature_count = omega (arith, s.within) in
        let whole : take i features ≡ features = take_all i features (omega (arith, s.all)) in
        subst (λ (k : ℕ). Scans (indexes_scan k) text at f features next) all (subst (λ (l : List FeatureIndex). Scans (indexes_scan i) text at f l next) whole s.so)

-- what follows a device's number and a tab
pub pad_scanned : {text : List ℕ} {at : ℕ} {f₁ f₂ f₃ f₄ f₅ : Bool} {wpid : ℕ} {serial : Option ℕ} {reports : ℕ} {version : Option Version} {features : List FeatureIndex} {n₁ n₂ n₃ n₄ n₅ : ℕ} → Scans (hex_scan digits16 tab) text at f₁ wpid n₁ → Scans (serial_scan tab) text n₁ f₂ serial n₂ → Scans (hex_scan digits32 tab) text n₂ f₃ reports n₃ → Scans (version_scan tab) text n₃ f₄ version n₄ → Scans (indexes_scan feature_count) text n₄ f₅ features n₅ → Scans pad_scan text at f₅ (wpid, (serial, (reports, (version, features)))) n₅
unfolding pad_scan pair_scan serial_scan hex_scan digits_scan digit_more version_scan indexes_scan decimal_scan number_scan
pad_scanned a b c d e = pair_scanned refl a (pair_scanned refl b (pair_scanned refl c (pair_scanned refl d e)))

pub device_scanned : {text : List ℕ} {at number : ℕ} {f g : Bool} {n m : ℕ} {wpid : ℕ} {serial : Option ℕ} {reports : ℕ} {version : Option Version} {features : List FeatureIndex} {port : Port} → number < 10 → Scans (word_scan ((48 + number) ∷ tab ∷ [])) text at f tt n → Scans pad_scan text n g (wpid, (serial, (reports, (version, features)))) m → port ≡ pad_port wpid serial reports version features → Scans (device_scan number) text at g port m
unfolding device_scan pad_scan pair_scan hex_scan digits_scan digit_more
device_scanned {text} {at} {number} {f} {g} {n} {m} {wpid} {serial} {reports} {version} {features} {port} small word pad e =
    let named : Scans (word_scan (decimal number ++ (tab ∷ []))) text at f tt n = subst (λ (w : List ℕ). Scans (word_scan w) text at f tt n) (device_word number small) word in
    subst (λ (p : Port). Scans (device_scan number) text at g p m) (sym e) (mapped (λ (p : Unit {0} × Pad). port_of p.1) (pair_scanned refl named pad))

-- a device in the text from an offset on
pub record Rows (number : ℕ) (text : List ℕ) (at : ℕ) (port : Port) (next lines : ℕ) : Type 0 where
  pub so : ◌≡◌ {A = Row} (record { port = port; rest = drop next text; lines = lines }) (row_in number (drop at text))
  pub one : lines ≤ 1

-- a device in the text, or not
module _ (number : ℕ) (text : List ℕ) (at : ℕ) where
  pub row_found : {f : Bool} {port : Port} {n : ℕ} → Scans (device_scan number) text at f port n → f ≡ true → Rows number text at port n 1
  unfolding row_in
  row_found {f} {port} {n} s e =
      record {
        so = ap (row_by (drop at text)) (ap (λ (b : Bool). scanned b port (drop n text)) (sym e) ∙ s.so);
        one = omega arith;
      }

  pub row_missing : {f : Bool} {port fresh : Port} {n : ℕ} → Scans (device_scan number) text at f port n → f ≡ false → fresh ≡ fresh_port → Rows number text at fresh at 0
  unfolding row_in
  row_missing {f} {port} {fresh} {n} s e is =
      record {
        so = ap (λ (p : Port). row p) is ∙ ap (row_by (drop at text)) (ap (λ (b : Bool). scanned b port (drop n text)) (sym e) ∙ s.so);
        one = omega arith;
      }
    where
      row : Port → Row
      row p = record { port = p; rest = drop at text; lines = 0 }

-- the first i devices have been read, up to a line
pub record Devices (text : List ℕ) (at : ℕ) (read : List Port) (line next i : ℕ) : Type 0 where
  pub all : length read ≡ suc device_count
  pub last : get_or read device_count fresh_port ≡ fresh_port
  pub few : line ≤ 2 + i
  pub left : ℕ
  pub sum : i + left ≡ device_count
  pub so : devices_in device_count 1 2 (drop at text) ≡ with_all (take i read) (devices_in left (suc i) line (drop next text))

module _ (text : List ℕ) (at : ℕ) where
  pub devices_begun : (read : List Port) → read ≡ replicate (suc device_count) fresh_port → Devices text at read 2 at 0
  devices_begun read e =
      record {
        all = ap length e;
        last = ap (λ (l : List Port). get_or l device_count fresh_port) e;
        few = omega arith;
        left = device_count;
        sum = zero-add device_count;
        so = none_before (devices_in device_count 1 2 (drop at text));
      }

  module _ {read : List Port} {line next i : ℕ} (s : Devices text at read line next i) where
    pub device_read : {number : ℕ} {p : Port} {n lines : ℕ} → i < device_count → number ≡ i + 1 → Rows number text next p n lines → Devices text at (set read i p) (line + lines) n (i + 1)
    device_read {number} {p} {n} {lines} h is r = go s.left s.sum s.so
      where
        numbered : number ≡ suc i
        numbered = is ∙ add-one i

        row : ◌≡◌ {A = Row} (record { port = p; rest = drop n text; lines = lines }) (row_in (suc i) (drop next text))
        row = r.so ∙ ap (λ (k : ℕ). row_in k (drop next text)) numbered

        step : (more : ℕ) → devices_in (suc more) (suc i) line (drop next text) ≡ with_first p (devices_in more (suc (suc i)) (line + lines) (drop n text))
        step more = next_device more (suc i) line (drop next text) ∙ ap (λ (x : Row). with_first x.port (devices_in more (suc (suc i)) (line + x.lines) x.rest)) (sym row)

        read_more : take i read ++ (p ∷ []) ≡ take (i + 1) (set read i p)
        read_more =
            sym (ap (λ (k : ℕ). take k (set read i p)) (add-one i) ∙ take-suc-set read i p (omega (arith, s.all)))

        go : (left : ℕ) → i + left ≡ device_count → devices_in device_count 1 2 (drop at text) ≡ with_all (take i read) (devices_in left (suc i) line (drop next text)) → Devices text at (set read i p) (line + lines) n (i + 1)
        go zero sum so = absurd (omega (arith, sum))
        go (suc more) sum so =
            record {
              all = length-set read i p ∙ s.all;
              last = get_or-set_other read i device_count p fresh_port (λ z. omega (arith, z)) ∙ s.last;
              few = omega (arith, s.few, r.one);
              left = more;
              sum = omega (arith, sum);
              so = so ∙ ap (with_all (take i read)) (step more) ∙ one_more (take i read) p (devices_in more (suc (suc i)) (line + lines) (drop n text)) ∙ (λ j. with_all (read_more j) (devices_in more (suc (sym (add-one i) j)) (line + lines) (drop n text)));
            }

    nothing_left : device_count ≤ i → s.left ≡ 0
    nothing_left h = omega (arith, s.sum)

    end : device_count ≤ i → devices_in device_count 1 2 (drop at text) ≡ with_all (take i read) (devices_in 0 (suc i) line (drop next text))
    end h = s.so ∙ ap (λ (k : ℕ). with_all (take i read) (devices_in k (suc i) line (drop next text))) (nothing_left h)

    pub devices_broken : (ports : List Port) → device_count ≤ i → next < length text → ◌≡◌ {A = Restoring} (record { answer = refused_at refusals.broken_line line; ports = ports }) (restored_by ports (devices_in device_count 1 2 (drop at text)))
    unfolding devices_in
    devices_broken ports h l =
        sym (ap (restored_by ports) (end h ∙ ap (λ (t : List ℕ). with_all (take i read) (devices_in 0 (suc i) line t)) (front text next l)))

    pub devices_done : (ports : List Port) → device_count ≤ i → length text ≤ next → ◌≡◌ {A = Restoring} (record { answer = restored; ports = read }) (restored_by ports (devices_in device_count 1 2 (drop at text)))
    unfolding devices_in
    devices_done ports h l =
        let six : i ≡ device_count = omega (arith, s.sum) in
        let whole : take i read ++ (fresh_port ∷ []) ≡ read = ap (λ (k : ℕ). take k read ++ (fresh_port ∷ [])) six ∙ ap (λ (p : Port). take device_count read ++ (p ∷ [])) (sym s.last) ∙ sym (take-suc read device_count fresh_port (omega (arith, s.all))) ∙ take_all (suc device_count) read (omega (arith, s.all)) in
        sym (ap (restored_by ports) (end h ∙ ap (λ (t : List ℕ). with_all (take i read) (devices_in 0 (suc i) line t)) (drop_of_length-le text l) ∙ ap store_of whole))

-- the first line: its word, and its number as the program takes it
abbrev name : List ℕ
name = ascii "pads" ++ (tab ∷ [])

abbrev capped_edition : List ℕ → Scan (Unit {0} × ℕ)
capped_edition text = pair_scan (word_scan name) (capped_scan newline) text

abbrev capping : Scan (Unit {0} × ℕ) → Scan (Unit {0} × ℕ)
capping x = then_scan x λ p rest. found (p.0, capped p.1) rest

capped_edition_law : (text : List ℕ) → capped_edition text ≡ capping (edition_scan text)
unfolding edition_scan pair_scan capped_scan
capped_edition_law text = go (word_scan name text)
  where
    number : (u : Unit {0}) (x : Scan ℕ) → ◌≡◌ {A = Scan (Unit {0} × ℕ)} (then_scan (then_scan x (λ n rest. found (capped n) rest)) (λ n rest. found (u, n) rest)) (capping (then_scan x (λ n rest. found (u, n) rest)))
    number u missing = refl
    number u (found n rest) = refl

    go : (x : Scan (Unit {0})) → ◌≡◌ {A = Scan (Unit {0} × ℕ)} (then_scan x (λ u rest. then_scan (then_scan (number_scan newline rest) (λ n rest. found (capped n) rest)) (λ n rest. found (u, n) rest))) (capping (then_scan x (λ u rest. then_scan (number_scan newline rest) (λ n rest. found (u, n) rest))))
    go missing = refl
    go (found u rest) = number u (number_scan newline rest)

-- the edition that was read: none, another, or this one
module _ (text : List ℕ) {f g : Bool} {m v n : ℕ} (word : Scans (word_scan (ascii "pads\t")) text 0 f tt m) (number : Scans (capped_scan newline) text m g v n) where
  seen : scanned {A = Unit {0} × ℕ} g (tt, v) (drop n text) ≡ capping (edition_scan text)
  unfolding capped_scan number_scan
  seen = (pair_scanned refl word number).so ∙ capped_edition_law text

  pub edition_missing : (ports : List Port) → g ≡ false → ◌≡◌ {A = Restoring} (record { answer = refused_at refusals.broken_line 1; ports = ports }) (restore_ports ports text)
  unfolding restore_ports read_store
  edition_missing ports e = go (edition_scan text) (ap (λ (b : Bool). scanned {A = Unit {0} × ℕ} b (tt, v) (drop n text)) (sym e) ∙ seen)
    where
      go : (x : Scan (Unit {0} × ℕ)) → missing ≡ capping x → ◌≡◌ {A = Restoring} (record { answer = refused_at refusals.broken_line 1; ports = ports }) (restored_by ports (by_edition x))
      go missing z = refl
      go (found p rest) z = absurd (not_missing (sym z))

  pub edition_other : (ports : List Port) → g ≡ true → (v ≡ edition → ⊥) → ◌≡◌ {A = Restoring} (record { answer = refused refusals.other_edition; ports = ports }) (restore_ports ports text)
  unfolding restore_ports read_store
  edition_other ports e differs = go (edition_scan text) (ap (λ (b : Bool). scanned {A = Unit {0} × ℕ} b (tt, v) (drop n text)) (sym e) ∙ seen)
    where
      go : (x : Scan (Unit {0} × ℕ)) → ◌≡◌ {A = Scan (Unit {0} × ℕ)} (found (tt, v) (drop n text)) (capping x) → ◌≡◌ {A = Restoring} (record { answer = refused refusals.other_edition; ports = ports }) (restored_by ports (by_edition x))
      go missing z = absurd (not_missing z)
      go (found p rest) z =
          let is : v ≡ capped p.1 = ap (λ (q : Unit {0} × ℕ). q.1) (same_value z) in
          simp (ne_eqb p.1 edition (λ y. differs (is ∙ ap capped y ∙ capped_small edition (omega arith))))

  pub edition_same : (ports : List Port) {o : Restoring} → g ≡ true → v ≡ edition → o ≡ restored_by ports (devices_in device_count 1 2 (drop n text)) → o ≡ restore_ports ports text
  unfolding restore_ports read_store
  edition_same ports {o} e same read = read ∙ go (edition_scan text) (ap (λ (b : Bool). scanned {A = Unit {0} × ℕ} b (tt, v) (drop n text)) (sym e) ∙ seen)
    where
      go : (x : Scan (Unit {0} × ℕ)) → ◌≡◌ {A = Scan (Unit {0} × ℕ)} (found (tt, v) (drop n text)) (capping x) → restored_by ports (devices_in device_count 1 2 (drop n text)) ≡ restored_by ports (by_edition x)
      go missing z = absurd (not_missing z)
      go (found p rest) z =
          let is : p.1 ≡ v = capped_is p.1 v 1 (sym (ap (λ (q : Unit {0} × ℕ). q.1) (same_value z))) (omega (arith, same)) (omega arith) in
          simp (eq-eqb p.1 edition (is ∙ same)) (ap (λ (t : List ℕ). restored_by ports (devices_in device_count 1 2 t)) (same_rest z))
