-- Laws of reading a store: what the program reads is what the rules read.
use Rattle.std.specs.Prelude.{ℕ, zero, suc, ◌+◌, ◌-◌, ◌≤◌, ◌<◌, length, get_or, set, replicate}
use Rattle.std.proofs.Math.Path.{◌≡◌, refl, sym, ap, subst}
use Rattle.std.proofs.Common.{◌∙◌, add-one, add-zero, zero-add, suc-add, arith, take-suc-set, take-suc, get_or-set_other, eq-eqb, ne_eqb}
use mathlib.Core.List.{List, [], ◌∷◌, ◌++◌, append_assoc}
use Rattle.std.proofs.Math.ListN.{take, length-set}
use Rattle.std.proofs.Math.Seq.{take_all}
use Rattle.report.specs.Refusals as refusals
use Rattle.report.specs.Ports.{device_count}
use Rattle.report.specs.declared.FeatureIndex.{FeatureIndex}
use Rattle.port.specs.declared.Port.{Port}
use Rattle.port.specs.Records.{max_index, feature_count, fresh_port}
use Rattle.text.specs.Words.{decimal}
use Rattle.text.proofs.WordsLaws.{decimal_last}
use Rattle.text.specs.Texts.{tab}
use Rattle.scan.specs.Scans.{Scan, missing, found, then_scan, pair_scan, decimal_scan}
use Rattle.std.proofs.lemmas.List.{nil_from_length}
use Rattle.scan.specs.ScanContracts.{capped}
use Rattle.scan.proofs.ScansLaws.{not_missing, same_value, same_rest, capped_is, capped_small}
use Rattle.scan.proofs.ExactLaws.{low_digit}
use Rattle.store.specs.Stores.{edition}
use Rattle.restore.specs.Restoring.{stop_after, with_index, indexes_scan, device_scan, StoreRead, store_of, of_other, broken_at, with_first, Row, row_by, row_in, devices_in, by_edition, Restoring, restored, refused_at, restored_by}

-- a device's number, and a tab
pub device_word : (number : ℕ) → number < 10 → (48 + number) ∷ tab ∷ [] ≡ decimal number ++ (tab ∷ [])
device_word number h =
    sym (ap (λ (l : List ℕ). l ++ (tab ∷ [])) (decimal_last number h ∙ ap (λ (c : ℕ). c ∷ []) (low_digit number h)))

-- what is missing stays missing
gone : (text : List ℕ) (i more : ℕ) → indexes_scan i text ≡ missing → indexes_scan (more + i) text ≡ missing
unfolding indexes_scan pair_scan
gone text i zero e = ap (λ (k : ℕ). indexes_scan k text) (zero-add i) ∙ e
gone text i (suc more) e =
    ap (λ (k : ℕ). indexes_scan k text) (suc-add more i) ∙ ap (λ (x : Scan (List FeatureIndex)). then_scan (then_scan x λ a rest. then_scan (decimal_scan max_index (stop_after (more + i)) rest) λ b rest. found (a, b) rest) λ p rest. found (with_index p) rest) (gone text i more e)

-- an index more, after the first i
module _ (text : List ℕ) (i : ℕ) (features : List FeatureIndex) {rest : List ℕ} (so : found (take i features) rest ≡ indexes_scan i text) {stop : ℕ} (is : stop ≡ stop_after i) where
  next_index : (x : Scan ℕ) → x ≡ decimal_scan max_index stop rest → indexes_scan (i + 1) text ≡ then_scan x (λ v rest. found (take i features ++ (record { 0 = v } ∷ [])) rest)
  unfolding indexes_scan pair_scan
  next_index x e =
      ap (λ (k : ℕ). indexes_scan k text) (add-one i)
      ∙ ap (λ (y : Scan (List FeatureIndex)). then_scan (then_scan y λ a rest. then_scan (decimal_scan max_index (stop_after i) rest) λ b rest. found (a, b) rest) λ p rest. found (with_index p) rest) (sym so)
      ∙ ap (λ (y : Scan ℕ). then_scan (then_scan y λ b rest. found (take i features, b) rest) λ p rest. found (with_index p) rest) (ap (λ (k : ℕ). decimal_scan max_index k rest) (sym is) ∙ sym e)
      ∙ go x
    where
      go : (x : Scan ℕ) → then_scan (then_scan x (λ b rest. found (take i features, b) rest)) (λ p rest. found (with_index p) rest) ≡ then_scan x (λ v rest. found (take i features ++ (record { 0 = v } ∷ [])) rest)
      go missing = refl
      go (found v rest) = refl

  pub index_read : {v : ℕ} {after : List ℕ} → i < length features → found v after ≡ decimal_scan max_index stop rest → found (take (i + 1) (set features i (record { 0 = v }))) after ≡ indexes_scan (i + 1) text
  index_read {v} {after} h e =
      ap (λ (l : List FeatureIndex). found l after) (ap (λ (k : ℕ). take k (set features i (record { 0 = v }))) (add-one i) ∙ take-suc-set features i (record { 0 = v }) h) ∙ sym (next_index (found v after) e)

  pub index_missing : i < feature_count → missing ≡ decimal_scan max_index stop rest → missing ≡ indexes_scan feature_count text
  index_missing h e =
      let all : feature_count ≡ (feature_count - (i + 1)) + (i + 1) = omega arith in
      sym (ap (λ (k : ℕ). indexes_scan k text) all ∙ gone text (i + 1) (feature_count - (i + 1)) (next_index missing e))

pub indexes_begun : (text : List ℕ) → found [] text ≡ indexes_scan 0 text
unfolding indexes_scan
indexes_begun text = refl

pub indexes_done : (text : List ℕ) (i : ℕ) (features : List FeatureIndex) {rest : List ℕ} → found (take i features) rest ≡ indexes_scan i text → length features ≡ feature_count → feature_count ≤ i → i ≤ feature_count → found features rest ≡ indexes_scan feature_count text
indexes_done text i features {rest} so all h l =
    let is : i ≡ feature_count = omega arith in
    ap (λ (l : List FeatureIndex). found l rest) (sym (take_all i features (omega arith))) ∙ so ∙ ap (λ (k : ℕ). indexes_scan k text) is

-- ports before those that are read
abbrev pub with_all : List Port → StoreRead → StoreRead
with_all ports (store_of next) = store_of (ports ++ next)
with_all ports of_other = of_other
with_all ports (broken_at line) = broken_at line

pub one_more : (ports : List Port) (p : Port) (r : StoreRead) → with_all ports (with_first p r) ≡ with_all (ports ++ (p ∷ [])) r
one_more ports p (store_of next) = ap store_of (sym (append_assoc ports (p ∷ []) next))
one_more ports p of_other = refl
one_more ports p (broken_at line) = refl

pub none_before : (r : StoreRead) → r ≡ with_all [] r
none_before (store_of next) = refl
none_before of_other = refl
none_before (broken_at line) = refl

-- one device, and then the others
pub next_device : (more number line : ℕ) (text : List ℕ) → devices_in (suc more) number line text ≡ with_first (row_in number text).port (devices_in more (suc number) (line + (row_in number text).lines) (row_in number text).rest)
unfolding devices_in
next_device more number line text = refl

-- the first i devices have been read, up to a line; the ports after them are fresh
pub record Devices (text : List ℕ) (ports : List Port) (line : ℕ) (rest : List ℕ) (i : ℕ) : Type 0 where
  pub all : length ports ≡ suc device_count
  pub fresh : (k : ℕ) → i ≤ k → get_or ports k fresh_port ≡ fresh_port
  pub few : line ≤ 2 + i
  pub so : devices_in device_count 1 2 text ≡ with_all (take i ports) (devices_in (device_count - i) (suc i) line rest)

all_fresh : (n k : ℕ) → get_or (replicate n fresh_port) k fresh_port ≡ fresh_port
all_fresh zero k = refl
all_fresh (suc n) zero = refl
all_fresh (suc n) (suc k) = all_fresh n k

pub devices_begun : (text : List ℕ) (ports : List Port) → ports ≡ replicate (suc device_count) fresh_port → Devices text ports 2 text 0
devices_begun text ports e =
    record {
      all = ap length e;
      fresh = λ k h. ap (λ (l : List Port). get_or l k fresh_port) e ∙ all_fresh (suc device_count) k;
      few = omega arith;
      so = none_before (devices_in device_count 1 2 text);
    }

module _ {text : List ℕ} {ports : List Port} {line : ℕ} {rest : List ℕ} {i : ℕ} (s : Devices text ports line rest i) where
  module _ (h : i < device_count) where
    next : (row : Row) → row ≡ row_in (i + 1) rest → row.lines ≤ 1 → (new : List Port) → length new ≡ suc device_count → ((k : ℕ) → i + 1 ≤ k → get_or new k fresh_port ≡ fresh_port) → take i ports ++ (row.port ∷ []) ≡ take (suc i) new → Devices text new (line + row.lines) row.rest (i + 1)
    next row is one new all fresh e =
        let numbered : row ≡ row_in (suc i) rest = is ∙ ap (λ (k : ℕ). row_in k rest) (add-one i) in
        let left : device_count - i ≡ suc (device_count - suc i) = omega arith in
        let so : devices_in device_count 1 2 text ≡ with_all (take (suc i) new) (devices_in (device_count - suc i) (suc (suc i)) (line + row.lines) row.rest) = s.so ∙ ap (λ (k : ℕ). with_all (take i ports) (devices_in k (suc i) line rest)) left ∙ ap (with_all (take i ports)) (next_device (device_count - suc i) (suc i) line rest) ∙ ap (λ (r : Row). with_all (take i ports) (with_first r.port (devices_in (device_count - suc i) (suc (suc i)) (line + r.lines) r.rest))) (sym numbered) ∙ one_more (take i ports) row.port (devices_in (device_count - suc i) (suc (suc i)) (line + row.lines) row.rest) ∙ ap (λ (l : List Port). with_all l (devices_in (device_count - suc i) (suc (suc i)) (line + row.lines) row.rest)) e in
        record {
          all = all;
          fresh = fresh;
          few = omega (arith, s.few, one);
          so = subst (λ (k : ℕ). devices_in device_count 1 2 text ≡ with_all (take k new) (devices_in (device_count - k) (suc k) (line + row.lines) row.rest)) (sym (add-one i)) so;
        }

    pub device_read : {p : Port} {after : List ℕ} → found p after ≡ device_scan (i + 1) rest → Devices text (set ports i p) (line + 1) after (i + 1)
    unfolding row_in
    device_read {p} {after} e =
        next (record { port = p; rest = after; lines = 1 }) (ap (row_by rest) e) (omega arith) (set ports i p) (length-set ports i p ∙ s.all) (λ k l. get_or-set_other ports i k p fresh_port (λ z. omega (arith, z, l)) ∙ s.fresh k (omega arith)) (sym (take-suc-set ports i p (omega (arith, s.all))))

    pub device_absent : missing ≡ device_scan (i + 1) rest → Devices text ports line rest (i + 1)
    unfolding row_in
    device_absent e =
        let kept : take i ports ++ (fresh_port ∷ []) ≡ take (suc i) ports = ap (λ (p : Port). take i ports ++ (p ∷ [])) (sym (s.fresh i (omega arith))) ∙ sym (take-suc ports i fresh_port (omega (arith, s.all))) in
        subst (λ (k : ℕ). Devices text ports k rest (i + 1)) (add-zero line) (next (record { port = fresh_port; rest = rest; lines = 0 }) (ap (row_by rest) e) (omega arith) ports s.all (λ k l. s.fresh k (omega arith)) kept)

  module _ (h : device_count ≤ i) (l : i ≤ device_count) (others : List Port) where
    end : devices_in device_count 1 2 text ≡ with_all (take device_count ports) (devices_in 0 (suc device_count) line rest)
    end =
        let all : i ≡ device_count = omega arith in
        s.so ∙ ap (λ (k : ℕ). with_all (take k ports) (devices_in (device_count - k) (suc k) line rest)) all

    pub devices_broken : 1 ≤ length rest → ◌≡◌ {A = Restoring} (record { answer = refused_at refusals.broken_line line; ports = others }) (restored_by others (devices_in device_count 1 2 text))
    unfolding devices_in
    devices_broken more = go rest end more
      where
        go : (t : List ℕ) → devices_in device_count 1 2 text ≡ with_all (take device_count ports) (devices_in 0 (suc device_count) line t) → 1 ≤ length t → ◌≡◌ {A = Restoring} (record { answer = refused_at refusals.broken_line line; ports = others }) (restored_by others (devices_in device_count 1 2 text))
        go [] e m = absurd (omega arith)
        go (c ∷ t) e m = sym (ap (restored_by others) e)

    pub devices_done : length rest ≡ 0 → ◌≡◌ {A = Restoring} (record { answer = restored; ports = ports }) (restored_by others (devices_in device_count 1 2 text))
    unfolding devices_in
    devices_done none =
        let whole : take device_count ports ++ (fresh_port ∷ []) ≡ ports = ap (λ (p : Port). take device_count ports ++ (p ∷ [])) (sym (s.fresh device_count (omega arith))) ∙ sym (take-suc ports device_count fresh_port (omega (arith, s.all))) ∙ take_all (suc device_count) ports (omega (arith, s.all)) in
        sym (ap (restored_by others) (end ∙ ap (λ (t : List ℕ). with_all (take device_count ports) (devices_in 0 (suc device_count) line t)) (nil_from_length rest none) ∙ ap store_of whole))

-- the edition that was read: another, or this one
pub edition_other : (x : Scan (Unit {0} × ℕ)) {v : ℕ} {rest : List ℕ} → found v rest ≡ then_scan x (λ p rest. found (capped p.1) rest) → (v ≡ edition → ⊥) → of_other ≡ by_edition x
edition_other missing e differs = absurd (not_missing e)
edition_other (found p t) {v} e differs =
    let is : v ≡ capped p.1 = same_value e in
    simp (ne_eqb p.1 edition (λ y. differs (is ∙ ap capped y ∙ capped_small edition (omega arith))))

pub edition_same : (x : Scan (Unit {0} × ℕ)) {v : ℕ} {rest : List ℕ} → found v rest ≡ then_scan x (λ p rest. found (capped p.1) rest) → v ≡ edition → devices_in device_count 1 2 rest ≡ by_edition x
edition_same missing e same = absurd (not_missing e)
edition_same (found p t) {v} {rest} e same =
    let is : p.1 ≡ v = capped_is p.1 v 1 (sym (same_value e)) (omega (arith, same)) (omega arith) in
    simp (eq-eqb p.1 edition (is ∙ same)) (ap (devices_in device_count 1 2) (same_rest e))
