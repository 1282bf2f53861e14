-- Laws of a store that is read back.
use Rattle.std.specs.Prelude.{ℕ, zero, suc, ◌+◌, ◌<◌, ◌↔◌, Bool, true, false, List, [], ◌∷◌, ◌++◌, map, length, get_or}
use Rattle.std.proofs.Math.Path.{◌≡◌, refl, ap}
use Rattle.std.proofs.Common.{sym, ◌∙◌, subst, arith, length-append}
use Rattle.std.proofs.Math.ListN.{get_or-append}
use Rattle.std.proofs.lemmas.List.{get_or_at}
use Rattle.report.specs.Ports.{device_count}
use Rattle.port.specs.declared.Port.{Port}
use Rattle.port.specs.Records.{fresh_port}
use Rattle.text.specs.Texts.{paired_text}
use Rattle.store.specs.Stores.{edition, edition_line, pad_line, store_text, pad_port, stored_of, PadFits, StoredDevice, AllStored, Store}
use Rattle.restore.specs.Restoring.{StoreRead, store_of, of_other, broken_at, read_store, RestoreAnswer, restored, refused, refused_at, Restoring, restored_by, restore_ports}
use Rattle.keeping.specs.Lines.{OtherEdition, BrokenAt}
use Rattle.keeping.proofs.StoreSizesLaws.{sizes}
use Rattle.keeping.proofs.ReadingLaws.{lines_from, fresh_stored, paired_line, no_line, store_lines, reads_exactly, other_exactly}
use Rattle.keeping.proofs.LinesLaws.{broken_exactly, line_bounds, one_of}
use Rattle.keeping.specs.Keeping.{Storable, ReadBack, accepted, refused_other, refused_broken, StoresKept}

-- what a store keeps of a port
pub kept_paired : (p : Port) → p.paired ≡ true → stored_of p ≡ pad_port p.wpid p.serial p.reports p.version p.features
unfolding stored_of
kept_paired p e = simp e

pub kept_fresh : (p : Port) → p.paired ≡ false → stored_of p ≡ fresh_port
unfolding stored_of
kept_fresh p e = simp e

pub paired_kept : (p : Port) → p.paired ≡ true → ReadBack p (stored_of p)
unfolding pad_port fresh_port
paired_kept p e = subst (ReadBack p) (sym (kept_paired p e)) (record { paired = refl; wpid = refl; serial = refl; reports = refl; version = refl; features = refl; up = refl; battery = refl; places = refl })

-- its line is the port's
kept_line : (number : ℕ) (p : Port) → paired_text pad_line number (stored_of p) ≡ paired_text pad_line number p
unfolding paired_text pad_line pad_port fresh_port
kept_line number p = go p.paired refl
  where
    go : (b : Bool) → p.paired ≡ b → paired_text pad_line number (stored_of p) ≡ paired_text pad_line number p
    go true e = ap (paired_text pad_line number) (kept_paired p e) ∙ sym (paired_line number p e)
    go false e = ap (paired_text pad_line number) (kept_fresh p e) ∙ sym (no_line number p e)

kept_lines : (number : ℕ) (devices : List Port) → lines_from number (map stored_of devices) ≡ lines_from number devices
unfolding lines_from
kept_lines number [] = refl
kept_lines number (p ∷ devices) = λ i. kept_line number p i ++ kept_lines (suc number) devices i

pad_port_stored : (p : Port) → PadFits p → StoredDevice (pad_port p.wpid p.serial p.reports p.version p.features)
unfolding pad_port stored_of
pad_port_stored p h =
    record {
      fits = λ e. record { model = h.model; told = h.told; types = h.types; spoken = h.spoken; all = h.all; indexes = h.indexes };
      rest = refl;
    }

kept_stored : (p : Port) → (p.paired ≡ true → PadFits p) → StoredDevice (stored_of p)
kept_stored p h = go p.paired refl
  where
    go : (b : Bool) → p.paired ≡ b → StoredDevice (stored_of p)
    go true e = subst StoredDevice (sym (kept_paired p e)) (pad_port_stored p (h e))
    go false e = subst StoredDevice (sym (kept_fresh p e)) fresh_stored

all_kept : (devices : List Port) → ((position : ℕ) → position < length devices → (get_or devices position fresh_port).paired ≡ true → PadFits (get_or devices position fresh_port)) → AllStored (map stored_of devices)
unfolding AllStored
all_kept [] h = tt
all_kept (p ∷ devices) h =
    (kept_stored p (h 0 (omega arith)), all_kept devices (λ position l. h (suc position) (omega (arith, l))))

all_fit : (devices : List Port) → AllStored devices → (position : ℕ) → position < length devices → (get_or devices position fresh_port).paired ≡ true → PadFits (get_or devices position fresh_port)
unfolding AllStored
all_fit [] h position l = absurd (omega (arith, l))
all_fit (p ∷ devices) h zero l = h.0.fits
all_fit (p ∷ devices) h (suc position) l = all_fit devices h.1 position (omega (arith, l))

-- the last of some ports
record LastPort (count : ℕ) (ports : List Port) : Type 0 where
  devices : List Port
  last : Port
  counted : length devices ≡ count
  so : ports ≡ devices ++ (last ∷ [])

last_port : (count : ℕ) (ports : List Port) → length ports ≡ suc count → LastPort count ports
last_port count [] e = absurd (omega (arith, e))
last_port zero (p ∷ []) e = record { devices = []; last = p; counted = refl; so = refl }
last_port zero (p ∷ q ∷ ports) e = absurd (omega (arith, e))
last_port (suc count) (p ∷ ports) e = with_first_law (last_port count ports (omega (arith, e)))
  where
    with_first_law : LastPort count ports → LastPort (suc count) (p ∷ ports)
    with_first_law l = record { devices = p ∷ l.devices; last = l.last; counted = ap suc l.counted; so = ap (λ (r : List Port). p ∷ r) l.so }

map_last : (devices : List Port) (r : Port) → map stored_of (devices ++ (r ∷ [])) ≡ map stored_of devices ++ (stored_of r ∷ [])
map_last [] r = refl
map_last (p ∷ devices) r = ap (λ (l : List Port). stored_of p ∷ l) (map_last devices r)

length_map_kept : (devices : List Port) → length (map stored_of devices) ≡ length devices
length_map_kept [] = refl
length_map_kept (p ∷ devices) = ap suc (length_map_kept devices)

-- the text of what is kept is the text that was written
pub kept_store : (ports : List Port) → Storable ports → Store (store_text ports) (map stored_of ports)
kept_store ports h = by (last_port device_count ports h.all)
  where
    by : LastPort device_count ports → Store (store_text ports) (map stored_of ports)
    by l =
        let six : length (map stored_of l.devices) ≡ device_count = length_map_kept l.devices ∙ l.counted in
        let none : l.last.paired ≡ false = ap (λ (p : Port). p.paired) (sym (ap (λ (ports : List Port). get_or ports device_count fresh_port) l.so ∙ get_or_at l.devices l.last [] fresh_port device_count l.counted)) ∙ h.receiver in
        let all : map stored_of ports ≡ map stored_of l.devices ++ (fresh_port ∷ []) = ap (map stored_of) l.so ∙ map_last l.devices l.last ∙ ap (λ (p : Port). map stored_of l.devices ++ (p ∷ [])) (kept_fresh l.last none) in
        record {
          devices = map stored_of l.devices;
          six = six;
          each = all_kept l.devices each;
          all = all;
          so = ap store_text l.so ∙ store_lines l.devices l.last l.counted ∙ ap (λ (t : List ℕ). edition_line edition ++ t) (sym (kept_lines 1 l.devices)) ∙ sym (ap store_text all ∙ store_lines (map stored_of l.devices) fresh_port six);
        }
      where
        each : (position : ℕ) → position < length l.devices → (get_or l.devices position fresh_port).paired ≡ true → PadFits (get_or l.devices position fresh_port)
        each position inside e =
            let same : get_or ports position fresh_port ≡ get_or l.devices position fresh_port = ap (λ (ports : List Port). get_or ports position fresh_port) l.so ∙ get_or-append l.devices (l.last ∷ []) fresh_port position inside in
            subst PadFits same (h.fits position (omega (arith, inside, l.counted)) (ap (λ (p : Port). p.paired) same ∙ e))

pub read_back : (ports : List Port) → Storable ports → read_store (store_text ports) ≡ store_of (map stored_of ports)
read_back ports h = (reads_exactly (store_text ports) (map stored_of ports)).1 (kept_store ports h)

-- the ports of a store can be said by one
pub storable : (text : List ℕ) (ports : List Port) → Store text ports → Storable ports
unfolding fresh_port
storable text ports s =
    record {
      all = ap length s.all ∙ length-append s.devices (fresh_port ∷ []) ∙ count;
      receiver = ap (λ (ports : List Port). (get_or ports device_count fresh_port).paired) s.all ∙ ap (λ (p : Port). p.paired) (get_or_at s.devices fresh_port [] fresh_port device_count s.six);
      fits = fits;
    }
  where
    count : length s.devices + 1 ≡ suc device_count
    count = omega (arith, s.six)

    fits : (position : ℕ) → position < device_count → (get_or ports position fresh_port).paired ≡ true → PadFits (get_or ports position fresh_port)
    fits position inside =
        let l : position < length s.devices = omega (arith, s.six, inside) in
        let same : get_or ports position fresh_port ≡ get_or s.devices position fresh_port = ap (λ (ports : List Port). get_or ports position fresh_port) s.all ∙ get_or-append s.devices (fresh_port ∷ []) fresh_port position l in
        subst (λ (p : Port). p.paired ≡ true → PadFits p) (sym same) (all_fit s.devices s.each position l)

at_inside : (ports : List Port) (position : ℕ) → position < length ports → (none : Port) → get_or ports position fresh_port ≡ get_or ports position none
at_inside [] position inside none = absurd (omega (arith, inside))
at_inside (p ∷ ports) zero inside none = refl
at_inside (p ∷ ports) (suc position) inside none = at_inside ports position (omega (arith, inside)) none

-- the port at a position inside, whatever stands for a port outside
pub storable_at : (ports : List Port) (none : Port) → length ports ≡ suc device_count → (get_or ports device_count none).paired ≡ false → ((position : ℕ) → position < device_count → (get_or ports position none).paired ≡ true → PadFits (get_or ports position none)) → Storable ports
storable_at ports none all receiver fits =
    record {
      all = all;
      receiver = ap (λ (p : Port). p.paired) (same device_count (omega (arith, all))) ∙ receiver;
      fits = λ position inside. subst (λ (p : Port). p.paired ≡ true → PadFits p) (sym (same position (omega (arith, all, inside)))) (fits position inside);
    }
  where
    same : (position : ℕ) → position < length ports → get_or ports position fresh_port ≡ get_or ports position none
    same position inside = at_inside ports position inside none

-- the answer to a read tells which of the three the text is
answer_line : RestoreAnswer → ℕ
answer_line restored = 0
answer_line (refused number) = 0
answer_line (refused_at number line) = line

answer_number : RestoreAnswer → ℕ
answer_number restored = 0
answer_number (refused number) = number
answer_number (refused_at number line) = number

module _ (ports : List Port) where
  answered_store : (next : List Port) (r : StoreRead) → restored_by ports r ≡ accepted next → r ≡ store_of next
  unfolding answer_number
  answered_store next (store_of others) e = ap (λ (x : Restoring). store_of x.ports) e
  answered_store next of_other e = let z : ◌≡◌ {A = ℕ} 15 0 = ap (λ (x : Restoring). answer_number x.answer) e in absurd (omega (arith, z))
  answered_store next (broken_at line) e = let z : ◌≡◌ {A = ℕ} 16 0 = ap (λ (x : Restoring). answer_number x.answer) e in absurd (omega (arith, z))

  answered_other : (r : StoreRead) → restored_by ports r ≡ refused_other ports → r ≡ of_other
  unfolding answer_number
  answered_other (store_of others) e = let z : ◌≡◌ {A = ℕ} 0 15 = ap (λ (x : Restoring). answer_number x.answer) e in absurd (omega (arith, z))
  answered_other of_other e = refl
  answered_other (broken_at line) e = let z : ◌≡◌ {A = ℕ} 16 15 = ap (λ (x : Restoring). answer_number x.answer) e in absurd (omega (arith, z))

  answered_broken : (n : ℕ) (r : StoreRead) → restored_by ports r ≡ refused_broken n ports → r ≡ broken_at n
  unfolding answer_number answer_line
  answered_broken n (store_of others) e = let z : ◌≡◌ {A = ℕ} 0 16 = ap (λ (x : Restoring). answer_number x.answer) e in absurd (omega (arith, z))
  answered_broken n of_other e = let z : ◌≡◌ {A = ℕ} 15 16 = ap (λ (x : Restoring). answer_number x.answer) e in absurd (omega (arith, z))
  answered_broken n (broken_at line) e = ap (λ (x : Restoring). broken_at (answer_line x.answer)) e

  restores : (text : List ℕ) (next : List Port) → (restore_ports ports text ≡ accepted next) ↔ Store text next
  unfolding restore_ports
  restores text next =
      ((λ e. (reads_exactly text next).0 (answered_store next (read_store text) e)), (λ s. ap (restored_by ports) ((reads_exactly text next).1 s)))

  refuses_other : (text : List ℕ) → (restore_ports ports text ≡ refused_other ports) ↔ OtherEdition text
  unfolding restore_ports
  refuses_other text =
      ((λ e. (other_exactly text).0 (answered_other (read_store text) e)), (λ s. ap (restored_by ports) ((other_exactly text).1 s)))

  refuses_broken : (text : List ℕ) (n : ℕ) → (restore_ports ports text ≡ refused_broken n ports) ↔ BrokenAt text n
  unfolding restore_ports
  refuses_broken text n =
      ((λ e. (broken_exactly text n).0 (answered_broken n (read_store text) e)), (λ s. ap (restored_by ports) ((broken_exactly text n).1 s)))

pub keeping : StoresKept
keeping =
    record {
      read_back = read_back;
      paired_kept = paired_kept;
      unpaired_fresh = kept_fresh;
      written = λ text. ((λ s. (s.0, (storable text s.0 s.1, s.1.so))), (λ w. (map stored_of w.0, subst (λ (t : List ℕ). Store t (map stored_of w.0)) (sym w.1.1) (kept_store w.0 w.1.0))));
      written_back = λ text ports s. sym s.so;
      one_text = λ text other ports s t. s.so ∙ sym t.so;
      restores = restores;
      refuses_other = refuses_other;
      refuses_broken = refuses_broken;
      one_of = one_of;
      lines = λ text n b. line_bounds text n ((broken_exactly text n).1 b);
      sizes = sizes;
    }
