-- What follows from the statement of a store that is read back, for texts and ports at hand.
use Rattle.std.specs.Prelude.{ℕ, zero, suc, ◌<◌, ◌≡◌, ◌⊎◌, true, false, length, get_or, replicate, Some, None}
use Rattle.std.proofs.Math.Path.{refl}
use Rattle.std.proofs.Common.{sym, ◌∙◌, ap, inl, inr, arith}
use Rattle.std.proofs.lemmas.Bool.{false≢true}
use mathlib.Core.List.{List, [], ◌∷◌, ◌++◌}
use Rattle.report.specs.Ports.{device_count}
use Rattle.port.specs.declared.Port.{Port}
use Rattle.port.specs.Records.{feature_count, empty_place, fresh_port}
use Rattle.text.specs.Words.{ascii}
use Rattle.store.specs.Stores.{edition_line, store_text, pad_port, stored_of, IndexesFit, PadFits, Store}
use Rattle.store.proofs.StoresExamples.{paired_and_asked}
use Rattle.restore.specs.Restoring.{store_of, read_store, restored_by, restore_ports}
use Rattle.keeping.specs.Lines.{first_lines, IsStore, OtherEdition, BrokenAt}
use Rattle.keeping.specs.Keeping.{Storable, ReadBack, accepted, refused_other, refused_broken, StoresKept}
use Rattle.keeping.proofs.KeepingExamples.{first_lines_example, device_lines}

-- device 2 of the document's example, with its link up, a battery, and a request that waits
unfoldable pub busy : Port
busy =
    record {
      paired = true;
      wpid = 0x2010;
      reports = 0x0000000E;
      up = true;
      version = Some (record { major = 2; minor = 0 });
      features = replicate feature_count (record { 0 = 0 });
      battery = Some (record { level = 50; next = 20; status = 0 });
      serial = None;
      places = record { byte2 = record { 0 = 0 }; byte3 = 0x1A; first = record { 0 = 0; 1 = 0; 2 = 0x55 }; ticks = 3 } ∷ replicate 3 empty_place;
    }

abbrev pub busy_ports : List Port
busy_ports = fresh_port ∷ busy ∷ replicate 5 fresh_port

abbrev pub asked_ports : List Port
asked_ports = fresh_port ∷ paired_and_asked ∷ replicate 5 fresh_port

pub busy_storable : Storable busy_ports
unfolding fresh_port busy IndexesFit
busy_storable = record { all = refl; receiver = refl; fits = fits }
  where
    unpaired : (p : Port) → p.paired ≡ false → p.paired ≡ true → PadFits p
    unpaired p e f = absurd (false≢true (sym e ∙ f))

    fits : (position : ℕ) → position < device_count → (get_or busy_ports position fresh_port).paired ≡ true → PadFits (get_or busy_ports position fresh_port)
    fits zero h = unpaired fresh_port refl
    fits (suc zero) h = λ e. record { model = omega arith; told = tt; types = omega arith; spoken = (omega arith, omega arith); all = refl; indexes = (omega arith, (omega arith, (omega arith, (omega arith, (omega arith, tt))))) }
    fits (suc (suc zero)) h = unpaired fresh_port refl
    fits (suc (suc (suc zero))) h = unpaired fresh_port refl
    fits (suc (suc (suc (suc zero)))) h = unpaired fresh_port refl
    fits (suc (suc (suc (suc (suc zero))))) h = unpaired fresh_port refl
    fits (suc (suc (suc (suc (suc (suc position)))))) h = absurd (omega (arith, h))

abbrev pub asked : List ℕ
asked = ascii "pads\t1\n" ++ ascii "2\t2010\t-\t0000000E\t2.0\t0\t0\t0\t0\t0\n"

-- the same without its last newline
abbrev pub torn : List ℕ
torn = ascii "pads\t1\n" ++ ascii "2\t2010\t-\t0000000E\t2.0\t0\t0\t0\t0\t0"

-- a lower port after a higher one
abbrev pub falling : List ℕ
falling =
    ascii "pads\t1\n" ++ ascii "3\t2010\t-\t0000000E\t2.0\t0\t0\t0\t0\t0\n2\t2010\t-\t0000000E\t2.0\t0\t0\t0\t0\t0\n"

-- what is read back of a port is one
one_reading : (p q r : Port) → ReadBack p q → ReadBack p r → q ≡ r
one_reading p q r a b = λ i.
    record {
      paired = (a.paired ∙ sym b.paired) i;
      wpid = (a.wpid ∙ sym b.wpid) i;
      reports = (a.reports ∙ sym b.reports) i;
      up = (a.up ∙ sym b.up) i;
      version = (a.version ∙ sym b.version) i;
      features = (a.features ∙ sym b.features) i;
      battery = (a.battery ∙ sym b.battery) i;
      serial = (a.serial ∙ sym b.serial) i;
      places = (a.places ∙ sym b.places) i;
    }

module _ (k : StoresKept) where
  -- link, battery and requests are not kept
  read_without_link : read_store (store_text busy_ports) ≡ store_of asked_ports
  unfolding stored_of busy fresh_port pad_port paired_and_asked
  read_without_link = k.read_back busy_ports busy_storable

  busy_back : ReadBack busy paired_and_asked
  unfolding stored_of busy pad_port paired_and_asked
  busy_back = k.paired_kept busy refl

  unpaired_forgotten : (p : Port) → p.paired ≡ false → (stored_of p).version ≡ fresh_port.version
  unpaired_forgotten p e = ap (λ (q : Port). q.version) (k.unpaired_fresh p e)

  asked_store : Store asked asked_ports
  unfolding restore_ports
  asked_store = (k.restores [] asked asked_ports).0 (ap (restored_by []) device_lines.after_f_and_c)

  asked_restored : (ports : List Port) → restore_ports ports asked ≡ accepted asked_ports
  asked_restored ports = (k.restores ports asked asked_ports).1 asked_store

  asked_written : (ports : List Port) × (Storable ports × (asked ≡ store_text ports))
  asked_written = (k.written asked).0 (asked_ports, asked_store)

  asked_written_back : store_text asked_ports ≡ asked
  asked_written_back = k.written_back asked asked_ports asked_store

  asked_alone : (text : List ℕ) → Store text asked_ports → text ≡ asked
  asked_alone text s = k.one_text text asked asked_ports s asked_store

  -- an edition of any length
  large_edition : (n : ℕ) (rest : List ℕ) (ports : List Port) → 1 < n → restore_ports ports (edition_line n ++ rest) ≡ refused_other ports
  large_edition n rest ports h =
      (k.refuses_other ports (edition_line n ++ rest)).1 (n, (rest, ((λ e. omega (arith, h, e)), refl)))

  edition_10_other : OtherEdition (ascii "pads\t10\n")
  unfolding restore_ports
  edition_10_other = (k.refuses_other [] (ascii "pads\t10\n")).0 (ap (restored_by []) first_lines_example.edition_10)

  torn_broken : BrokenAt torn 2
  unfolding restore_ports
  torn_broken = (k.refuses_broken [] torn 2).0 (ap (restored_by []) device_lines.torn_last)

  -- its first line is a store, and its two are none
  torn_first : IsStore (first_lines 1 torn)
  torn_first = by torn_broken.1.0
    where
      by : (◌≡◌ {A = ℕ} 2 1) ⊎ IsStore (first_lines 1 torn) → IsStore (first_lines 1 torn)
      by (inl e) = absurd (omega (arith, e))
      by (inr s) = s

  torn_both : ¬ IsStore (first_lines 2 torn)
  torn_both = torn_broken.1.1

  torn_refused : (ports : List Port) → restore_ports ports torn ≡ refused_broken 2 ports
  torn_refused ports = (k.refuses_broken ports torn 2).1 torn_broken

  falling_broken : BrokenAt falling 3
  unfolding restore_ports
  falling_broken = (k.refuses_broken [] falling 3).0 (ap (restored_by []) device_lines.falling)

  -- no ports at all are written so
  falling_unwritten : (ports : List Port) → Storable ports → ¬ (falling ≡ store_text ports)
  falling_unwritten ports h e = (k.one_of falling).unbroken ((k.written falling).1 (ports, (h, e))) 3 falling_broken

  torn_other : ¬ OtherEdition torn
  torn_other o = (k.one_of torn).other_unbroken o 2 torn_broken

  asked_edition : ¬ OtherEdition asked
  asked_edition = (k.one_of asked).no_other (asked_ports, asked_store)

  asked_ports_example : (ports : List Port) → Store asked ports → ports ≡ asked_ports
  asked_ports_example ports s = (k.one_of asked).one_store ports asked_ports s asked_store

  torn_line : (n : ℕ) → BrokenAt torn n → n ≡ 2
  torn_line n b = (k.one_of torn).one_line n 2 b torn_broken

  some_line : (text : List ℕ) → (IsStore text → ⊥) → (OtherEdition text → ⊥) → (n : ℕ) × BrokenAt text n
  some_line text s o = by (k.one_of text).some
    where
      by : IsStore text ⊎ (OtherEdition text ⊎ ((n : ℕ) × BrokenAt text n)) → (n : ℕ) × BrokenAt text n
      by (inl x) = absurd (s x)
      by (inr (inl x)) = absurd (o x)
      by (inr (inr x)) = x

  no_line_0 : (text : List ℕ) → ¬ BrokenAt text 0
  no_line_0 text b = omega (arith, (k.lines text 0 b).0)

  no_line_9 : (text : List ℕ) → ¬ BrokenAt text 9
  no_line_9 text b = omega (arith, (k.lines text 9 b).1)

  -- 295 bytes are enough for every store
  no_longer : (text : List ℕ) (ports : List Port) → Store text ports → length text < 296
  no_longer text ports s = omega (arith, (k.sizes text ports s).1)
