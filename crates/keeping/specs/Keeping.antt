-- Document 02, Ask 3: reading what was written gives back what a store keeps, and writing what was read gives the text back.
use Rattle.std.specs.Prelude.{ℕ, suc, ◌≤◌, ◌<◌, ◌≡◌, ◌↔◌, true, false, List, map, length, get_or, None}
use Rattle.report.specs.Refusals as refusals
use Rattle.report.specs.Ports.{device_count}
use Rattle.port.specs.declared.Port.{Port}
use Rattle.port.specs.Records.{fresh_port}
use Rattle.store.specs.Stores.{store_text, stored_of, PadFits, Store}
use Rattle.restore.specs.Restoring.{store_of, read_store, restored, refused, refused_at, Restoring, restore_ports}
use Rattle.keeping.specs.Lines.{IsStore, OtherEdition, BrokenAt, OneOf}

-- ports that a store can say: seven, port 255 not paired, and of each paired device numbers as wide as their fields and an index of at most 63 for each known feature
pub record Storable (ports : List Port) : Type 0 where
  pub all : length ports ≡ suc device_count
  pub receiver : (get_or ports device_count fresh_port).paired ≡ false
  pub fits : (position : ℕ) → position < device_count → (get_or ports position fresh_port).paired ≡ true → PadFits (get_or ports position fresh_port)

-- what is read back of a paired device: pairing, WPID, serial, bitfield, version and feature indexes; all else is as fresh
pub record ReadBack (p q : Port) : Type 0 where
  pub paired : q.paired ≡ true
  pub wpid : q.wpid ≡ p.wpid
  pub serial : q.serial ≡ p.serial
  pub reports : q.reports ≡ p.reports
  pub version : q.version ≡ p.version
  pub features : q.features ≡ p.features
  pub up : q.up ≡ false
  pub battery : q.battery ≡ None
  pub places : q.places ≡ fresh_port.places

-- the answers to a read
abbrev pub accepted : List Port → Restoring
accepted ports = record { answer = restored; ports = ports }

abbrev pub refused_other : List Port → Restoring
refused_other ports = record { answer = refused refusals.other_edition; ports = ports }

abbrev pub refused_broken : ℕ → List Port → Restoring
refused_broken n ports = record { answer = refused_at refusals.broken_line n; ports = ports }

-- the reader and the writer, for every text and all ports
pub record StoresKept : Type 0 where
  pub read_back : (ports : List Port) → Storable ports → read_store (store_text ports) ≡ store_of (map stored_of ports)
  pub paired_kept : (p : Port) → p.paired ≡ true → ReadBack p (stored_of p)
  pub unpaired_fresh : (p : Port) → p.paired ≡ false → stored_of p ≡ fresh_port
  -- accepted are exactly the texts that are written
  pub written : (text : List ℕ) → IsStore text ↔ ((ports : List Port) × (Storable ports × (text ≡ store_text ports)))
  pub written_back : (text : List ℕ) (ports : List Port) → Store text ports → store_text ports ≡ text
  pub one_text : (text other : List ℕ) (ports : List Port) → Store text ports → Store other ports → text ≡ other
  -- restored, 15, or 16 with the number of a line from 1 to 8; and no other answer
  pub restores : (ports : List Port) (text : List ℕ) (next : List Port) → (restore_ports ports text ≡ accepted next) ↔ Store text next
  pub refuses_other : (ports : List Port) (text : List ℕ) → (restore_ports ports text ≡ refused_other ports) ↔ OtherEdition text
  pub refuses_broken : (ports : List Port) (text : List ℕ) (n : ℕ) → (restore_ports ports text ≡ refused_broken n ports) ↔ BrokenAt text n
  pub one_of : (text : List ℕ) → OneOf text
  pub lines : (text : List ℕ) (n : ℕ) → BrokenAt text n → (1 ≤ n) × (n ≤ 8)
  -- no store is shorter or longer
  pub sizes : (text : List ℕ) (ports : List Port) → Store text ports → (7 ≤ length text) × (length text ≤ 295)
