-- Document 02, Ask 3: reading a store.
use Rattle.std.specs.Prelude.{ℕ, zero, suc, ◌+◌, cond, List, [], ◌∷◌, ◌++◌, ltb, eqb, Option}
use Rattle.report.specs.Refusals as refusals
use Rattle.report.specs.Ports.{device_count}
use Rattle.report.specs.declared.FeatureIndex.{FeatureIndex}
use Rattle.port.specs.declared.Port.{Port}
use Rattle.port.specs.declared.Version.{Version}
use Rattle.port.specs.Records.{max_index, feature_count, fresh_port}
use Rattle.text.specs.Words.{ascii, newline, decimal}
use Rattle.text.specs.Texts.{tab, digits16, digits32}
use Rattle.scan.specs.Scans.{Scan, missing, found, then_scan, pair_scan, word_scan, number_scan, decimal_scan, hex_scan, serial_scan, version_scan}
use Rattle.store.specs.Stores.{edition, pad_port}

-- the byte after the index at a position: a tab, and after the last a newline
abbrev pub stop_after : (position : ℕ) → ℕ
stop_after position = cond (ltb (suc position) feature_count) tab newline

abbrev pub with_index : List FeatureIndex × ℕ → List FeatureIndex
with_index p = p.0 ++ (record { 0 = p.1 } ∷ [])

-- the first indexes of a line
unfoldable pub indexes_scan : (count : ℕ) → List ℕ → Scan (List FeatureIndex)
indexes_scan zero text = found [] text
indexes_scan (suc count) text =
    then_scan (pair_scan (indexes_scan count) (decimal_scan max_index (stop_after count)) text) λ p rest.
    found (with_index p) rest

-- what follows the port in a line: WPID, serial, bitfield, version and indexes
abbrev pub Pad : Type 0
Pad = ℕ × (Option ℕ × (ℕ × (Option Version × List FeatureIndex)))

unfoldable pub pad_scan : List ℕ → Scan Pad
pad_scan text =
    pair_scan (hex_scan digits16 tab) (pair_scan (serial_scan tab) (pair_scan (hex_scan digits32 tab) (pair_scan (version_scan tab) (indexes_scan feature_count)))) text

abbrev pub port_of : Pad → Port
port_of p = pad_port p.0 p.1.0 p.1.1.0 p.1.1.1.0 p.1.1.1.1

-- the line of the device of a number
unfoldable pub device_scan : (number : ℕ) → List ℕ → Scan Port
device_scan number text =
    then_scan (pair_scan (word_scan (decimal number ++ (tab ∷ []))) pad_scan text) λ p rest.
    found (port_of p.1) rest

-- what a text is: a store of these ports, one of another edition, or a text whose line of this number is the first that breaks the rules
pub data StoreRead : Type 0 where
  store_of : (ports : List Port) → StoreRead
  of_other : StoreRead
  broken_at : (line : ℕ) → StoreRead

abbrev pub with_first : Port → StoreRead → StoreRead
with_first p (store_of ports) = store_of (p ∷ ports)
with_first p of_other = of_other
with_first p (broken_at line) = broken_at line

-- a device in a text: where its line is at the front, its port, the text after the line, and one line; else it is not there, and is fresh
pub record Row : Type 0 where
  pub port : Port
  pub rest : List ℕ
  pub lines : ℕ

abbrev pub row_by : List ℕ → Scan Port → Row
row_by text missing = record { port = fresh_port; rest = text; lines = 0 }
row_by text (found p rest) = record { port = p; rest = rest; lines = 1 }

unfoldable pub row_in : (number : ℕ) → List ℕ → Row
row_in number text = row_by text (device_scan number text)

-- the text from a line on: the devices from a number on, each with its line or not there, and then no line more; port 255 is fresh
unfoldable pub devices_in : (more number line : ℕ) → List ℕ → StoreRead
devices_in zero number line [] = store_of (fresh_port ∷ [])
devices_in zero number line (c ∷ text) = broken_at line
devices_in (suc more) number line text =
    with_first (row_in number text).port (devices_in more (suc number) (line + (row_in number text).lines) (row_in number text).rest)

-- the first line: "pads", a tab and a number
unfoldable pub edition_scan : List ℕ → Scan (Unit {0} × ℕ)
edition_scan text = pair_scan (word_scan (ascii "pads" ++ (tab ∷ []))) (number_scan newline) text

abbrev pub by_edition : Scan (Unit {0} × ℕ) → StoreRead
by_edition missing = broken_at 1
by_edition (found p rest) = cond (eqb p.1 edition) (devices_in device_count 1 2 rest) of_other

unfoldable pub read_store : List ℕ → StoreRead
read_store text = by_edition (edition_scan text)

-- restored; 15; or 16 with the number of a line
pub data RestoreAnswer : Type 0 where
  restored : RestoreAnswer
  refused : (number : ℕ) → RestoreAnswer
  refused_at : (number line : ℕ) → RestoreAnswer

-- the answer, and the ports afterwards
pub record Restoring : Type 0 where
  pub answer : RestoreAnswer
  pub ports : List Port

-- a refused read leaves the ports
abbrev pub restored_by : List Port → StoreRead → Restoring
restored_by ports (store_of next) = record { answer = restored; ports = next }
restored_by ports of_other = record { answer = refused refusals.other_edition; ports = ports }
restored_by ports (broken_at line) = record { answer = refused_at refusals.broken_line line; ports = ports }

unfoldable pub restore_ports : List Port → List ℕ → Restoring
restore_ports ports text = restored_by ports (read_store text)
