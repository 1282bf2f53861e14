-- Document 02, Ask 3: the store. Which texts are stores of edition 1, and of which ports.
use Rattle.std.specs.Prelude.{ℕ, ◌+◌, ◌*◌, ◌^◌, ◌≤◌, ◌<◌, ◌≡◌, true, false, cond, List, [], ◌∷◌, ◌++◌, Option, None, map, length, replicate}
use Rattle.report.specs.Ports.{device_count}
use Rattle.report.specs.declared.FeatureIndex.{FeatureIndex}
use Rattle.frame.specs.Writing.{WriteOutcome, frame_at}
use Rattle.port.specs.declared.Port.{Port}
use Rattle.port.specs.declared.Version.{Version}
use Rattle.port.specs.Records.{place_count, feature_count, max_index, empty_place, fresh_port}
use Rattle.text.specs.Words.{ascii, hex, decimal}
use Rattle.text.specs.Texts.{tab, tabbed, paired_lines, digits16, digits32, byte_most, version_text, version_most, serial_text, serial_most}
use Rattle.scan.specs.Exact.{SerialFits, VersionFits}

-- the edition that is written
abbrev pub edition : ℕ
edition = 1

-- the first line of a store of an edition
unfoldable pub edition_line : ℕ → List ℕ
edition_line n = tabbed (ascii "pads" ∷ decimal n ∷ [])

-- the indexes of the known features, in document 01's order
abbrev pub index_fields : List FeatureIndex → List (List ℕ)
index_fields features = map (λ (index : FeatureIndex). decimal index.0) features

-- port, WPID, serial, bitfield, version and feature indexes: numbers look as in the listing
unfoldable pub pad_line : (number : ℕ) → Port → List ℕ
pad_line number p =
    tabbed
    (decimal number
    ∷ hex digits16 p.wpid
    ∷ serial_text p.serial
    ∷ hex digits32 p.reports
    ∷ version_text p.version
    ∷ index_fields p.features)

-- an index after another field: a tab before it
abbrev pub index_text : (position : ℕ) → FeatureIndex → List ℕ
index_text position index = tab ∷ decimal index.0

-- a tab and an index at most
abbrev pub index_most : ℕ
index_most = 1 + byte_most

-- no line is longer: the fields at their longest, and the byte after each
abbrev pub pad_most : ℕ
pad_most = byte_most + digits16 + serial_most + digits32 + version_most + 4 + index_most * feature_count + 1

-- the first line, then a line for each paired device in number order
unfoldable pub store_text : List Port → List ℕ
store_text ports = edition_line edition ++ paired_lines pad_line ports

-- the whole store, or 10
unfoldable pub store_rule : List Port → ℕ → List ℕ → WriteOutcome
store_rule ports offset lent = frame_at (store_text ports) offset lent

-- a paired device of which these are known: all else is as fresh
unfoldable pub pad_port : (wpid : ℕ) → Option ℕ → (reports : ℕ) → Option Version → List FeatureIndex → Port
pad_port wpid serial reports version features =
    record {
      paired = true;
      wpid = wpid;
      reports = reports;
      up = false;
      version = version;
      features = features;
      battery = None;
      serial = serial;
      places = replicate place_count empty_place;
    }

-- what a store keeps of a port: of a paired device these, and of any other nothing
unfoldable pub stored_of : Port → Port
stored_of p =
    cond p.paired (pad_port p.wpid p.serial p.reports p.version p.features) fresh_port

-- each index is at most 63
unfoldable pub IndexesFit : List FeatureIndex → Type 0
IndexesFit [] = Unit
IndexesFit (index ∷ features) = (index.0 ≤ max_index) × IndexesFit features

-- what a store can say of a device: numbers as wide as their fields, and an index for each known feature
pub record PadFits (p : Port) : Type 0 where
  pub model : p.wpid < 16 ^ digits16
  pub told : SerialFits p.serial
  pub types : p.reports < 16 ^ digits32
  pub spoken : VersionFits p.version
  pub all : length p.features ≡ feature_count
  pub indexes : IndexesFit p.features

-- a device as a store has it: it is unpaired, and all of it as fresh, or it is paired, and all but these as fresh
pub record StoredDevice (p : Port) : Type 0 where
  pub fits : p.paired ≡ true → PadFits p
  pub rest : p ≡ stored_of p

unfoldable pub AllStored : List Port → Type 0
AllStored [] = Unit
AllStored (p ∷ devices) = StoredDevice p × AllStored devices

-- the text is the store of these ports: six devices, and port 255, which is fresh
pub record Store (text : List ℕ) (ports : List Port) : Type 0 where
  pub devices : List Port
  pub six : length devices ≡ device_count
  pub each : AllStored devices
  pub all : ports ≡ devices ++ (fresh_port ∷ [])
  pub so : text ≡ store_text ports
