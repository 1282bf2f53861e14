-- Document 01, "Ports and their records", and document 02, Ask 3: the numbers of a port are as wide as their fields: WPID 16 bits, bitfield and serial 32, each part of a version a byte. So the store of every station that calls reach is read back.
use Rattle.std.specs.Prelude.{ℕ, ◌^◌, ◌<◌, ◌≡◌, List, [], ◌∷◌, map, Option}
use Rattle.report.specs.Sizes.{byte}
use Rattle.port.specs.declared.Port.{Port}
use Rattle.port.specs.declared.Version.{Version}
use Rattle.text.specs.Texts.{digits16, digits32}
use Rattle.scan.specs.Exact.{SerialFits, VersionFits}
use Rattle.store.specs.Stores.{store_text, stored_of}
use Rattle.restore.specs.Restoring.{store_of, read_store}
use Rattle.keeping.specs.Keeping.{Storable}
use Rattle.station.specs.declared.Station.{Station}
use Rattle.station.specs.Stations.{port_count, port_at}
use Rattle.sequence.specs.Starts.{Start}
use Rattle.sequence.specs.Steps.{Call, read_of, run}

-- all that a call lends to be read are bytes
abbrev pub ReadsBytes : Call → Type 0
ReadsBytes c = (i : ℕ) → byte (read_of c) i < 256

unfoldable pub AllRead : List Call → Type 0
AllRead [] = Unit
AllRead (c ∷ cs) = ReadsBytes c × AllRead cs

pub record WideRecord (wpid : ℕ) (serial : Option ℕ) (reports : ℕ) (version : Option Version) : Type 0 where
  pub model : wpid < 16 ^ digits16
  pub told : SerialFits serial
  pub types : reports < 16 ^ digits32
  pub spoken : VersionFits version

abbrev pub WidePort : Port → Type 0
WidePort p = WideRecord p.wpid p.serial p.reports p.version

abbrev pub Wide : Station → Type 0
Wide st = (position : ℕ) → position < port_count → WidePort (port_at st position)

-- after any calls from a start: every number fits, and reading what is written gives back what a store keeps of every port
pub record StoresReadBack : Type 0 where
  pub wide : (st : Station) → Start st → (cs : List Call) → AllRead cs → Wide (run st cs)
  pub storable : (st : Station) → Start st → (cs : List Call) → AllRead cs → Storable (run st cs).ports
  pub read_back : (st : Station) → Start st → (cs : List Call) → AllRead cs → read_store (store_text (run st cs).ports) ≡ store_of (map stored_of (run st cs).ports)
