-- Document 01, "Sequences of calls", and document 02, Ask 3: where a sequence of calls begins.
use Rattle.std.specs.Prelude.{ℕ, ◌≡◌, List}
use Rattle.port.specs.declared.Port.{Port}
use Rattle.restore.specs.Restoring.{store_of, read_store}
use Rattle.station.specs.declared.Station.{Station}
use Rattle.station.specs.Stations.{fresh_station}

-- a fresh station, or one that a store restores
pub data Start : Station → Type 0 where
  fresh : Start fresh_station
  restored : (text : List ℕ) (ports : List Port) → read_store text ≡ store_of ports → Start (record { ports = ports })
