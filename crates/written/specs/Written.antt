-- Document 02, Ask 3: the reader accepts exactly the texts that the writer writes, with room enough, for some station that calls reach.
use Rattle.std.specs.Prelude.{ℕ, ◌≡◌, ◌↔◌, List, length, replicate}
use Rattle.port.specs.declared.Port.{Port}
use Rattle.store.specs.Stores.{store_text, Store}
use Rattle.keeping.specs.Lines.{IsStore}
use Rattle.station.specs.declared.Station.{Station}
use Rattle.station.specs.Stations.{fresh_station}
use Rattle.sequence.specs.Starts.{Start}
use Rattle.sequence.specs.Steps.{Call, write, store, step, run}
use Rattle.widths.specs.Widths.{AllRead}
use Rattle.written.specs.Building.{AllTakeOrAsk}

-- takes and requests, with bytes for all their numbers, after which a fresh station has these ports
pub record Built (ports : List Port) : Type 0 where
  pub calls : List Call
  pub bytes : AllTakeOrAsk calls
  pub so : run fresh_station calls ≡ record { ports = ports }

-- the text is the store of such a station
pub record WrittenBy (text : List ℕ) : Type 0 where
  pub ports : List Port
  pub built : Built ports
  pub so : text ≡ store_text ports

pub record AllWritten : Type 0 where
  -- calls reach every station that a store restores
  pub built : (text : List ℕ) (ports : List Port) → Store text ports → Built ports
  -- the texts that are accepted are exactly those of the stations that calls reach
  pub exactly : (text : List ℕ) → IsStore text ↔ WrittenBy text
  -- whatever the calls, and wherever they begin
  pub accepted : (st : Station) → Start st → (cs : List Call) → AllRead cs → IsStore (store_text (run st cs).ports)
  -- with just room enough the whole text is written
  pub wrote : (st : Station) → (step st (write store 0 (replicate (length (store_text st.ports)) 0))).lent ≡ store_text st.ports
