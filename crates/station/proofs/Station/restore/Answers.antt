-- `station::Station::restore` meets its contract.
use mathlib.Core.Path.{ap}
use Rattle.station.specs.StationCalls.{restored_to, restore_rule}
use Rattle.station.proofs.Station.restore.Goals as goal

pub returns : goal.returns
unfolding restore_rule
returns c = record {
  outcome = ap restored_to c.restore-read.ensures.read;
}
