-- `station::Station::request` meets its contract.
use Rattle.station.proofs.StationCallsLaws.{requested}
use Rattle.station.proofs.Station.request.Goals as goal

pub returns : goal.returns
returns c = record {
  outcome = requested _ _ _ _ _ _ _ _ c.request_at-requested.result c.position_of-position.ensures.position c.request_at-requested.ensures.outcome;
}
