-- `station::Station::tick` meets its contract: each port is ticked, and its count is answered.
use Rattle.std.proofs.Common.{◌∙◌, ap, arith, refl}
use Rattle.std.specs.Prelude.{get_or}
use Rattle.port.specs.Records.{with_places}
use Rattle.station.specs.Stations.{no_port}
use Rattle.station.specs.StationCalls.{ticked_port, ended_on}
use Rattle.port.proofs.MapLaws.{map_begun, map_more, map_next, map_done, list_begun, list_more, list_done}
use Rattle.station.proofs.StationCallsLaws.{ticked_port_law, ended_on_law, ports_ticked}
use Rattle.station.proofs.Station.tick.Goals as goal

pub loop-i-init : goal.loop-i-init
loop-i-init c = (map_begun ticked_port _, list_begun ended_on no_port _ _ (omega arith))

pub loop-i-preserved : goal.loop-i-preserved
unfolding with_places
loop-i-preserved c =
    let kept = map_next ticked_port no_port c.loop-i.invariant.0 in
    let port = get_or c.loop-i.self.ports c.loop-i.i no_port in (
      map_more ticked_port no_port _ c.loop-i.invariant.0 (omega arith) (ticked_port_law port c.tick-ticked.ensures.ticked refl ∙ ap ticked_port kept),
      list_more ended_on no_port _ c.loop-i.invariant.1 (omega arith) (ended_on_law port c.tick-ticked.ensures.ticked ∙ ap ended_on kept),
    )

pub returns : goal.returns
returns c = record { outcome = ports_ticked _ (map_done ticked_port c.loop-i.invariant.0 (omega arith)) (list_done ended_on no_port c.loop-i.invariant.1 (omega arith)) }
