-- The loop of `Station::tick`: the ports so far are ticked, and their counts stand in the answer.
use Rattle.station.specs.Stations.{no_port}
use Rattle.station.specs.StationCalls.{ticked_port, ended_on}
use Rattle.port.proofs.MapLaws.{Mapped, Listed}
use Rattle.station.proofs.Station.tick.Given as goal

abbrev pub invariant-loop-i : goal.invariant-loop-i
invariant-loop-i l = Mapped ticked_port l.fn.self.ports l.self.ports l.i × Listed ended_on no_port l.fn.self.ports l.ended l.i
