-- The loop of `port::tick`: the places so far are lowered, and those of them that end are counted.
use Rattle.port.specs.Ticks.{after_tick, one_if_ending}
use Rattle.port.proofs.SumLaws.{Summed}
use Rattle.port.proofs.MapLaws.{Mapped}
use Rattle.port.proofs.tick.Given as goal

abbrev pub invariant-loop-request : goal.invariant-loop-request
invariant-loop-request l = (Mapped after_tick l.fn.places l.request-items l.request-index) × (Summed one_if_ending l.fn.places l.ended l.request-index)
