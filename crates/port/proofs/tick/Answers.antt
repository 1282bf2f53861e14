-- `port::tick` meets its contract: each place is lowered, and those that end are counted.
use Rattle.std.proofs.Common.{◌∙◌, ap, arith}
use Rattle.port.specs.Records.{empty_place}
use Rattle.port.specs.Ticks.{after_tick, one_if_ending}
use Rattle.port.proofs.SumLaws.{sum_begun, sum_more, sum_done}
use Rattle.port.proofs.MapLaws.{map_begun, map_more, map_next, map_done}
use Rattle.port.proofs.TicksLaws.{ticked}
use Rattle.port.proofs.tick.Goals as goal

pub loop-request-init : goal.loop-request-init
loop-request-init c = (map_begun after_tick _, sum_begun one_if_ending _)

pub loop-request-preserved : goal.loop-request-preserved
unfolding empty_place
loop-request-preserved c =
    let kept = map_next after_tick empty_place c.loop-request.invariant.0 in (
      map_more after_tick empty_place _ c.loop-request.invariant.0 (omega arith) (c.lowered.ensures ∙ ap after_tick kept),
      sum_more one_if_ending empty_place _ c.loop-request.invariant.1 (omega arith) (c.one_if_ending-ended.ensures.counted ∙ ap one_if_ending kept) c.one_if_ending-ended.ensures.one,
    )

pub returns : goal.returns
returns c = record { ticked = ticked _ (map_done after_tick c.loop-request.invariant.0 (omega arith)) (sum_done one_if_ending c.loop-request.invariant.1 (omega arith)) }
