-- `measure::blotterfinch_measure`: a turn of the loop is one of the measured calls.
use Rattle.std.proofs.Common.{rules, refl, ◌*◌}
use Rattle.measure.specs.MeasuredCalls.{call_size}
use Rattle.measure.proofs.MeasuredCallsLaws.{begun, more, lent_part, take_turn, request_turn, cancel_turn, tick_turn, store_turn, restore_turn, list_turn}
use Rattle.measure.proofs.blotterfinch_measure.Goals as goal

pub loop-i-init : goal.loop-i-init
loop-i-init c = begun _ _ _ c.new-s.ensures.fresh

pub loop-i-preserved-in-0 : goal.loop-i-preserved-in-0
loop-i-preserved-in-0 c = more c.loop-i.invariant c.loop-i-test.true refl (take_turn _ _ _ _ _ _ refl c.take-taken.result c.in-0.is (lent_part c.args.calls.now (call_size * c.loop-i.i)) c.take-taken.ensures.outcome c.take_weight-sum.ensures)

pub loop-i-preserved-in-1 : goal.loop-i-preserved-in-1
loop-i-preserved-in-1 c = more c.loop-i.invariant c.loop-i-test.true (search rules) (request_turn _ _ _ _ _ _ refl c.request-requested.result c.in-1.is (lent_part c.args.calls.now (call_size * c.loop-i.i)) c.from-ticks.ensures c.request-requested.ensures.outcome c.write_weight-sum.ensures)

pub loop-i-preserved-in-2 : goal.loop-i-preserved-in-2
loop-i-preserved-in-2 c = more c.loop-i.invariant c.loop-i-test.true refl (cancel_turn _ _ _ _ _ _ refl c.cancel-cancelled.result c.in-2.is c.cancel-cancelled.ensures.outcome c.cancel_weight-sum.ensures)

pub loop-i-preserved-in-3 : goal.loop-i-preserved-in-3
loop-i-preserved-in-3 c = more c.loop-i.invariant c.loop-i-test.true refl (tick_turn _ _ _ _ _ _ refl c.tick-ticked.result c.in-3.is c.tick-ticked.ensures.outcome c.tick_weight-sum.ensures)

pub loop-i-preserved-in-5 : goal.loop-i-preserved-in-5
loop-i-preserved-in-5 c = more c.loop-i.invariant c.loop-i-test.true (search rules) (store_turn _ _ _ _ _ _ refl c.store.result c.in-5.is c.store.ensures.outcome c.write_weight-sum-in-5.ensures)

pub loop-i-preserved-in-6 : goal.loop-i-preserved-in-6
loop-i-preserved-in-6 c = more c.loop-i.invariant c.loop-i-test.true refl (restore_turn _ _ _ _ _ _ refl c.restore-restored.result c.in-6.is c.restore-restored.ensures.outcome c.restore_weight-sum.ensures)

pub loop-i-preserved : goal.loop-i-preserved
loop-i-preserved c = more c.loop-i.invariant c.loop-i-test.true (search rules) (list_turn _ _ _ _ _ _ refl c.list.result (search rules) (search rules) (search rules) (search rules) (search rules) (search rules) c.list.ensures.outcome c.write_weight-sum-in_default.ensures)
