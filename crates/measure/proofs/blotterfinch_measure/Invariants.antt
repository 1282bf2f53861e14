-- `measure::blotterfinch_measure`: the loop's state is `Running`, what the first i calls have come to.
use Rattle.measure.proofs.MeasuredCallsLaws.{Running}
use Rattle.measure.proofs.blotterfinch_measure.Given as goal

abbrev pub invariant-loop-i : goal.invariant-loop-i
invariant-loop-i l = Running l.calls l.text l.initial.buffer l.buffer l.s l.sum l.i
