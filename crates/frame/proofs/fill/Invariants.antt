-- The loop of `frame::fill`: of the rest, the first i bytes follow the head.
use Rattle.frame.proofs.FillingLaws.{Filling}
use Rattle.frame.proofs.fill.Given as goal

abbrev pub invariant-loop-i : goal.invariant-loop-i
invariant-loop-i l = Filling l.initial.part l.rest l.part l.i
