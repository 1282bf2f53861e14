-- `encoded::perform` meets its contract. The loop's state is `Running`: the calls that are left, run from this station, come to what the rule gives.
use Rattle.std.proofs.Common.{length}
use Rattle.encoded.proofs.PerformLaws.{Running}
use Rattle.encoded.proofs.perform.Given as goal

abbrev pub invariant-loop-block : goal.invariant-loop-block
invariant-loop-block l = Running l.fn.station l.encoded l.fn.arena l.fn.answers l.next l.left l.lent l.size l.arena l.answers

abbrev pub decreases-loop-block : goal.decreases-loop-block
decreases-loop-block l = length l.left
