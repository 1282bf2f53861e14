-- `scan::digits_after` meets its contract: the digits so far came to a number.
use Rattle.std.proofs.Common.{length}
use Rattle.scan.proofs.ScansLaws.{Running}
use Rattle.scan.proofs.digits_after.Given as goal

abbrev pub invariant-loop-after : goal.invariant-loop-after
invariant-loop-after l = Running l.text l.value l.after

abbrev pub decreases-loop-after : goal.decreases-loop-after
decreases-loop-after l = length l.after
