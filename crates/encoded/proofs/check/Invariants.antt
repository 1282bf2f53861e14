-- `encoded::check` meets its contract. The loop's state is `Checking`: what is left of the encoded decodes to what is left of the whole.
use Rattle.std.proofs.Common.{length}
use Rattle.encoded.proofs.CheckLaws.{Checking}
use Rattle.encoded.proofs.check.Given as goal

abbrev pub invariant-loop-left : goal.invariant-loop-left
invariant-loop-left l = Checking l.encoded l.initial.room l.left l.room l.size

abbrev pub decreases-loop-left : goal.decreases-loop-left
decreases-loop-left l = length l.left
