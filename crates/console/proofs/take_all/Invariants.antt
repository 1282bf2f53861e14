-- `console::take_all` ends: each report is at least a byte long.
use Rattle.std.proofs.Common.{length}
use Rattle.console.proofs.take_all.Given as goal

abbrev pub decreases-loop-report : goal.decreases-loop-report
decreases-loop-report g l = length l.left
