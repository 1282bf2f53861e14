-- `scan::digits_after` meets its contract: the digits so far came to a number.
use Rattle.std.proofs.Common.{arith}
use Rattle.scan.proofs.ScansLaws.{run_small, run_ended}
use Rattle.scan.proofs.digits_after.Goals.{in_default, in_default-2, in_default-3}
use Rattle.scan.proofs.digits_after.Goals as goal

pub grown-value-requires-clause-value : goal.grown-value-requires-clause-value
grown-value-requires-clause-value c = run_small c.loop-after.invariant

pub returns : goal.returns
returns c = run_ended c.loop-after.invariant (elim c.if-after-lt1.branch [ in_default w ↦ λ h l. omega arith | in_default-2 w ↦ λ h l. omega arith | in_default-3 w ↦ λ h l. omega arith ])
