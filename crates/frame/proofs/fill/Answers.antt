-- `frame::fill` meets its contract. The loop's state is `Filling`: of the rest, the first i bytes follow the head. One proof serves every length.
use Rattle.frame.proofs.FillingLaws.{more, finished}
use Rattle.frame.proofs.fill.Goals as goal

pub loop-i-preserved : goal.loop-i-preserved
loop-i-preserved c = more c.loop-i.invariant c.loop-i-test.true

pub returns : goal.returns
returns c = finished _ _ _ _ _ _ _ _ c.loop-i.invariant c.loop-i-test.false
