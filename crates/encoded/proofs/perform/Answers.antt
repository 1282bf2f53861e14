-- `encoded::perform` meets its contract. The loop's state is `Running`: the calls that are left, run from this station, come to what the rule gives.
use Rattle.std.proofs.Common.{arith}
use Rattle.encoded.proofs.PerformLaws.{bounds, finished}
use Rattle.encoded.proofs.perform.Goals as goal

pub overflow_add-part : goal.overflow_add-part
overflow_add-part c = omega (arith, bounds c.loop-block.invariant c.in-Some.ensures.first, c.lent_size.ensures.size)

pub slice_bounds-call-end : goal.slice_bounds-call-end
slice_bounds-call-end c = omega (arith, bounds c.loop-block.invariant c.in-Some.ensures.first, c.lent_size.ensures.size)

pub slice_bounds-copy_from_slice-end : goal.slice_bounds-copy_from_slice-end
slice_bounds-copy_from_slice-end c = omega (arith, bounds c.loop-block.invariant c.in-Some.ensures.first)

pub returns : goal.returns
returns c = finished c.loop-block.invariant c.in_default.ensures.first
