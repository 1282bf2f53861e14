-- `text::Out::each` meets its contract. The loop puts the text of each element.
use mathlib.Core.Path.{refl}
use Rattle.text.proofs.EachLaws.{out_begun, out_each, out_done}
use Rattle.text.proofs.Out.each.Goals as goal

pub loop-i-init : goal.loop-i-init
loop-i-init g c = out_begun _ _ _ _ _

pub loop-i-preserved : goal.loop-i-preserved
loop-i-preserved g c =
    out_each c.loop-i.invariant _ c.loop-i-test.true c.loop-i-test.true c.index-elements-i.is c.put.ensures

pub returns : goal.returns
returns g c = record { put = out_done c.loop-i.invariant refl c.loop-i-test.false }
