-- `restore::scan_indexes` meets its contract: the first i indexes have been read.
use Rattle.std.proofs.Common.{arith, ◌∙◌, length-set}
use Rattle.restore.proofs.RestoringLaws.{index_read}
use Rattle.restore.proofs.scan_indexes.Goals as goal

pub loop-i-preserved : goal.loop-i-preserved
loop-i-preserved c = record {
  all = length-set c.loop-i.features c.loop-i.i _ ∙ c.loop-i.invariant.all;
  so = index_read _ _ c.loop-i.features c.loop-i.invariant.so c.stop_after.ensures (omega arith) c.in_ok-index.ensures.found;
}
