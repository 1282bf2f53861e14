-- `restore::scan_indexes` meets its contract: the first i indexes have been read.
use Rattle.std.proofs.Common.{◌≡◌, length, take}
use Rattle.port.specs.Records.{feature_count}
use Rattle.scan.specs.Scans.{found}
use Rattle.restore.specs.Restoring.{indexes_scan}
use Rattle.restore.proofs.scan_indexes.Given as goal

abbrev pub invariant-loop-i : goal.invariant-loop-i
invariant-loop-i l = record {
  all : length l.features ≡ feature_count;
  so : found (take l.i l.features) l.rest ≡ indexes_scan l.i l.text;
}
