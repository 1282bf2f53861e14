-- `scan::scan_digits` meets its contract: the first digits came to a value.
use Rattle.scan.proofs.ScansLaws.{digit_room}
use Rattle.scan.proofs.scan_digits.Goals as goal

pub digit_more-requires : goal.digit_more-requires
digit_more-requires c = digit_room _ _ _ c.loop.invariant.small c.loop-test.true c.requires
