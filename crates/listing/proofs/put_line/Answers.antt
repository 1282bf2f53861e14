-- `listing::put_line` meets its contract: the fields in order, each with the byte after it.
use mathlib.Core.Path.{ap}
use Rattle.text.specs.Words.{decimal}
use Rattle.text.proofs.PuttingLaws.{same_out, then_out}
use Rattle.listing.specs.Listing.{device_line}
use Rattle.listing.proofs.put_line.Goals as goal

pub returns : goal.returns
unfolding device_line
returns c =
    then_out c.small.ensures.put (then_out c.byte.ensures.put (then_out c.hex.ensures.put (then_out c.byte-2.ensures.put (then_out c.hex-2.ensures.put (then_out c.byte-3.ensures.put (then_out c.link.ensures.put (then_out c.byte-4.ensures.put (then_out c.version.ensures.put (then_out c.byte-5.ensures.put (then_out c.battery.ensures.put (then_out c.byte-6.ensures.put (then_out (same_out (ap decimal c.count_waiting.ensures.count) c.small-2.ensures.put) c.byte-7.ensures.put))))))))))))
