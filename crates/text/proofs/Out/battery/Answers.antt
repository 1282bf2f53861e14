-- `text::Out::battery` meets its contract: level, next and status with commas between them.
use Rattle.text.proofs.PuttingLaws.{then_out}
use Rattle.text.specs.Texts.{battery_text}
use Rattle.text.proofs.Out.battery.Goals as goal

pub returns-in-Some : goal.returns-in-Some
unfolding battery_text
returns-in-Some c =
    rw c.in-Some.is record {
      put = then_out c.small.ensures.put (then_out c.byte-in-Some.ensures.put (then_out c.small-in-Some.ensures.put (then_out c.byte-in-Some-2.ensures.put c.small-in-Some-2.ensures.put)));
    }
