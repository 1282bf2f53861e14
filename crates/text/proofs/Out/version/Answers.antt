-- `text::Out::version` meets its contract: major, point, minor.
use Rattle.text.proofs.PuttingLaws.{then_out}
use Rattle.text.specs.Texts.{version_text}
use Rattle.text.proofs.Out.version.Goals as goal

pub returns-in-Some : goal.returns-in-Some
unfolding version_text
returns-in-Some c =
    rw c.in-Some.is record {
      put = then_out c.small.ensures.put (then_out c.byte-in-Some.ensures.put c.small-in-Some.ensures.put);
    }
