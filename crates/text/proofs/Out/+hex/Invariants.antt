-- `text::Out::hex` meets its contract, by the width.
use Rattle.text.proofs.Out.+hex.Given as goal

abbrev pub decreases-hex : goal.decreases-hex
decreases-hex l = l.width
