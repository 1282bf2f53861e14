-- `text::Out::each` meets its contract. The loop puts the text of each element.
use lib.ListN.{length}
use Rattle.text.proofs.EachLaws.{Outputting}
use Rattle.text.proofs.Out.each.Given as goal

abbrev pub invariant-loop-i : goal.invariant-loop-i
invariant-loop-i g l =
    Outputting (g.P.PutElement.text l.by) (g.P.PutElement.most l.by) (length l.elements) l.elements l.fn.self l.self l.i
