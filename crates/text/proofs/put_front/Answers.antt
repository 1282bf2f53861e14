-- `text::put_front` meets its contract. The loop puts each byte.
use mathlib.Core.Path.{refl}
use borrow.Author.Rules.{rules}
use Rattle.text.proofs.EachLaws.{letter, out_begun, out_each, out_word}
use Rattle.text.proofs.WritingTextLaws.{out_ended}
use Rattle.text.proofs.put_front.Goals as goal

pub loop-byte-init : goal.loop-byte-init
loop-byte-init c = out_begun letter _ _ _ _

pub loop-byte-preserved : goal.loop-byte-preserved
loop-byte-preserved c =
    out_each c.loop-byte.invariant 0 c.loop-byte-test.true c.loop-byte-test.true refl c.byte.ensures.put

pub returns : goal.returns
returns c = out_ended (out_word c.loop-byte.invariant c.loop-byte-test.false) (search rules)
