-- The loop of `text::put_front`: the bytes so far are put.
use lib.ListN.{length}
use Rattle.text.proofs.EachLaws.{Outputting, letter}
use Rattle.text.proofs.put_front.Given as goal

abbrev pub invariant-loop-byte : goal.invariant-loop-byte
invariant-loop-byte l = Outputting letter 1 (length l.word) l.word l.initial.out l.out l.byte-index
