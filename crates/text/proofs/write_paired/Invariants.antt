-- `text::write_paired` meets its contract. The loop puts the line of each paired device.
use Prim.Native.Nat.{ℕ, ◌+◌}
use lib.ListN.{length}
use Rattle.port.specs.declared.Port.{Port}
use Rattle.text.specs.Texts.{paired_text}
use Rattle.text.proofs.EachLaws.{Outputting}
use Rattle.text.proofs.write_paired.Given as goal

abbrev pub invariant-loop-i : goal.invariant-loop-i
invariant-loop-i g l =
    Outputting (λ (position : ℕ) (p : Port). paired_text (g.L.PutLine.line l.line) (position + 1) p) (g.L.PutLine.most l.line) (length l.port-items) l.port-items l.initial.out l.out l.i
