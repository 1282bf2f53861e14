-- `text::write_paired` meets its contract. The loop puts the line of each paired device.
use native.Mathlib.Omega.{arith}
use Rattle.text.proofs.PuttingLaws.{then_out}
use Rattle.text.proofs.EachLaws.{out_begun}
use Rattle.text.proofs.PairedLaws.{paired_each, unpaired_each, lines_out}
use Rattle.text.proofs.WritingTextLaws.{front_within, front_length, front_written, front_part}
use Rattle.text.proofs.write_paired.Goals.{then-port, else-port}
use Rattle.text.proofs.write_paired.Goals as goal

pub loop-i-init : goal.loop-i-init
loop-i-init g c = out_begun _ _ _ _ _

pub loop-i-preserved : goal.loop-i-preserved
loop-i-preserved g c = elim c.if-port.branch [ then-port w ↦ paired_each _ c.loop-i.invariant c.loop-i-test.true _ w.if-port.true w.put.ensures w.out-is | else-port w ↦ unpaired_each _ c.loop-i.invariant c.loop-i-test.true _ w.if-port.false w.out-is ]

pub slice_bounds-write_at-end : goal.slice_bounds-write_at-end
slice_bounds-write_at-end g c =
    front_within (then_out c.word.ensures.put (lines_out (g.L.PutLine.line c.args.line.now) c.args.ports.now (omega arith) c.loop-i.invariant c.loop-i-test.false)).puts

pub slice_bounds-write_at-end-2 : goal.slice_bounds-write_at-end-2
slice_bounds-write_at-end-2 g c =
    front_length (then_out c.word.ensures.put (lines_out (g.L.PutLine.line c.args.line.now) c.args.ports.now (omega arith) c.loop-i.invariant c.loop-i-test.false)).puts

pub returns : goal.returns
returns g c =
    let p = then_out c.word.ensures.put (lines_out (g.L.PutLine.line c.args.line.now) c.args.ports.now (omega arith) c.loop-i.invariant c.loop-i-test.false) in
    record {
      written = λ room. front_written p.puts room _ _ c.write_at.ensures.written;
      part = front_part p.puts _ _ c.write_at.ensures.written;
    }
