-- `store::put_pad` meets its contract: the fields in order, each with the byte after it, and then the indexes.
use mathlib.Core.Path.{sym}
use native.Mathlib.Omega.{arith}
use Rattle.text.proofs.PuttingLaws.{out_at_most, same_out, then_out}
use Rattle.store.specs.Stores.{pad_most}
use Rattle.store.proofs.StoresLaws.{pad_line_law}
use Rattle.store.proofs.put_pad.Goals as goal

pub returns : goal.returns
returns c =
    out_at_most pad_most (omega arith) (same_out (sym (pad_line_law c.args.number c.args.port.now)) (then_out c.small.ensures.put (then_out c.byte.ensures.put (then_out c.hex.ensures.put (then_out c.byte-2.ensures.put (then_out c.serial.ensures.put (then_out c.byte-3.ensures.put (then_out c.hex-2.ensures.put (then_out c.byte-4.ensures.put (then_out c.version.ensures.put (then_out c.each.ensures.put c.byte-5.ensures.put)))))))))))
