-- `frame::write_at` meets its contract: what `fill` leaves of the part is what `pasted` gives of the whole.
use Rattle.std.proofs.Common.{◌≡◌, ◌+◌, length, sym, ◌∙◌, arith}
use Rattle.frame.specs.FrameContracts.{head_size, framed}
use Rattle.frame.proofs.WritingLaws.{placed, no_room_law}
use Rattle.frame.proofs.write_at.Goals as goal

pub returns-then-not-fits : goal.returns-then-not-fits
returns-then-not-fits c =
    let sized : head_size + length c.args.rest.now ≡ length (framed c.args.head c.args.rest.now) = omega arith in
    no_room_law (framed c.args.head c.args.rest.now) c.args.buffer.now c.args.offset _ sized (sym c.fits.ensures.fitting ∙ c.if-not-fits.true)

pub returns : goal.returns
returns c =
    let sized : head_size + length c.args.rest.now ≡ length (framed c.args.head c.args.rest.now) = omega arith in
    placed (framed c.args.head c.args.rest.now) c.args.buffer.now c.fill.new.part c.args.offset _ sized (sym c.fits.ensures.fitting ∙ c.if-not-fits.false) c.fill.ensures
