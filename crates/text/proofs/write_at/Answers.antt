-- `text::write_at` meets its contract: the whole text at its offset, or 10.
use mathlib.Core.Path.{refl, sym, ◌∙◌}
use Rattle.frame.proofs.WritingLaws.{no_room_law}
use Rattle.text.proofs.WritingTextLaws.{put_placed}
use Rattle.text.proofs.write_at.Goals as goal

pub returns-then-not-fits : goal.returns-then-not-fits
returns-then-not-fits c = record {
  written = no_room_law c.args.bytes.now c.args.buffer.now c.args.offset _ refl (sym c.fits.ensures.fitting ∙ c.if-not-fits.true);
}

pub returns : goal.returns
returns c = record {
  written = put_placed c.args.bytes.now c.args.buffer.now c.args.offset (sym c.fits.ensures.fitting ∙ c.if-not-fits.false) c.put_front.ensures;
}
