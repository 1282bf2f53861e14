-- `replay_fields::put_signed` meets its contract: the sign below 0, then the distance from 0.
use mathlib.Core.Path.{◌∙◌}
use Rattle.replay_fields.proofs.Signs.{far, sign}
use Rattle.replay_fields.proofs.PartsLaws.{negative_out, positive_out}
use Rattle.replay_fields.proofs.put_signed.Goals.{then-n-lt0, else-n-lt0}
use Rattle.replay_fields.proofs.put_signed.Goals as goal

pub returns : goal.returns
returns c =
    let far = c.unsigned_abs.ensures.value ∙ far c.args.n c.ranges.n in
    record {
      put = elim c.if-n-lt0.branch [ then-n-lt0 w ↦ negative_out _ _ far c.unsigned_abs.ensures.bound (sign c.args.n c.ranges.n w.if-n-lt0.true) w.byte.ensures.put w.out-is c.decimal.ensures.put | else-n-lt0 w ↦ positive_out _ _ far c.unsigned_abs.ensures.bound (sign c.args.n c.ranges.n w.if-n-lt0.false) w.out-is c.decimal.ensures.put ];
    }
