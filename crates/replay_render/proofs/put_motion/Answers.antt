-- `replay_render::put_motion` meets its contract: a signed number is read back from its bits.
use Rattle.std.proofs.Common.{rules, w8, w16}
use mir.Val.{SFits}
use Rattle.text.proofs.PuttingLaws.{then_out}
use Rattle.replay_fields.proofs.PartsLaws.{answer_out}
use Rattle.replay_fields.proofs.Signs.{from_bits, from_few_bits}
use Rattle.replay_render.specs.AnswerLines.{moved_text}
use Rattle.replay_render.proofs.put_motion.Goals as goal

pub returns : goal.returns
unfolding moved_text
returns c =
    let m = c.args.motion in
    let x : SFits w16 m.x = search rules in
    let y : SFits w16 m.y = search rules in
    let wheel : SFits w8 m.wheel = search rules in
    let pan : SFits w8 m.pan = search rules in
    answer_out tt (then_out c.word.ensures.put (then_out c.hex.ensures.put (then_out c.word-2.ensures.put (then_out (from_bits m.x x c.put_signed.ensures.put) (then_out c.word-3.ensures.put (then_out (from_bits m.y y c.put_signed-2.ensures.put) (then_out c.word-4.ensures.put (then_out (from_few_bits m.wheel wheel c.put_signed-3.ensures.put) (then_out c.word-5.ensures.put (then_out (from_few_bits m.pan pan c.put_signed-4.ensures.put) c.byte.ensures.put))))))))))
