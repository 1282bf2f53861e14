-- `replay_render::put_written` meets its contract.
use Rattle.std.specs.Prelude.{refl}
use Rattle.std.proofs.Common.{rules, arith}
use Rattle.std.proofs.lemmas.Bool.{lt-leb}
use Rattle.frame.specs.FrameContracts.{written_of}
use Rattle.text.proofs.PuttingLaws.{out_without_room}
use Rattle.replay_render.specs.AnswerLines.{written_text}
use Rattle.replay_render.proofs.put_written.Goals as goal

pub returns-in-Some : goal.returns-in-Some
returns-in-Some c = record {
  put = rw c.in-Some.ensures.some at (c.whole.ensures.whole (written_text (written_of c.args.answer) c.args.lent.now) (λ o o₁ put. rw c.in-Some.ensures.some (search rules)));
}

pub returns-in_default : goal.returns-in_default
returns-in_default c = record { put = out_without_room _ _ _ refl (lt-leb _ _ (omega (arith, c.in_default.ensures.none))) }
