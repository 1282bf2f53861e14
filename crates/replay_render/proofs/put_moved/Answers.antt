-- `replay_render::put_moved` meets its contract.
use Rattle.std.proofs.Common.{rules}
use Rattle.mouse.specs.MouseContracts.{moved_of}
use Rattle.replay_render.specs.AnswerLines.{moved_text}
use Rattle.replay_render.proofs.put_moved.Goals as goal

pub returns : goal.returns
returns c = record { put = c.whole.ensures.whole (moved_text (moved_of c.args.answer)) (λ o o₁ put. search rules) }
