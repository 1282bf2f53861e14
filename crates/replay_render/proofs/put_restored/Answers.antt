-- `replay_render::put_restored` meets its contract.
use Rattle.std.proofs.Common.{rules}
use Rattle.restore.specs.RestoreContracts.{restored_of}
use Rattle.replay_render.specs.AnswerLines.{restored_text}
use Rattle.replay_render.proofs.put_restored.Goals as goal

pub returns : goal.returns
returns c = record { put = c.whole.ensures.whole (restored_text (restored_of c.args.answer)) (λ o o₁ put. search rules) }
