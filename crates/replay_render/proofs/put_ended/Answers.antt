-- `replay_render::put_ended` meets its contract.
use Rattle.std.proofs.Common.{rules}
use Rattle.replay_render.specs.AnswerLines.{ended_text}
use Rattle.replay_render.proofs.put_ended.Goals as goal

pub returns : goal.returns
returns c = record { put = c.whole.ensures.whole (ended_text c.args.counts) (λ o o₁ put. search rules) }
