-- `replay_render::put_no_call` meets its contract.
use Rattle.std.proofs.Common.{rules}
use Rattle.replay_render.specs.AnswerLines.{no_call_text}
use Rattle.replay_render.proofs.put_no_call.Goals as goal

pub returns : goal.returns
returns c = record { put = c.whole.ensures.whole (no_call_text c.args.number) (λ o o₁ put. search rules) }
