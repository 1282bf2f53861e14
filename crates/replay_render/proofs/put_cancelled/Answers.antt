-- `replay_render::put_cancelled` meets its contract.
use Rattle.std.proofs.Common.{rules}
use Rattle.port.specs.PortContracts.{cancel_of}
use Rattle.replay_render.specs.AnswerLines.{cancelled_text}
use Rattle.replay_render.proofs.put_cancelled.Goals as goal

pub returns : goal.returns
returns c = record { put = c.whole.ensures.whole (cancelled_text (cancel_of c.args.answer)) (λ o o₁ put. search rules) }
