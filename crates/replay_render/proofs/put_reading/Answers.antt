-- `replay_render::put_reading` meets its contract.
use Rattle.std.proofs.Common.{rules}
use Rattle.report.specs.ReportContracts.{reading_of}
use Rattle.replay_render.specs.AnswerLines.{reading_text}
use Rattle.replay_render.proofs.put_reading.Goals as goal

pub returns : goal.returns
returns c = record { put = c.whole.ensures.whole (reading_text (reading_of c.args.answer)) (λ o o₁ put. search rules) }
