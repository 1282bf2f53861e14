-- `replay_desk::tick` meets its contract.
use mathlib.Core.Path.{ap}
use lib.Dec.{lit≤}
use Rattle.station.specs.StationCalls.{TickOutcome}
use Rattle.sequence.specs.Steps as steps
use Rattle.replay_fields.specs.AnswerFields.{answer_most}
use Rattle.replay_render.specs.AnswerLines.{ended_text}
use Rattle.replay_desk.specs.LineAnswers.{call_text, stepped}
use Rattle.replay_desk.proofs.ShownLaws.{re_shown}
use Rattle.replay_desk.proofs.tick.Goals as goal

pub returns : goal.returns
unfolding steps.step call_text
returns c =
    re_shown (ap (λ (o : TickOutcome). stepped (steps.tick_step o)) c.tick.ensures.outcome) (c.show.ensures ended_text answer_most (lit≤ tt) (λ o o₁ x put. put))
