-- `replay_desk::cancel` meets its contract.
use mathlib.Core.Path.{ap}
use lib.Dec.{lit≤}
use Rattle.port.specs.PortContracts.{cancel_of}
use Rattle.station.specs.StationCalls.{CancelOutcome}
use Rattle.sequence.specs.Steps as steps
use Rattle.replay_fields.specs.AnswerFields.{answer_most}
use Rattle.replay_render.specs.AnswerLines.{cancelled_text}
use Rattle.replay_desk.specs.LineAnswers.{call_text, stepped}
use Rattle.replay_desk.proofs.ShownLaws.{re_shown}
use Rattle.replay_desk.proofs.cancel.Goals as goal

pub returns : goal.returns
unfolding steps.step call_text
returns c =
    re_shown (ap (λ (o : CancelOutcome). stepped (steps.cancel_step o)) c.cancel-called.ensures.outcome) (c.show.ensures (λ answer. cancelled_text (cancel_of answer)) answer_most (lit≤ tt) (λ o o₁ x put. put))
