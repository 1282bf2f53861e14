-- `replay_desk::take` meets its contract.
use mathlib.Core.List.{[]}
use mathlib.Core.Path.{ap}
use lib.Dec.{lit≤}
use Rattle.port.specs.PortContracts.{taken_of}
use Rattle.station.specs.StationTaking.{TakeOutcome}
use Rattle.sequence.specs.Steps as steps
use Rattle.replay_fields.specs.AnswerFields.{answer_most}
use Rattle.replay_taken.specs.TakenLines.{taken_text}
use Rattle.replay_desk.specs.LineAnswers.{call_text, stepped}
use Rattle.replay_desk.proofs.ShownLaws.{re_shown}
use Rattle.replay_desk.proofs.take.Goals as goal

pub returns : goal.returns
unfolding steps.step call_text
returns c =
    re_shown (ap (λ (o : TakeOutcome). stepped (steps.take_step [] o)) c.take.ensures.outcome) (c.show.ensures (λ answer. taken_text (taken_of answer)) answer_most (lit≤ tt) (λ o o₁ x put. put))
