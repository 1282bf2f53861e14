-- `replay_desk::restore` meets its contract.
use mathlib.Core.List.{[]}
use mathlib.Core.Path.{ap}
use lib.Dec.{lit≤}
use Rattle.restore.specs.RestoreContracts.{restored_of}
use Rattle.station.specs.StationCalls.{RestoreOutcome}
use Rattle.sequence.specs.Steps as steps
use Rattle.replay_fields.specs.AnswerFields.{answer_most}
use Rattle.replay_render.specs.AnswerLines.{restored_text}
use Rattle.replay_desk.specs.LineAnswers.{call_text, stepped}
use Rattle.replay_desk.proofs.ShownLaws.{re_shown}
use Rattle.replay_desk.proofs.restore.Goals as goal

pub returns : goal.returns
unfolding steps.step call_text
returns c =
    re_shown (ap (λ (o : RestoreOutcome). stepped (steps.restore_step [] o)) c.restore.ensures.outcome) (c.show.ensures (λ answer. restored_text (restored_of answer)) answer_most (lit≤ tt) (λ o o₁ x put. put))
