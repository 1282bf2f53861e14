-- `replay_desk::make` meets its contract.
use mathlib.Core.Path.{ap}
use Rattle.frame.specs.Writing.{WriteOutcome}
use Rattle.sequence.specs.Steps as steps
use Rattle.replay_desk.specs.LineAnswers.{call_text, stepped, writer_step}
use Rattle.replay_desk.specs.DeskContracts.{written_by}
use Rattle.replay_desk.proofs.make.Goals as goal

pub returns-in-Request : goal.returns-in-Request
unfolding writer_step steps.step call_text
returns-in-Request c = rw c.in-Request.is (ap written_by c.request.ensures.outcome)

pub returns-in-Switch : goal.returns-in-Switch
unfolding writer_step steps.step call_text
returns-in-Switch c = rw c.in-Switch.is (ap (λ (o : WriteOutcome). stepped (steps.write_step c.args.station o)) c.switch-answer.ensures.outcome)

pub returns-in-GetPaired : goal.returns-in-GetPaired
unfolding writer_step steps.step call_text
returns-in-GetPaired c = rw c.in-GetPaired.is (ap (λ (o : WriteOutcome). stepped (steps.write_step c.args.station o)) c.get_paired-answer.ensures.outcome)

pub returns-in-Led : goal.returns-in-Led
unfolding writer_step steps.step call_text
returns-in-Led c = rw c.in-Led.is (ap (λ (o : WriteOutcome). stepped (steps.write_step c.args.station o)) c.led-answer.ensures.outcome)

pub returns-in-List : goal.returns-in-List
unfolding writer_step steps.step call_text
returns-in-List c = rw c.in-List.is (ap (λ (o : WriteOutcome). stepped (steps.write_step c.args.station o)) c.list-answer.ensures.outcome)

pub returns-in-Store : goal.returns-in-Store
unfolding writer_step steps.step call_text
returns-in-Store c = rw c.in-Store.is (ap (λ (o : WriteOutcome). stepped (steps.write_step c.args.station o)) c.store-answer.ensures.outcome)

pub returns-in-Frame : goal.returns-in-Frame
unfolding writer_step steps.step call_text
returns-in-Frame c = rw c.in-Frame.is (ap (λ (o : WriteOutcome). stepped (steps.write_step c.args.station o)) c.request_frame-answer.ensures.outcome)
