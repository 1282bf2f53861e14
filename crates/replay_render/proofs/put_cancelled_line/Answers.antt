-- `replay_render::put_cancelled_line` meets its contract.
use Rattle.replay_fields.proofs.PartsLaws.{answer_out}
use Rattle.replay_render.specs.AnswerLines.{cancelled_text}
use Rattle.replay_render.proofs.put_cancelled_line.Goals as goal

pub returns-in-Ok : goal.returns-in-Ok
unfolding cancelled_text
returns-in-Ok c = rw c.in-Ok.is (answer_out tt c.word.ensures.put)

pub returns-in-Err : goal.returns-in-Err
unfolding cancelled_text
returns-in-Err c = rw c.in-Err.is (answer_out tt c.put_refused.ensures.put)
