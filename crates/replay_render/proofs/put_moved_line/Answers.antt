-- `replay_render::put_moved_line` meets its contract.
use Rattle.replay_fields.proofs.PartsLaws.{answer_out}
use Rattle.replay_render.specs.AnswerLines.{moved_text}
use Rattle.replay_render.proofs.put_moved_line.Goals as goal

pub returns-in-Ok : goal.returns-in-Ok
returns-in-Ok c = rw c.in-Ok.is c.put_motion.ensures

pub returns-in-Err : goal.returns-in-Err
unfolding moved_text
returns-in-Err c = rw c.in-Err.is (answer_out tt c.put_refused.ensures.put)
