-- `replay_taken::put_answer_line` meets its contract.
use Rattle.replay_fields.proofs.PartsLaws.{answer_out}
use Rattle.replay_taken.specs.TakenLines.{taken_text}
use Rattle.replay_taken.proofs.put_answer_line.Goals as goal

pub returns-in-Ok : goal.returns-in-Ok
returns-in-Ok c = rw c.in-Ok.is c.put_taken_line.ensures

pub returns-in-Err : goal.returns-in-Err
unfolding taken_text
returns-in-Err c = rw c.in-Err.is (answer_out tt c.put_refused.ensures.put)
