-- `replay_render::put_restored_line` meets its contract.
use Rattle.replay_fields.proofs.PartsLaws.{answer_out}
use Rattle.replay_render.specs.AnswerLines.{restored_text}
use Rattle.replay_render.proofs.put_restored_line.Goals as goal

pub returns-in-Ok : goal.returns-in-Ok
unfolding restored_text
returns-in-Ok c = rw c.in-Ok.is (answer_out tt c.word.ensures.put)

pub returns-in-None : goal.returns-in-None
unfolding restored_text
returns-in-None c = rw (c.in-Err.is, c.in-None.is) (answer_out tt c.put_refused.ensures.put)
