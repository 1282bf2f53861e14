-- `replay_render::put_reading_line` meets its contract.
use Rattle.replay_fields.proofs.PartsLaws.{answer_out}
use Rattle.replay_render.specs.AnswerLines.{reading_text}
use Rattle.replay_render.proofs.put_reading_line.Goals as goal

pub returns-in-Ok-Hidpp : goal.returns-in-Ok-Hidpp
unfolding reading_text
returns-in-Ok-Hidpp c = rw (c.in-Ok-Hidpp.is, rw c.in-Ok-Hidpp.is at c.in-Ok-Hidpp.field-0-is) c.put_report.ensures

pub returns-in-Ok-Dj : goal.returns-in-Ok-Dj
unfolding reading_text
returns-in-Ok-Dj c = rw (c.in-Ok-Dj.is, rw c.in-Ok-Dj.is at c.in-Ok-Dj.field-0-is) c.put_dj.ensures

pub returns-in-Ok-EmptyList : goal.returns-in-Ok-EmptyList
unfolding reading_text
returns-in-Ok-EmptyList c = rw (c.in-Ok-EmptyList.is, rw c.in-Ok-EmptyList.is at c.in-Ok-EmptyList.field-0-is) c.put_dj-in-Ok-EmptyList.ensures

pub returns-in-Err : goal.returns-in-Err
unfolding reading_text
returns-in-Err c = rw c.in-Err.is (answer_out tt c.put_refused.ensures.put)
