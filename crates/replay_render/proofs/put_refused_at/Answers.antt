-- `replay_render::put_refused_at` meets its contract: the number of the refusal, and that of the line.
use mathlib.Core.Path.{ap}
use Rattle.text.specs.Words.{decimal}
use Rattle.text.proofs.PuttingLaws.{same_out, then_out}
use Rattle.replay_fields.proofs.PartsLaws.{answer_out}
use Rattle.replay_render.specs.AnswerLines.{restored_text}
use Rattle.replay_render.proofs.put_refused_at.Goals as goal

pub returns : goal.returns
unfolding restored_text
returns c =
    answer_out tt (then_out c.word.ensures.put (then_out (same_out (ap decimal c.from.ensures) c.small.ensures.put) (then_out c.word-2.ensures.put (then_out c.small-2.ensures.put c.byte.ensures.put))))
