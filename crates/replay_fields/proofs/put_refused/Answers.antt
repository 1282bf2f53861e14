-- `replay_fields::put_refused` meets its contract: the number of the refusal.
use mathlib.Core.Path.{ap}
use Rattle.text.proofs.PuttingLaws.{same_out, then_out}
use Rattle.replay_fields.specs.AnswerFields.{refused_text}
use Rattle.replay_fields.proofs.put_refused.Goals as goal

pub returns : goal.returns
unfolding refused_text
returns c = record {
  put = same_out (ap refused_text c.from.ensures) (then_out c.word.ensures.put (then_out c.small.ensures.put c.byte.ensures.put));
}
