-- `replay_taken::put_error` meets its contract.
use Rattle.std.proofs.Common.{ap}
use Rattle.text.proofs.PuttingLaws.{same_out, then_out}
use Rattle.replay_fields.specs.AnswerFields.{byte_text}
use Rattle.replay_taken.proofs.put_error.Goals as goal

pub returns : goal.returns
returns c =
    then_out c.word.ensures.put (then_out c.put_code.ensures.put (then_out c.word-2.ensures.put (same_out (ap byte_text c.from.ensures) c.put_code-2.ensures.put)))
