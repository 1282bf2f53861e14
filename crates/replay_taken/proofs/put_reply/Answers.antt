-- `replay_taken::put_reply` meets its contract.
use Rattle.std.proofs.Common.{rules}
use Rattle.text.specs.Words.{decimal}
use Rattle.text.specs.Texts.{byte_most}
use Rattle.replay_fields.specs.AnswerFields.{field, field_most}
use Rattle.replay_fields.proofs.PartsLaws.{answer_out}
use Rattle.replay_taken.specs.TakenLines.{taken_text}
use Rattle.replay_taken.proofs.put_reply.Goals as goal

pub returns : goal.returns
unfolding taken_text
returns c =
    answer_out tt (c.put_carried.ensures (field "dropped" (decimal c.args.dropped)) (field_most "dropped" byte_most) (λ o o₁ put. search rules))
