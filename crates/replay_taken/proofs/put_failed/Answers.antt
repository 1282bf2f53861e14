-- `replay_taken::put_failed` meets its contract.
use Rattle.std.specs.Prelude.{◌++◌, ◌+◌}
use Rattle.std.proofs.Common.{rules}
use Rattle.text.specs.Words.{hex}
use Rattle.text.specs.Texts.{digits8}
use Rattle.port.specs.PortContracts.{kind_number}
use Rattle.replay_fields.specs.AnswerFields.{field, field_most, byte_text}
use Rattle.replay_fields.proofs.PartsLaws.{answer_out}
use Rattle.replay_taken.specs.TakenLines.{taken_text}
use Rattle.replay_taken.proofs.put_failed.Goals as goal

pub returns : goal.returns
unfolding taken_text hex
returns c =
    answer_out tt (c.put_carried.ensures (field "code" (byte_text c.args.code) ++ field "kind" (byte_text (kind_number c.args.kind))) (field_most "code" digits8 + field_most "kind" digits8) (λ o o₁ put. search rules))
