-- `hidpp::take_unasked` meets its contract.
use Rattle.std.proofs.Common.{refl, ◌∙◌}
use Rattle.port.specs.Answers.{stray, plain}
use Rattle.hidpp.proofs.HidppTakingLaws.{above_stray, between_plain, below_feature, carry}
use Rattle.hidpp.proofs.take_unasked.Goals as goal

pub returns-then-m-lt-SUB_IDS : goal.returns-then-m-lt-SUB_IDS
returns-then-m-lt-SUB_IDS c = c.take_feature.ensures ∙ below_feature _ _ c.if-m-lt-SUB_IDS.true

pub returns-then-m-lt-REGISTERS : goal.returns-then-m-lt-REGISTERS
returns-then-m-lt-REGISTERS c = c.unchanged.ensures ∙ carry plain c.about_itself.ensures refl ∙ between_plain _ _ c.if-m-lt-SUB_IDS.false c.if-m-lt-REGISTERS.true

pub returns-else-m-lt-REGISTERS : goal.returns-else-m-lt-REGISTERS
returns-else-m-lt-REGISTERS c = c.unchanged-else-m-lt-REGISTERS.ensures ∙ carry stray c.about_itself-else-m-lt-REGISTERS.ensures refl ∙ above_stray _ _ c.if-m-lt-REGISTERS.false
