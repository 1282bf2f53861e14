-- `restore::read_store` meets its contract.
use Rattle.std.proofs.Common.{ap, ◌∙◌}
use Rattle.restore.specs.Restoring.{restored_by, read_store, edition_scan}
use Rattle.restore.proofs.RestoringLaws.{edition_same}
use Rattle.restore.proofs.read_store.Goals as goal

pub returns : goal.returns
unfolding read_store
returns c = λ ports. c.read_devices.ensures ports ∙ ap (restored_by ports) (edition_same (edition_scan c.args.text.now) c.in-Some.ensures c.if-edition-ne-EDITION.false)
