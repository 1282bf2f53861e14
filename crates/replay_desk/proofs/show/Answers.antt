-- `replay_desk::show` meets its contract.
use Rattle.std.specs.Prelude.{refl}
use Rattle.replay_desk.proofs.ShownLaws.{shown}
use Rattle.replay_desk.proofs.show.Goals as goal

pub returns : goal.returns
returns g c = λ text most h puts. shown c.requires.room h refl (puts _ _ _ c.put.ensures)
