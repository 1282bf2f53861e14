-- `replay_taken::put_carried` meets its contract.
use Rattle.text.proofs.PuttingLaws.{then_out}
use Rattle.replay_taken.proofs.put_carried.Goals as goal

pub returns : goal.returns
returns g c = λ text most puts. then_out c.word.ensures.put (then_out c.put_about.ensures (then_out (puts _ _ c.rest.ensures) c.byte.ensures.put))
