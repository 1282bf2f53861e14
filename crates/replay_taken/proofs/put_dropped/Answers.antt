-- `replay_taken::put_dropped` meets its contract.
use Rattle.text.proofs.PuttingLaws.{then_out}
use Rattle.replay_taken.proofs.put_dropped.Goals as goal

pub returns : goal.returns
returns c = then_out c.word.ensures.put c.small.ensures.put
