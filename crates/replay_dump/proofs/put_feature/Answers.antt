-- `replay_dump::put_feature` meets its contract.
use Rattle.text.proofs.PuttingLaws.{then_out}
use Rattle.replay_dump.proofs.put_feature.Goals as goal

pub returns : goal.returns
returns c = then_out c.put_comma.ensures.put c.small.ensures.put
