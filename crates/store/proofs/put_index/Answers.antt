-- `store::put_index` meets its contract.
use Rattle.text.proofs.PuttingLaws.{then_out}
use Rattle.store.proofs.put_index.Goals as goal

pub returns : goal.returns
returns c = then_out c.byte.ensures.put c.small.ensures.put
