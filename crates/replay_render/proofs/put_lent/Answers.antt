-- `replay_render::put_lent` meets its contract.
use Rattle.text.proofs.PuttingLaws.{then_out}
use Rattle.replay_render.proofs.put_lent.Goals as goal

pub returns : goal.returns
returns c = then_out c.byte.ensures.put c.put_code.ensures.put
