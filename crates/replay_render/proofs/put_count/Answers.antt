-- `replay_render::put_count` meets its contract.
use Rattle.text.proofs.PuttingLaws.{then_out}
use Rattle.replay_render.proofs.put_count.Goals as goal

pub returns : goal.returns
returns c = then_out c.byte.ensures.put c.small.ensures.put
