-- `replay_render::whole` meets its contract.
use Rattle.text.proofs.PuttingLaws.{out_with_room, out_without_room}
use Rattle.replay_render.proofs.whole.Goals as goal

pub returns-then-has_room : goal.returns-then-has_room
returns-then-has_room g c = record {
  whole = λ text puts. out_with_room (puts _ _ c.put.ensures) c.has_room.ensures.room c.if-has_room.true;
}

pub returns-else-has_room : goal.returns-else-has_room
returns-else-has_room g c = record {
  whole = λ text puts. out_without_room _ text _ c.has_room.ensures.room c.if-has_room.false;
}
