-- `replay_taken::put_taken` meets its contract.
use Rattle.text.proofs.PuttingLaws.{out_with_room, out_without_room}
use Rattle.replay_taken.proofs.put_taken.Goals as goal

pub returns-then-has_room : goal.returns-then-has_room
returns-then-has_room c = record {
  put = out_with_room c.put_answer_line.ensures c.has_room.ensures.room c.if-has_room.true;
}

pub returns-else-has_room : goal.returns-else-has_room
returns-else-has_room c = record { put = out_without_room _ _ _ c.has_room.ensures.room c.if-has_room.false }
