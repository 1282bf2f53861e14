-- `encoded::check` meets its contract. The loop's state is `Checking`: what is left of the encoded decodes to what is left of the whole.
use Rattle.std.proofs.Common.{rules, arith}
use Rattle.encoded.proofs.CheckLaws.{no_more, no_room, left_over, done}
use Rattle.encoded.proofs.check.Goals as goal

pub returns-in_err-block : goal.returns-in_err-block
returns-in_err-block c = simp c.from_residual.ensures (no_more c.loop-left.invariant (search rules) c.in_err-block.ensures.first)

pub returns-in_err-room : goal.returns-in_err-room
returns-in_err-room c = simp c.from_residual-in_err-room.ensures (no_room c.loop-left.invariant c.in_ok-block.ensures.first (omega (arith, c.in_err-room.ensures, c.lent_size.ensures.size)))

pub returns-then-room-eq0 : goal.returns-then-room-eq0
returns-then-room-eq0 c = done c.loop-left.invariant (search rules) (search rules)

pub returns-else-room-eq0 : goal.returns-else-room-eq0
returns-else-room-eq0 c = left_over c.loop-left.invariant (search rules) (search rules)
