-- `replay_dump::put_place` meets its contract.
use Rattle.std.proofs.Common.{sym, lit≤}
use borrow.Author.Tests.{eq-eqb, ne_eqb}
use Rattle.text.proofs.PuttingLaws.{out_at_most, same_out, then_out}
use Rattle.replay_dump.specs.DumpLines.{request_most, place_text}
use Rattle.replay_dump.proofs.put_place.Goals as goal

pub returns-then-request-eq0 : goal.returns-then-request-eq0
unfolding place_text
returns-then-request-eq0 c =
    then_out c.put_comma.ensures.put (same_out (sym (simp (eq-eqb _ 0 c.if-request-eq0.true))) (out_at_most request_most (lit≤ tt) c.byte.ensures.put))

pub returns-else-request-eq0 : goal.returns-else-request-eq0
unfolding place_text
returns-else-request-eq0 c =
    then_out c.put_comma.ensures.put (same_out (sym (simp (ne_eqb _ 0 c.if-request-eq0.false))) c.put_request.ensures)
