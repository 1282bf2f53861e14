-- `port::waiting::room_for` meets its contract: a port is full where no place is empty.
use Rattle.std.proofs.Common.{◌∙◌, ◌≡◌, sym, ap, arith, length}
use Rattle.port.specs.Records.{place_count}
use Rattle.port.specs.PortContracts.{room_of}
use Rattle.port.proofs.WaitingLaws.{taken, room_left}
use Rattle.port.proofs.waiting.room_for.Goals as goal

pub returns-then-is_some : goal.returns-then-is_some
returns-then-is_some c =
    let placed : length c.args.places ≡ place_count = omega arith in
    record { admission = taken _ placed _ _ _ c.first_match.ensures.lowest (sym c.is_some.ensures ∙ c.if-is_some.true) }

pub returns : goal.returns
returns c =
    let placed : length c.args.places ≡ place_count = omega arith in
    record { admission = ap room_of c.ok_or.ensures.value ∙ room_left _ placed _ _ _ c.first_match.ensures.lowest (sym c.is_some.ensures ∙ c.if-is_some.false) _ c.first_empty.ensures.lowest }
