-- `port::waiting::cancel` meets its contract.
use Rattle.std.proofs.Common.{arith, refl, ◌≤◌}
use Rattle.port.specs.Records.{place_count}
use Rattle.port.specs.Places.{matches}
use Rattle.port.specs.Waiting.{waiting_at, cancel_at}
use Rattle.port.proofs.SearchingLaws.{found_some, found_none}
use Rattle.port.proofs.WaitingLaws.{is_found_law, not_found}
use Rattle.port.proofs.waiting.cancel.Goals as goal

pub returns-in-Some : goal.returns-in-Some
unfolding cancel_at
returns-in-Some c =
    let found = found_some (matches c.args.byte2.0 c.args.byte3) c.args.port.places c.in-Some.ensures.lowest in
    record { cancelled = simp (is_found_law found.0 (omega (arith, found.1)), c.end_at.ensures.ended, found.0) }

pub returns-in-None : goal.returns-in-None
unfolding cancel_at
returns-in-None c =
    let none : place_count ≤ waiting_at c.args.port c.args.byte2.0 c.args.byte3 = omega (arith, found_none (matches c.args.byte2.0 c.args.byte3) c.args.port.places c.in-None.ensures.lowest) in
    record { cancelled = simp (not_found refl none) }
