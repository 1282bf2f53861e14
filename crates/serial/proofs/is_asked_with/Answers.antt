-- `serial::is_asked_with` meets its contract.
use Rattle.std.proofs.Common.{arith, refl, ◌≤◌}
use Rattle.port.specs.Records.{place_count}
use Rattle.port.specs.Places.{matches}
use Rattle.port.proofs.SearchingLaws.{found_some, found_none}
use Rattle.port.proofs.WaitingLaws.{is_found_law, not_found}
use Rattle.serial.specs.Serials.{long_register, serial_register, serial_place}
use Rattle.serial.proofs.is_asked_with.Goals as goal

pub returns-in_default : goal.returns-in_default
returns-in_default c =
    let past : place_count ≤ serial_place c.args.port = omega (arith, found_none (matches long_register serial_register) c.args.port.places c.in_default.ensures.lowest) in
    simp (not_found refl past)

pub returns : goal.returns
returns c =
    let found = found_some (matches long_register serial_register) c.args.port.places c.in-Some.ensures.lowest in
    simp (is_found_law found.0 (omega (arith, found.1)), c.request_in.ensures.found, found.0)
