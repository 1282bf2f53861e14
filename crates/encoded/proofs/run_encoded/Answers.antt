-- `encoded::run_encoded` meets its contract: 31, then 10, then the calls.
use Rattle.std.proofs.Common.{refl}
use Rattle.encoded.proofs.PerformLaws.{is_malformed, has_no_room}
use Rattle.encoded.proofs.run_encoded.Goals as goal

pub returns-in-None : goal.returns-in-None
returns-in-None c = record { by_rule = is_malformed _ _ _ _ (c.in-None.ensures _ refl) }

pub returns-in-Some : goal.returns-in-Some
returns-in-Some c = record { by_rule = has_no_room _ _ _ _ (c.in-Some.ensures _ refl) c.if-answers-size.true }
