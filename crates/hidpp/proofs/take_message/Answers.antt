-- `hidpp::take_message` meets its contract.
use Rattle.std.proofs.Common.{arith, refl, ap, sym, ◌∙◌, ◌≤◌}
use Rattle.port.specs.Records.{place_count}
use Rattle.port.specs.Answers.{stray}
use Rattle.port.proofs.SearchingLaws.{found_some, found_none}
use Rattle.port.proofs.WaitingLaws.{is_found_law, not_found}
use Rattle.matching.specs.Matching.{answers, answered_at}
use Rattle.hidpp.specs.HidppTaking.{reply_rule, take_hidpp}
use Rattle.hidpp.proofs.FoundLaws.{error_some, error_none}
use Rattle.hidpp.proofs.HidppTakingLaws.{carry, ping_stray, rules_go_on}
use Rattle.hidpp.proofs.take_message.Goals as goal

pub returns-in-Some : goal.returns-in-Some
unfolding take_hidpp
returns-in-Some c = simp ((error_some c.args.m.byte2.0 c.in-Some.ensures).0) c.take_error.ensures

pub returns-in-Some-first_answered : goal.returns-in-Some-first_answered
unfolding take_hidpp
returns-in-Some-first_answered c =
    let found = found_some (answers c.args.m) c.args.port.places c.in-Some-first_answered.ensures.lowest in
    simp (error_none c.args.m.byte2.0 c.in_default.ensures, is_found_law found.0 (omega (arith, found.1))) (c.take_reply.ensures ∙ ap (reply_rule _ _) found.0)

pub returns-then-has_ping : goal.returns-then-has_ping
unfolding take_hidpp
returns-then-has_ping c =
    let past : place_count ≤ answered_at c.args.port c.args.m = omega (arith, found_none (answers c.args.m) c.args.port.places c.in_default-first_answered.ensures.lowest) in
    let none = not_found refl past in
    simp (error_none c.args.m.byte2.0 c.in_default.ensures, none) (c.unchanged.ensures ∙ carry stray c.about_itself.ensures refl ∙ ping_stray _ _ none (sym c.has_ping.ensures.waits ∙ c.if-has_ping.true))

pub returns-else-has_ping : goal.returns-else-has_ping
unfolding take_hidpp
returns-else-has_ping c =
    let past : place_count ≤ answered_at c.args.port c.args.m = omega (arith, found_none (answers c.args.m) c.args.port.places c.in_default-first_answered.ensures.lowest) in
    let none = not_found refl past in
    simp (error_none c.args.m.byte2.0 c.in_default.ensures, none) (c.take_unasked.ensures ∙ rules_go_on _ _ none (sym c.has_ping.ensures.waits ∙ c.if-has_ping.false))
