-- `hidpp::take_error` meets its contract.
use Rattle.std.proofs.Common.{arith, refl, ap, sym, ◌∙◌, ◌≤◌, ◌||◌, eqb}
use Rattle.report.specs.Sizes.{is_feature}
use Rattle.port.specs.Records.{place_count}
use Rattle.port.specs.Places.{matches}
use Rattle.port.specs.Waiting.{waiting_at}
use Rattle.port.specs.Answers.{error1, stray}
use Rattle.port.proofs.SearchingLaws.{found_some, found_none}
use Rattle.port.proofs.WaitingLaws.{not_found}
use Rattle.hidpp.specs.HidppTaking.{error_rule, kind_of}
use Rattle.hidpp.specs.HidppRecords.{after_error}
use Rattle.hidpp.proofs.HidppTakingLaws.{carry, kind_itself, error_ends}
use Rattle.hidpp.proofs.take_error.Goals as goal

pub returns-then-not-error_fits : goal.returns-then-not-error_fits
unfolding error_rule
returns-then-not-error_fits c =
    let fits = ap (λ number. eqb number error1 || is_feature c.args.m.byte3) c.requires in
    simp (sym fits ∙ sym c.error_fits.ensures ∙ c.if-not-error_fits.true) (c.unchanged.ensures ∙ carry stray c.about_itself.ensures refl)

pub returns-in_default : goal.returns-in_default
unfolding error_rule
returns-in_default c =
    let fits = ap (λ number. eqb number error1 || is_feature c.args.m.byte3) c.requires in
    let past : place_count ≤ waiting_at c.args.port c.args.m.byte3 c.args.m.first.0 = omega (arith, found_none (matches c.args.m.byte3 c.args.m.first.0) c.args.port.places c.in_default.ensures.lowest) in
    simp (sym fits ∙ sym c.error_fits.ensures ∙ c.if-not-error_fits.false, not_found refl past) (c.unchanged-in_default.ensures ∙ carry stray c.about_itself-in_default.ensures refl)

pub returns : goal.returns
returns c =
    let fits = ap (λ number. eqb number error1 || is_feature c.args.m.byte3) c.requires in
    let found = found_some (matches c.args.m.byte3 c.args.m.first.0) c.args.port.places c.in-Some.ensures.lowest in
    error_ends _ _ _ c.args.kind (sym fits ∙ sym c.error_fits.ensures ∙ c.if-not-error_fits.false) found.0 (omega (arith, found.1)) c.about.ensures (kind_itself c.args.kind ∙ ap kind_of c.requires) c.end_at.ensures.ended (c.after_error.ensures ∙ ap (λ number. after_error c.end_at.result number c.args.m.byte3 c.args.m.first.0 c.args.m.first.1) c.requires)
