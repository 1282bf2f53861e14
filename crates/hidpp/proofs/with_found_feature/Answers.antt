-- `hidpp::with_found_feature` meets its contract.
use Rattle.std.proofs.Common.{ap, ◌∙◌, le-ltb, lt-ltb, subst, ◌<◌, ℕ}
use Rattle.port.specs.Records.{feature_count}
use Rattle.hidpp.specs.HidppContracts.{slot_found}
use Rattle.hidpp.specs.HidppRecords.{with_found_feature, asked_feature}
use Rattle.hidpp.proofs.FoundLaws.{slot_some, slot_none}
use Rattle.hidpp.proofs.with_found_feature.Goals as goal

pub returns-in_default : goal.returns-in_default
unfolding with_found_feature
returns-in_default c =
    simp (le-ltb _ _ (slot_none (asked_feature c.args.request) (c.in_default.ensures ∙ ap slot_found c.join2.ensures.joined)))

pub returns : goal.returns
unfolding with_found_feature
returns c =
    let slot = slot_some (asked_feature c.args.request) (c.in-Some.ensures ∙ ap slot_found c.join2.ensures.joined) in
    simp (lt-ltb _ _ (subst (λ (n : ℕ). n < feature_count) slot.0 slot.1)) (cc (slot.0, c.with_features.ensures.changed, c.with_feature-features.ensures.stored, c.as_index.ensures))
