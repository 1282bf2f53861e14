-- Document 01, "Taking a HID++ report": how records change.
use Rattle.std.specs.Prelude.{ℕ, Bool, true, cond, not, ◌&&◌, set, leb, ltb, eqb, Some}
use Rattle.report.specs.Sizes.{function, joined2}
use Rattle.port.specs.declared.Port.{Port}
use Rattle.port.specs.declared.Request.{Request}
use Rattle.port.specs.declared.FirstParameters.{FirstParameters}
use Rattle.report.specs.declared.FeatureIndex.{FeatureIndex}
use Rattle.port.specs.Records.{feature_count, max_index, battery_status, wireless_status, slot_of, feature_at, with_version, with_battery, with_features, with_link}
use Rattle.port.specs.Answers.{error1}
use Rattle.matching.specs.declared.Message.{Message}
use Rattle.matching.specs.Matching.{is_ping}

-- the largest level
abbrev pub max_level : ℕ
max_level = 100

-- the port holds this index, and not 0, for a known feature
abbrev pub holds : Port → ℕ → ℕ → Bool
holds p feature index =
    not (eqb (feature_at p.features (slot_of feature)) 0) && eqb (feature_at p.features (slot_of feature)) index

-- byte 2 = 0, function 0
abbrev pub is_get_feature : ℕ → ℕ → Bool
is_get_feature byte2 byte3 = eqb byte2 0 && eqb (function byte3) 0

-- 0 for an index above 63
unfoldable pub index_from : ℕ → FeatureIndex
index_from index = record { 0 = cond (leb index max_index) index 0 }

-- the request's first two parameters, the most significant first
abbrev pub asked_feature : Request → ℕ
asked_feature r = joined2 r.first.1 r.first.0

-- a known feature gets the index that was returned, 0 where that is too large; for any other feature nothing changes
unfoldable pub with_found_feature : Port → Request → ℕ → Port
with_found_feature p r index =
    cond (ltb (slot_of (asked_feature r)) feature_count)
    (with_features p (set p.features (slot_of (asked_feature r)) (index_from index)))
    p

-- level, next level and status, unless one of the two levels is above 100
unfoldable pub with_battery_from : Port → FirstParameters → Port
with_battery_from p first =
    cond (leb first.0 max_level && leb first.1 max_level)
    (with_battery p (Some (record { level = first.0; next = first.1; status = first.2 })))
    p

-- a reply to function 0 of the battery's feature
abbrev pub is_battery_reply : Port → Message → Bool
is_battery_reply p m = holds p battery_status m.byte2.0 && eqb (function m.byte3) 0

-- a reply m to the request r
unfoldable pub after_reply : Port → Message → Request → Port
after_reply p m r =
    cond (is_ping m.byte2.0 m.byte3) (with_version p (Some (record { major = m.first.0; minor = m.first.1 })))
    (cond (is_get_feature m.byte2.0 m.byte3) (with_found_feature p r m.first.0)
    (cond (is_battery_reply p m) (with_battery_from p m.first) p))

-- an 0x8F error with code 1 to a ping
abbrev pub is_version1 : ℕ → ℕ → ℕ → ℕ → Bool
is_version1 kind named2 named3 code = eqb kind error1 && (eqb code 1 && is_ping named2 named3)

-- sets 1.0
unfoldable pub after_error : Port → ℕ → ℕ → ℕ → ℕ → Port
after_error p kind named2 named3 code =
    cond (is_version1 kind named2 named3 code) (with_version p (Some (record { major = 1; minor = 0 }))) p

-- event 0 of a known feature
abbrev pub is_event0 : Port → ℕ → Message → Bool
is_event0 p feature m = holds p feature m.byte2.0 && eqb m.byte3 0

-- event 0 of the battery's feature
unfoldable pub after_battery_event : Port → Message → Port
after_battery_event p m = cond (is_event0 p battery_status m) (with_battery_from p m.first) p

-- event 0 of the wireless status
unfoldable pub after_wireless_event : Port → Message → Port
after_wireless_event p m = cond (is_event0 p wireless_status m) (with_link p true) p

-- two features may hold the same index: then an event does what both rules say
unfoldable pub after_event : Port → Message → Port
after_event p m = after_wireless_event (after_battery_event p m) m
