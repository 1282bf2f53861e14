-- Demand 2: a field that document 01 does not list for a call stays, by the call's cases.
use Rattle.std.specs.Prelude.{ℕ, ◌≡◌, refl, Bool, true, false, not, ◌&&◌, ◌||◌, List, ltb, eqb}
use Rattle.std.proofs.Common.{sym, ◌∙◌, ap, true≢false, eq-eqb, ne_eqb}
use Rattle.std.proofs.lemmas.Bool.{false≢true}
use Rattle.std.proofs.Math.Dec.{leb}
use Rattle.report.proofs.ChoicesLaws.{by_case}
use Rattle.report.specs.Reading.{Report}
use Rattle.report.specs.declared.FeatureIndex.{FeatureIndex}
use Rattle.port.specs.declared.Port.{Port}
use Rattle.port.specs.declared.Request.{Request}
use Rattle.port.specs.Records.{feature_count, battery_status, wireless_status, slot_of, made_fresh, request_in, feature_at, with_version, with_battery, with_serial, with_features, with_places, with_link, with_reports, with_pairing}
use Rattle.port.specs.Waiting as waiting
use Rattle.port.specs.Waiting.{ended_at}
use Rattle.port.specs.Answers.{error1, Result}
use Rattle.matching.specs.declared.Message.{Message}
use Rattle.matching.specs.Matching.{is_ping}
use Rattle.hidpp.specs.HidppRecords.{max_level, is_get_feature, is_battery_reply, is_version1, is_event0, asked_feature, with_found_feature, with_battery_from, after_reply, after_error, after_battery_event, after_wireless_event, after_event}
use Rattle.hidpp.specs.HidppTaking.{about, named2, named3, code, kind_of}
use Rattle.serial.specs.Serials.{serial_of, SerialResult}
use Rattle.request.specs.Requesting.{RequestAt}
use Rattle.station.specs.StationCalls.{ticked_port}
use Rattle.reach.specs.CallCases.{failed_place, replied_place, HidppCase, gives_failed, gives_reply, gives_stray, gives_plain, gives_event, SerialCase, keeps_none, first_serial, same_serial, other_serial, DjCase, dj_refused, radio_taken, unpairs, paired_same, paired_new, link_set, other_notice, RequestCase, request_refused, accepted, CancelCase, refused13, cancel_done}
use Rattle.reach.specs.Fields.{Field, pairing, wpid, bitfield, link_up, version, features, battery, serial, places, Same, is, reply_lists, error_lists, event_lists, take_lists, serial_lists}

-- what is not listed stays
pub data Keeps (listed : Field → Bool) (p q : Port) : Type 0 where
  keeps : ((f : Field) → listed f ≡ false → Same f p q) → Keeps listed p q

pub unlisted_kept : {listed : Field → Bool} {p q : Port} → Keeps listed p q → (f : Field) → listed f ≡ false → Same f p q
unlisted_kept (keeps h) = h

-- field by field
module _ {listed : Field → Bool} {p q : Port} where
  each : (listed pairing ≡ false → q.paired ≡ p.paired) → (listed wpid ≡ false → q.wpid ≡ p.wpid) → (listed bitfield ≡ false → q.reports ≡ p.reports) → (listed link_up ≡ false → q.up ≡ p.up) → (listed version ≡ false → q.version ≡ p.version) → (listed features ≡ false → q.features ≡ p.features) → (listed battery ≡ false → q.battery ≡ p.battery) → (listed serial ≡ false → q.serial ≡ p.serial) → (listed places ≡ false → q.places ≡ p.places) → Keeps listed p q
  each a b c d e f g s h = keeps go
    where
      go : (x : Field) → listed x ≡ false → Same x p q
      go pairing = a
      go wpid = b
      go bitfield = c
      go link_up = d
      go version = e
      go features = f
      go battery = g
      go serial = s
      go places = h

pub keeps_all : (listed : Field → Bool) (p : Port) → Keeps listed p p
keeps_all listed p = each (λ h. refl) (λ h. refl) (λ h. refl) (λ h. refl) (λ h. refl) (λ h. refl) (λ h. refl) (λ h. refl) (λ h. refl)

-- a listed field may change
may {ℓ} : {X : Type ℓ} {b : Bool} → b ≡ true → b ≡ false → X
may e h = absurd (true≢false (sym e ∙ h))

module _ (p : Port) (place : ℕ) where
  abbrev gone : Port
  gone = ended_at p place

  module _ (m : Message) where
    abbrev Replied : Port → Type 0
    Replied = Keeps (reply_lists p (about m m.byte2.0 m.byte3)) p

    ends_only : Replied gone
    unfolding ended_at with_places
    ends_only = each (λ h. refl) (λ h. refl) (λ h. refl) (λ h. refl) (λ h. refl) (λ h. refl) (λ h. refl) (λ h. refl) (may refl)

    reply_keeps : (r : Request) → Replied (after_reply gone m r)
    unfolding after_reply with_version with_found_feature with_features with_battery_from with_battery ended_at with_places
    reply_keeps r =
        by_case Replied (is_ping m.byte2.0 m.byte3) (λ e. each (λ h. refl) (λ h. refl) (λ h. refl) (λ h. refl) (may (simp e)) (λ h. refl) (λ h. refl) (λ h. refl) (may refl))
        (λ e. by_case Replied (is_get_feature m.byte2.0 m.byte3)
        (λ q. by_case Replied (ltb (slot_of (asked_feature r)) feature_count) (λ z. each (λ h. refl) (λ h. refl) (λ h. refl) (λ h. refl) (λ h. refl) (may (simp q)) (λ h. refl) (λ h. refl) (may refl)) (λ z. ends_only))
        (λ q. by_case Replied (is_battery_reply gone m)
        (λ z. by_case Replied (leb m.first.0 max_level && leb m.first.1 max_level) (λ y. each (λ h. refl) (λ h. refl) (λ h. refl) (λ h. refl) (λ h. refl) (λ h. refl) (may (simp z)) (λ h. refl) (may refl)) (λ y. ends_only))
        (λ z. ends_only)))

  -- an error carries its kind, 0x8F or 0xFF
  module _ (kind byte2 byte3 code : ℕ) (m : Message) where
    abbrev Failed : Port → Type 0
    Failed = Keeps (error_lists (about m byte2 byte3) code (kind_of kind)) p

    is_8_f : is_version1 kind byte2 byte3 code ≡ true → is_version1 (kind_of kind) byte2 byte3 code ≡ true
    is_8_f e = go (eqb kind error1) refl
      where
        go : (b : Bool) → eqb kind error1 ≡ b → is_version1 (kind_of kind) byte2 byte3 code ≡ true
        go true q = simp q (simp q at e)
        go false q = absurd (false≢true (simp q at e))

    error_keeps : Failed (after_error gone kind byte2 byte3 code)
    unfolding after_error with_version ended_at with_places
    error_keeps =
        by_case Failed (is_version1 kind byte2 byte3 code) (λ e. each (λ h. refl) (λ h. refl) (λ h. refl) (λ h. refl) (may (is_8_f e)) (λ h. refl) (λ h. refl) (λ h. refl) (may refl))
        (λ e. each (λ h. refl) (λ h. refl) (λ h. refl) (λ h. refl) (λ h. refl) (λ h. refl) (λ h. refl) (λ h. refl) (may refl))

module _ (p : Port) (m : Message) where
  abbrev Seen : Port → Type 0
  Seen = Keeps (event_lists p (about m m.byte2.0 m.byte3)) p

  -- after the battery's rule, whether the link's rule acts or not
  record Battery (q : Port) : Type 0 where
    same_features : q.features ≡ p.features
    as_is : Seen q
    linked : is_event0 p wireless_status m ≡ true → Seen (with_link q true)

  unset : Battery p
  unfolding with_link
  unset =
      record {
        same_features = refl;
        as_is = keeps_all _ p;
        linked = λ u. each (λ h. refl) (λ h. refl) (λ h. refl) (may (simp u)) (λ h. refl) (λ h. refl) (λ h. refl) (λ h. refl) (λ h. refl);
      }

  after_battery : Battery (after_battery_event p m)
  unfolding after_battery_event with_battery_from with_battery with_link
  after_battery =
      by_case Battery (is_event0 p battery_status m)
      (λ e. by_case Battery (leb m.first.0 max_level && leb m.first.1 max_level) (λ q. record {
        same_features = refl;
        as_is = each (λ h. refl) (λ h. refl) (λ h. refl) (λ h. refl) (λ h. refl) (λ h. refl) (may (simp e)) (λ h. refl) (λ h. refl);
        linked = λ u. each (λ h. refl) (λ h. refl) (λ h. refl) (may (simp u)) (λ h. refl) (λ h. refl) (may (simp e)) (λ h. refl) (λ h. refl);
      }) (λ q. unset))
      (λ e. unset)

  same_event : is_event0 (after_battery_event p m) wireless_status m ≡ is_event0 p wireless_status m
  same_event =
      ap (λ (fs : List FeatureIndex). (not (eqb (feature_at fs (slot_of wireless_status)) 0) && eqb (feature_at fs (slot_of wireless_status)) m.byte2.0) && eqb m.byte3 0) after_battery.same_features

  event_keeps : Seen (after_event p m)
  unfolding after_event after_wireless_event
  event_keeps =
      by_case Seen (is_event0 (after_battery_event p m) wireless_status m) (λ e. after_battery.linked (sym same_event ∙ e)) (λ e. after_battery.as_is)

pub hidpp_keeps : {p : Port} {m : Message} {r : Result} → HidppCase p m r → Keeps (take_lists p r.answer) p r.port
hidpp_keeps {p} {m} (gives_failed h) = error_keeps p (failed_place p m) m.byte2.0 (named2 m) (named3 m) (code m) m
hidpp_keeps {p} {m} (gives_reply h) = reply_keeps p (replied_place p m) m (request_in p.places (replied_place p m))
hidpp_keeps {p} (gives_stray h) = keeps_all _ p
hidpp_keeps {p} (gives_plain h) = keeps_all _ p
hidpp_keeps {p} {m} (gives_event h) = event_keeps p m

-- everything is listed
everything : {listed : Field → Bool} (p q : Port) → ((f : Field) → listed f ≡ true) → Keeps listed p q
everything p q all =
    each (may (all pairing)) (may (all wpid)) (may (all bitfield)) (may (all link_up)) (may (all version)) (may (all features)) (may (all battery)) (may (all serial)) (may (all places))

pub dj_keeps : {p : Port} {r : Report} {bytes : List ℕ} {x : Result} → DjCase p r bytes x → Keeps (take_lists p x.answer) p x.port
unfolding with_link with_reports
dj_keeps {p} (dj_refused h) = keeps_all _ p
dj_keeps (radio_taken l u d h) = each (λ h. refl) (λ h. refl) (λ h. refl) (may refl) (λ h. refl) (λ h. refl) (λ h. refl) (λ h. refl) (λ h. refl)
dj_keeps {p} (unpairs e) = everything p _ (λ f. refl)
dj_keeps {p} (paired_same e s) = each (λ h. refl) (λ h. refl) (may (simp s)) (λ h. refl) (λ h. refl) (λ h. refl) (λ h. refl) (λ h. refl) (λ h. refl)
dj_keeps {p} (paired_new e s) = everything p _ (λ f. simp s)
dj_keeps (link_set e u) = each (λ h. refl) (λ h. refl) (λ h. refl) (may refl) (λ h. refl) (λ h. refl) (λ h. refl) (λ h. refl) (λ h. refl)
dj_keeps {p} (other_notice l) = keeps_all _ p

-- a serial at its device's port
pub serial_keeps : {p : Port} (n : ℕ) {number : ℕ} {x : SerialResult} → SerialCase p number x → Keeps (serial_lists n p (serial_of n number)) p x.port
unfolding with_serial with_pairing made_fresh
serial_keeps {p} n (keeps_none h) = keeps_all _ p
serial_keeps n (first_serial h e) =
    each (λ z. refl) (λ z. refl) (λ z. refl) (λ z. refl) (λ z. refl) (λ z. refl) (λ z. refl) (may (simp (eq-eqb n n refl, h))) (λ z. refl)
serial_keeps {p} n (same_serial h e) = keeps_all _ p
serial_keeps {p} n {number} (other_serial known h e differs) =
    each (λ z. sym h) (λ z. refl) (λ z. refl) (may (other link_up refl)) (may (other version refl)) (may (other features refl)) (may (other battery refl)) (may (other serial refl)) (may (other places refl))
  where
    other : (f : Field) → (is serial f || not (is pairing f || (is wpid f || is bitfield f))) ≡ true → serial_lists n p (serial_of n number) f ≡ true
    other f q = simp (eq-eqb n n refl, h, e, ne_eqb known number differs) q

pub request_keeps : {p : Port} {device byte2 byte3 ticks : ℕ} {params : List ℕ} {offset : ℕ} {lent : List ℕ} {r : RequestAt} → RequestCase p device byte2 byte3 ticks params offset lent r → Keeps (is places) p r.port
unfolding with_places
request_keeps {p} (request_refused h) = keeps_all _ p
request_keeps (accepted f n l) = each (λ h. refl) (λ h. refl) (λ h. refl) (λ h. refl) (λ h. refl) (λ h. refl) (λ h. refl) (λ h. refl) (may refl)

pub cancel_keeps : {p : Port} {byte2 byte3 : ℕ} {r : waiting.CancelResult} → CancelCase p byte2 byte3 r → Keeps (is places) p r.port
unfolding ended_at with_places
cancel_keeps {p} (refused13 n) = keeps_all _ p
cancel_keeps (cancel_done w) = each (λ h. refl) (λ h. refl) (λ h. refl) (λ h. refl) (λ h. refl) (λ h. refl) (λ h. refl) (λ h. refl) (may refl)

pub tick_keeps : (p : Port) → Keeps (is places) p (ticked_port p)
unfolding ticked_port with_places
tick_keeps p = each (λ h. refl) (λ h. refl) (λ h. refl) (λ h. refl) (λ h. refl) (λ h. refl) (λ h. refl) (λ h. refl) (may refl)
