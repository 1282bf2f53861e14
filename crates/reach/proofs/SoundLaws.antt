-- Document 01, "Ports and their records": what is sound in a port's record stays so by each change of it.
use Rattle.std.specs.Prelude.{ℕ, ◌-◌, ◌≤◌, ◌≡◌, Bool, true, false, not, ◌&&◌, List, map, set, ltb, eqb, Option}
use Rattle.std.proofs.Math.Path.{refl}
use Rattle.std.proofs.Common.{sym, ◌∙◌, subst, true≢false, arith, length-set, get_or-set_other, lit≤, leb-true, eqb-true}
use Rattle.std.proofs.lemmas.Bool.{false≢true, eqb-false}
use Rattle.std.proofs.Math.Decide.{ℕ_discrete}
use Rattle.std.proofs.lemmas.List.{length-map}
use Rattle.std.proofs.Math.Dec.{leb}
use Rattle.report.proofs.ChoicesLaws.{by_case, both}
use Rattle.report.specs.declared.FeatureIndex.{FeatureIndex}
use Rattle.port.specs.declared.Port.{Port}
use Rattle.port.specs.declared.Request.{Request}
use Rattle.port.specs.Records.{place_count, feature_count, max_index, empty_place, fresh_port, battery_status, wireless_status, slot_of, request_in, with_version, with_battery, with_features, with_link}
use Rattle.port.specs.Places.{is_empty, matches}
use Rattle.port.specs.Ticks.{after_tick}
use Rattle.matching.specs.declared.Message.{Message}
use Rattle.matching.specs.Matching.{is_ping}
use Rattle.hidpp.specs.HidppRecords.{max_level, is_get_feature, is_battery_reply, is_version1, is_event0, index_from, asked_feature, with_found_feature, with_battery_from, after_reply, after_error, after_battery_event, after_wireless_event, after_event}
use Rattle.reach.proofs.ListsLaws.{after_set, after_map, each_replicate}
use Rattle.reach.specs.Sound.{SoundPlace, Unique, SoundPlaces, SoundFeatures, SoundPort}

-- a fresh place
sound_empty : SoundPlace empty_place
unfolding empty_place
sound_empty = record { ticks = lit≤ tt; askable = λ e. absurd (true≢false e); empty = λ e. refl }

-- a place after a tick
sound_ticked : (r : Request) → SoundPlace r → SoundPlace (after_tick r)
unfolding after_tick
sound_ticked r s =
    by_case SoundPlace (is_empty r) (λ e. s)
    (λ e. by_case SoundPlace (eqb r.ticks 1) (λ q. sound_empty)
    (λ q. record {
      ticks = omega (arith, s.ticks);
      askable = λ z. s.askable e;
      empty = λ z. absurd (omega (arith, eqb-false r.ticks 0 e, eqb-false r.ticks 1 q, eqb-true (r.ticks - 1) 0 z));
    }))

-- nothing waits in a fresh place
pub empty_fails : (byte2 byte3 : ℕ) → matches byte2 byte3 empty_place ≡ false
unfolding empty_place
empty_fails byte2 byte3 = refl

-- from a place to what it becomes: what is sound stays so, and what waits waited
abbrev Kept : Request → Request → Type 0
Kept r x = SoundPlace r → SoundPlace x

abbrev Waited : ℕ → ℕ → Request → Request → Type 0
Waited byte2 byte3 r x = matches byte2 byte3 x ≡ true → matches byte2 byte3 r ≡ true

ticked_waits : (byte2 byte3 : ℕ) (r : Request) → Waited byte2 byte3 r (after_tick r)
unfolding after_tick
ticked_waits byte2 byte3 r =
    by_case (Waited byte2 byte3 r) (is_empty r) (λ e q. q)
    (λ e. by_case (Waited byte2 byte3 r) (eqb r.ticks 1) (λ q z. absurd (false≢true (sym (empty_fails byte2 byte3) ∙ z)))
    (λ q z. simp e (both (not (eqb (r.ticks - 1) 0)) (eqb r.byte2.0 byte2 && eqb r.byte3 byte3) z).1))

-- fewer requests that wait
fewer_unique : (before after : List Request) → ((byte2 byte3 i : ℕ) → Waited byte2 byte3 (request_in before i) (request_in after i)) → Unique before → Unique after
fewer_unique before after h u byte2 byte3 i j p q = u byte2 byte3 i j (h byte2 byte3 i p) (h byte2 byte3 j q)

module _ {places : List Request} (s : SoundPlaces places) where
  -- a request ends
  pub sound_ended : (place : ℕ) → SoundPlaces (set places place empty_place)
  sound_ended place =
      record {
        all = length-set places place empty_place ∙ s.all;
        unique = fewer_unique places (set places place empty_place) (λ byte2 byte3. after_set (Waited byte2 byte3) empty_place places place empty_place (λ r e. e) (λ r e. absurd (false≢true (sym (empty_fails byte2 byte3) ∙ e)))) s.unique;
        each = λ k. after_set Kept empty_place places place empty_place (λ r h. h) (λ r h. sound_empty) k (s.each k);
      }

  -- a tick
  pub sound_ticks : SoundPlaces (map after_tick places)
  sound_ticks =
      record {
        all = length-map places after_tick ∙ s.all;
        unique = fewer_unique places (map after_tick places) (λ byte2 byte3. after_map (Waited byte2 byte3) empty_place after_tick places (λ e. e) (ticked_waits byte2 byte3)) s.unique;
        each = λ k. after_map Kept empty_place after_tick places (λ h. h) sound_ticked k (s.each k);
      }

  -- a request that waits in a place, where none with its bytes 2 and 3 waits
  pub sound_asked : (place : ℕ) (r : Request) → SoundPlace r → ((i : ℕ) → matches r.byte2.0 r.byte3 (request_in places i) ≡ false) → SoundPlaces (set places place r)
  sound_asked place r new none =
      record {
        all = length-set places place r ∙ s.all;
        unique = λ byte2 byte3 i j. go byte2 byte3 i j (matches byte2 byte3 r) refl;
        each = λ k. after_set Kept empty_place places place r (λ x h. h) (λ x h. new) k (s.each k);
      }
    where
      Waits : ℕ → ℕ → ℕ → Type 0
      Waits byte2 byte3 k = matches byte2 byte3 (request_in (set places place r) k) ≡ true

      -- the new request alone has its bytes 2 and 3
      there : (byte2 byte3 k : ℕ) → matches byte2 byte3 r ≡ true → Waits byte2 byte3 k → Dec (k ≡ place) → k ≡ place
      there byte2 byte3 k e w (yes q) = q
      there byte2 byte3 k e w (no q) =
          let same = both (eqb r.byte2.0 byte2) (eqb r.byte3 byte3) (both (not (is_empty r)) _ e).1 in
          absurd (false≢true (cc (none k, w, get_or-set_other places place k r empty_place q, eqb-true r.byte2.0 byte2 same.0, eqb-true r.byte3 byte3 same.1)))

      go : (byte2 byte3 i j : ℕ) (b : Bool) → matches byte2 byte3 r ≡ b → Waits byte2 byte3 i → Waits byte2 byte3 j → i ≡ j
      go byte2 byte3 i j true e p q =
          there byte2 byte3 i e p (ℕ_discrete i place) ∙ sym (there byte2 byte3 j e q (ℕ_discrete j place))
      go byte2 byte3 i j false e p q =
          let before = after_set (Waited byte2 byte3) empty_place places place r (λ x w. w) (λ x w. absurd (true≢false (sym w ∙ e))) in
          s.unique byte2 byte3 i j (before i p) (before j q)

-- an index that is found is at most 63
bounded : (index : ℕ) → (index_from index).0 ≤ max_index
unfolding index_from
bounded index =
    by_case (λ (n : ℕ). n ≤ max_index) (leb index max_index) (λ e. leb-true index max_index e) (λ e. lit≤ tt)

sound_found : {features : List FeatureIndex} → SoundFeatures features → (slot index : ℕ) → SoundFeatures (set features slot (index_from index))
sound_found {features} s slot index =
    record {
      all = length-set features slot (index_from index) ∙ s.all;
      each = λ k. after_set (λ (x y : FeatureIndex). x.0 ≤ max_index → y.0 ≤ max_index) (record { 0 = 0 }) features slot (index_from index) (λ x h. h) (λ x h. bounded index) k (s.each k);
    }

-- what a report changes in the records: the pairing, the serial and the places stay, and the indexes stay sound
pub record Recorded (paired : Bool) (known : Option ℕ) (features : List FeatureIndex) (before : List Request) (paired' : Bool) (known' : Option ℕ) (features' : List FeatureIndex) (after : List Request) : Type 0 where
  pub pairing : paired' ≡ paired
  pub serial : known' ≡ known
  pub indexes : SoundFeatures features → SoundFeatures features'
  pub places : after ≡ before

abbrev pub Records : Port → Port → Type 0
Records p q =
    Recorded p.paired p.serial p.features p.places q.paired q.serial q.features q.places

pub same : {paired : Bool} {serial : Option ℕ} {features : List FeatureIndex} {places : List Request} → Recorded paired serial features places paired serial features places
same = record { pairing = refl; serial = refl; indexes = λ s. s; places = refl }

module _ (p : Port) (m : Message) where
  battery_records : Records p (with_battery_from p m.first)
  unfolding with_battery_from with_battery
  battery_records = by_case (Records p) (leb m.first.0 max_level && leb m.first.1 max_level) (λ e. same) (λ e. same)

  pub reply_records : (r : Request) → Records p (after_reply p m r)
  unfolding after_reply with_version with_found_feature with_features
  reply_records r =
      by_case (Records p) (is_ping m.byte2.0 m.byte3) (λ e. same)
      (λ e. by_case (Records p) (is_get_feature m.byte2.0 m.byte3)
      (λ q. by_case (Records p) (ltb (slot_of (asked_feature r)) feature_count) (λ z. record { pairing = refl; serial = refl; indexes = λ s. sound_found s _ _; places = refl }) (λ z. same))
      (λ q. by_case (Records p) (is_battery_reply p m) (λ z. battery_records) (λ z. same)))

  pub event_records : Records p (after_event p m)
  unfolding after_event after_wireless_event after_battery_event with_link
  event_records = by_case (Records p) (is_event0 (after_battery_event p m) wireless_status m) (λ e. battery) (λ e. battery)
    where
      battery : Records p (after_battery_event p m)
      battery = by_case (Records p) (is_event0 p battery_status m) (λ e. battery_records) (λ e. same)

pub error_records : (p : Port) (kind byte2 byte3 code : ℕ) → Records p (after_error p kind byte2 byte3 code)
unfolding after_error with_version
error_records p kind byte2 byte3 code = by_case (Records p) (is_version1 kind byte2 byte3 code) (λ e. same) (λ e. same)

pub records_sound : {position : ℕ} (p q : Port) → Records p q → SoundPort position p → SoundPort position q
records_sound p q r s =
    record {
      receiver = λ i. r.pairing ∙ s.receiver i;
      unpaired = λ e. r.serial ∙ s.unpaired (sym r.pairing ∙ e);
      indexes = r.indexes s.indexes;
      waiting = subst SoundPlaces (sym r.places) s.waiting;
    }

-- a fresh port
fresh_features : SoundFeatures fresh_port.features
unfolding fresh_port
fresh_features =
    record {
      all = refl;
      each = each_replicate (λ (x : FeatureIndex). x.0 ≤ max_index) (record { 0 = 0 }) feature_count (record { 0 = 0 }) (lit≤ tt) (lit≤ tt);
    }

fresh_places : SoundPlaces fresh_port.places
unfolding fresh_port
fresh_places =
    record {
      all = refl;
      unique = λ byte2 byte3 i j p q. absurd (false≢true (sym (fails byte2 byte3 i) ∙ p));
      each = each_replicate SoundPlace empty_place place_count empty_place sound_empty sound_empty;
    }
  where
    fails : (byte2 byte3 i : ℕ) → matches byte2 byte3 (request_in fresh_port.places i) ≡ false
    fails byte2 byte3 = each_replicate (λ (r : Request). matches byte2 byte3 r ≡ false) empty_place place_count empty_place (empty_fails byte2 byte3) (empty_fails byte2 byte3)

pub sound_fresh : (position : ℕ) → SoundPort position fresh_port
unfolding fresh_port
sound_fresh position = record { receiver = λ e. refl; unpaired = λ e. refl; indexes = fresh_features; waiting = fresh_places }
