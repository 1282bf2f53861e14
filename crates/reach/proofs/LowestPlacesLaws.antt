-- Document 02, Ask 4, of the calls: the proof.
use Rattle.std.specs.Prelude.{ℕ, ◌<◌, ◌≡◌, Bool, true, false, List, set, eqb}
use Rattle.std.proofs.Math.Path.{refl, subst}
use Rattle.std.proofs.Common.{sym, ◌∙◌, ap, true≢false, arith, ltb-true, ltb-false, lt-ltb, le-ltb, eqb-true, eq-eqb}
use Rattle.std.proofs.Math.ListN.{length}
use Rattle.report.proofs.ChoicesLaws.{by_case, both}
use Rattle.report.specs.Ports.{in_range}
use Rattle.report.specs.Sizes.{software_id, is_feature}
use Rattle.port.specs.declared.Port.{Port}
use Rattle.port.specs.declared.Request.{Request}
use Rattle.port.specs.Records.{place_count, empty_place, request_in, with_places}
use Rattle.port.specs.Places.{is_empty, matches, first_at}
use Rattle.port.specs.Searching.{NoneBelow, Lowest}
use Rattle.port.proofs.SearchingLaws.{at_first, is_first, none_first, all_fail}
use Rattle.port.specs.Waiting.{Room, refused, at, waiting_at, is_found, is_full, ended_at, room_for, cancel_at}
use Rattle.port.proofs.WaitingLaws.{not_full}
use Rattle.port.specs.Answers.{Result}
use Rattle.matching.specs.declared.Message.{Message}
use Rattle.matching.specs.Matching.{answers, answered_at}
use Rattle.hidpp.specs.HidppTaking.{is_error, named2, named3, code, error_fits, is_major1, error_rule, reply_rule, feature_rule, unasked_rule, unanswered_rule, take_hidpp}
use Rattle.serial.specs.Serials.{long_register, serial_register, serial_place, is_asked_with}
use Rattle.reach.proofs.SoundLaws.{reply_records, error_records, event_records}
use Rattle.reach.specs.CallCases.{Placed}
use Rattle.reach.specs.LowestPlaces.{EndsLowest, LowestPlaces}

-- a report that no request waits for ends none
module _ (p : Port) (m : Message) where
  abbrev Keeps : Result → Type 0
  Keeps r = r.port.places ≡ p.places

  unanswered_keeps : Keeps (unanswered_rule p m)
  unfolding unanswered_rule unasked_rule feature_rule
  unanswered_keeps =
      by_case Keeps (is_found (waiting_at p m.byte2.0 m.byte3)) (λ e. refl)
      (λ e. by_case Keeps (in_range 0x80 m.byte2.0 0x83) (λ q. refl)
      (λ q. by_case Keeps (in_range 0x40 m.byte2.0 0x7F) (λ z. refl)
      (λ z. by_case Keeps (is_feature m.byte2.0)
      (λ y. by_case Keeps (is_major1 p.version) (λ x. refl)
      (λ x. by_case Keeps (eqb (software_id m.byte3) 0) (λ w. (event_records p m).places) (λ w. refl)))
      (λ y. refl))))

module _ (p : Port) (placed : Placed p) where
  module _ (test : Request → Bool) where
    abbrev first : ℕ
    first = first_at test p.places

    found : {place : ℕ} → place < length p.places → first ≡ place → is_found first ≡ true
    found {place} h e = lt-ltb first place_count (omega (arith, placed, e))

    not_found : first ≡ length p.places → is_found first ≡ false
    not_found e = le-ltb first place_count (omega (arith, placed, e))

    is_place : is_found first ≡ true → first < length p.places
    is_place e = omega (arith, placed, ltb-true first place_count e)

    none_there : is_found first ≡ false → NoneBelow test p.places (length p.places)
    none_there e = all_fail test p.places (omega (arith, placed, ltb-false first place_count e))

    -- a call that ends the request which the rules' search gives
    ends_lowest : {after : List Request} → (is_found first ≡ true → after ≡ set p.places first empty_place) → (is_found first ≡ false → after ≡ p.places) → EndsLowest test p.places after
    ends_lowest {after} one none =
        record {
          ended = λ place h l. let e = is_first test p.places h l in one (found h e) ∙ ap (λ (n : ℕ). set p.places n empty_place) e;
          none = λ n. none (not_found (none_first test p.places n));
        }

  error_ends : (m : Message) → is_error m.byte2.0 ≡ true → error_fits m ≡ true → EndsLowest (matches (named2 m) (named3 m)) p.places (take_hidpp p m).port.places
  unfolding take_hidpp error_rule ended_at with_places
  error_ends m e f =
      ends_lowest (matches (named2 m) (named3 m)) (λ q. simp (e, f, q) (error_records (ended_at p (first_at (matches (named2 m) (named3 m)) p.places)) m.byte2.0 (named2 m) (named3 m) (code m)).places) (λ q. simp (e, f, q))

  reply_ends : (m : Message) → is_error m.byte2.0 ≡ false → EndsLowest (answers m) p.places (take_hidpp p m).port.places
  unfolding take_hidpp reply_rule ended_at with_places
  reply_ends m e =
      ends_lowest (answers m) (λ q. simp (e, q) (reply_records (ended_at p (answered_at p m)) m (request_in p.places (answered_at p m))).places) (λ q. simp (e, q) (unanswered_keeps p m))

  cancel_ends : (byte2 byte3 : ℕ) → EndsLowest (matches byte2 byte3) p.places (cancel_at p byte2 byte3).port.places
  unfolding cancel_at ended_at with_places
  cancel_ends byte2 byte3 = ends_lowest (matches byte2 byte3) (λ q. simp q) (λ q. simp q)

  refused_at_law : {number place : ℕ} → refused number ≡ at place → ⊥
  refused_at_law e = true≢false (ap is_refused e)
    where
      is_refused : Room → Bool
      is_refused (refused number) = true
      is_refused (at place) = false

  same_place : {i j : ℕ} → at i ≡ at j → i ≡ j
  same_place e = cc

  module _ (byte2 byte3 place : ℕ) (h : place < length p.places) where
    abbrev Admitted : Type 0
    Admitted = NoneBelow (matches byte2 byte3) p.places (length p.places) × Lowest is_empty p.places place

    admitted : room_for p.places byte2 byte3 ≡ at place → Admitted
    unfolding room_for
    admitted =
        by_case (λ (r : Room). r ≡ at place → Admitted) (is_found (first_at (matches byte2 byte3) p.places)) (λ e q. absurd (refused_at_law q))
        (λ e. by_case (λ (r : Room). r ≡ at place → Admitted) (is_full p.places) (λ z q. absurd (refused_at_law q))
        (λ z q. (none_there (matches byte2 byte3) e, subst (Lowest is_empty p.places) (same_place q) (at_first is_empty p.places (subst (λ (n : ℕ). n < length p.places) (sym (same_place q)) h)))))

    admits : Admitted → room_for p.places byte2 byte3 ≡ at place
    unfolding room_for
    admits a =
        let e = is_first is_empty p.places h a.1 in
        simp (not_found (matches byte2 byte3) (none_first (matches byte2 byte3) p.places a.0), not_full p.places placed refl (omega (arith, placed, e)), e)

  module _ (first : ℕ) where
    abbrev asked : Request → Bool
    asked = matches long_register serial_register

    abbrev AskedFor : Type 0
    AskedFor = (place : ℕ) × ((place < length p.places) × (Lowest asked p.places place × ((request_in p.places place).first.0 ≡ first)))

    asked_for : is_asked_with p first ≡ true → AskedFor
    asked_for e =
        let b = both (is_found (serial_place p)) (eqb (request_in p.places (serial_place p)).first.0 first) e in
        let h = is_place asked b.0 in
        (serial_place p, (h, (at_first asked p.places h, eqb-true _ _ b.1)))

    asks : AskedFor → is_asked_with p first ≡ true
    asks a =
        let e = is_first asked p.places a.1.0 a.1.1.0 in
        simp (e, lt-ltb a.0 place_count (omega (arith, placed, a.1.0)), eq-eqb _ _ a.1.1.1)

  pub lowest_places : LowestPlaces p
  lowest_places =
      record {
        errors = error_ends;
        replies = reply_ends;
        cancels = cancel_ends;
        admits = λ byte2 byte3 place h. (admitted byte2 byte3 place h, admits byte2 byte3 place h);
        asks = λ first. (asked_for first, asks first);
      }
