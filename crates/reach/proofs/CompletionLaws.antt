-- Demand 2, in its own words: it holds on every station that calls reach, by the cases of a take.
use Rattle.std.specs.Prelude.{ℕ, ◌≡◌, ◌↔◌, Bool, ◌&&◌, ◌||◌, length, eqb, Option, Some, None}
use Rattle.std.proofs.Math.Path.{refl, ap, subst}
use Rattle.std.proofs.Common.{sym, ◌∙◌, true≢false, arith}
use Rattle.std.proofs.Math.Bool.{true, false, cond, not}
use Rattle.std.proofs.lemmas.Bool.{false≢true}
use mathlib.Core.List.{List}
use Rattle.std.proofs.Math.ListN.{set, length-set}
use borrow.Author.Tests.{eqb-true, eqb-false, eq-eqb, ne_eqb, not-true}
use Rattle.report.proofs.ChoicesLaws.{both}
use Rattle.report.specs.Ports.{is_device, is_port}
use Rattle.report.specs.Sizes.{byte, hidpp_start, dj_start}
use Rattle.report.specs.Reading as reading
use Rattle.report.specs.Reading.{Report, Read, report_from, read_rule}
use Rattle.port.specs.declared.Port.{Port}
use Rattle.port.specs.declared.Request.{Request}
use Rattle.port.specs.Records.{empty_place, fresh_port, made_fresh, request_in, with_places, with_pairing, with_serial, with_link, with_reports}
use Rattle.port.specs.Places.{is_empty, matches, count_waiting}
use Rattle.port.specs.Waiting.{ended_at}
use Rattle.port.specs.Answers.{Answer, refused, reply, stray, plain, event, failed, radio, notice, empty_list, Result}
use Rattle.matching.specs.declared.Message.{Message}
use Rattle.matching.specs.Messages.{message_of}
use Rattle.matching.specs.Matching.{answers}
use Rattle.matching.proofs.AnsweringLaws.{answers_exactly}
use Rattle.hidpp.specs.HidppTaking.{carried, is_error, error_fits, named2, named3, code}
use Rattle.serial.specs.Serials.{Given, no_serial, serial_of, given_by, is_another, SerialResult, serial_rule}
use Rattle.serial.specs.Giving.{Gives}
use Rattle.serial.proofs.GivingLaws.{given_exactly}
use Rattle.dj.specs.DjTaking.{take_dj}
use Rattle.station.specs.declared.Station.{Station}
use Rattle.station.specs.Stations.{port_count, position_of, with_port}
use Rattle.station.proofs.StationsLaws.{device_number, same_port, position_within}
use Rattle.station.specs.StationTaking.{stored_at, with_drops, also_at, take_by, take_rule}
use Rattle.sequence.specs.Readings.{ReadFits}
use Rattle.sequence.proofs.ReadingsLaws.{dj_port, read_fits}
use Rattle.sequence.specs.Remaining.{view, taken_drops}
use Rattle.sequence.proofs.NumbersLaws.{device_port, one_number}
use Rattle.sequence.proofs.IndependenceLaws.{stored, elsewhere}
use Rattle.reach.specs.Sound.{SoundPlaces, Reached}
use Rattle.reach.proofs.SoundLaws.{reply_records, error_records, event_records}
use Rattle.reach.specs.CallCases.{Waits, Answered, Unasked, failed_place, replied_place, gives, IsStray, unnamed, other_ping, register, reserved, late, IsPlain, notification, major1, IsEvent, software0, HidppCase, gives_failed, gives_reply, gives_stray, gives_plain, gives_event, radio_unpaired, radio_undeclared, radio_dirty, link_unpaired, DjCase, dj_refused, radio_taken, unpairs, paired_same, paired_new, link_set, other_notice}
use Rattle.reach.proofs.CallCasesLaws.{not_so, ping_no_error, answers_matches, answered_waits, serial_answered, hidpp_case, serial_case, dj_case}
use Rattle.reach.proofs.EndsLaws.{Emptied, hit, miss, answered_place, emptied_at, fresh_empty}
use Rattle.reach.specs.Completion.{is_reply, is_failure, is_hidpp_read, is_fitting, OtherPing, makes_fresh, answers_request, swaps, read_ends, Swaps, Told, Completion}

-- at its port: when the answer is a reply, and when an error, and what becomes of each place
record HidppAt (p : Port) (m : Message) (r : Result) : Type 0 where
  reply : (is_reply r.answer ≡ true) ↔ ((is_error m.byte2.0 ≡ false) × Answered p m)
  failure : (is_failure r.answer ≡ true) ↔ ((is_error m.byte2.0 ≡ true) × ((error_fits m ≡ true) × Waits p (named2 m) (named3 m)))
  place : (i : ℕ) → request_in r.port.places i ≡ cond (cond (is_error m.byte2.0) (error_fits m && matches (named2 m) (named3 m) (request_in p.places i)) (answers m (request_in p.places i))) empty_place (request_in p.places i)
  other : Waits p m.byte2.0 m.byte3 → is_error m.byte2.0 ≡ false → ¬ Answered p m → (r.answer ≡ carried stray m) × (r.port ≡ p)

module _ (p : Port) (m : Message) (s : SoundPlaces p.places) where
  abbrev b2 : ℕ
  b2 = m.byte2.0

  by_emptied : {byte2 byte3 : ℕ} {before after : Request} → Emptied byte2 byte3 before after → after ≡ cond (matches byte2 byte3 before) empty_place before
  by_emptied (hit e z) = simp e z
  by_emptied (miss e z) = simp e z

  -- where one is answered, no other waits with these bytes 2 and 3: either test is that one's
  either_test : Answered p m → (i : ℕ) → answers m (request_in p.places i) ≡ matches b2 m.byte3 (request_in p.places i)
  either_test w i = go (matches b2 m.byte3 (request_in p.places i)) refl
    where
      go : (b : Bool) → matches b2 m.byte3 (request_in p.places i) ≡ b → answers m (request_in p.places i) ≡ b
      go true e =
          subst (λ (j : ℕ). answers m (request_in p.places j) ≡ true) (s.unique b2 m.byte3 w.0 i (answers_matches m (request_in p.places w.0) w.1) e) w.1
      go false e = simp e

  -- no error, and no request that it answers: nothing ends
  unanswered_at : {r : Result} → is_error b2 ≡ false → ¬ Answered p m → is_reply r.answer ≡ false → is_failure r.answer ≡ false → r.port.places ≡ p.places → (Waits p b2 m.byte3 → (r.answer ≡ carried stray m) × (r.port ≡ p)) → HidppAt p m r
  unanswered_at {r} no_error none a b e waited =
      record {
        reply = (λ q. absurd (false≢true (sym a ∙ q)), λ q. absurd (none q.1));
        failure = (λ q. absurd (false≢true (sym b ∙ q)), λ q. absurd (true≢false (sym q.0 ∙ no_error)));
        place = λ i. simp (no_error, not_so (answers m (request_in p.places i)) (λ q. none (i, q))) (ap (λ (l : List Request). request_in l i) e);
        other = λ w q n. waited w;
      }

  -- and none with its bytes 2 and 3
  unasked_at : {r : Result} → Unasked p m → is_reply r.answer ≡ false → is_failure r.answer ≡ false → r.port.places ≡ p.places → HidppAt p m r
  unasked_at u a b e =
      unanswered_at u.0 (λ w. u.1 (answered_waits p m w)) a b e (λ w. absurd (u.1 w))

  stray_at : IsStray p m → HidppAt p m (gives (carried stray m) p)
  stray_at (unnamed e n) =
      record {
        reply = (λ q. absurd (false≢true q), λ q. absurd (true≢false (sym e ∙ q.0)));
        failure = (λ q. absurd (false≢true q), λ q. absurd (n q.1));
        place = λ i. simp (e, not_so (error_fits m && matches (named2 m) (named3 m) (request_in p.places i)) (λ q. let h = both _ _ q in n (h.0, (i, h.1))));
        other = λ w q n. absurd (true≢false (sym e ∙ q));
      }
  stray_at (other_ping e n w) = unanswered_at (ping_no_error b2 m.byte3 e) n refl refl refl (λ q. (refl, refl))
  stray_at (register u h l) = unasked_at u refl refl refl
  stray_at (reserved u h) = unasked_at u refl refl refl
  stray_at (late u l v w) = unasked_at u refl refl refl

  plain_at : {r : Result} → IsPlain p m → is_reply r.answer ≡ false → is_failure r.answer ≡ false → r.port.places ≡ p.places → HidppAt p m r
  plain_at (notification u h l) a b z = unasked_at u a b z
  plain_at (major1 u l v) a b z = unasked_at u a b z

  event_at : {r : Result} → IsEvent p m → is_reply r.answer ≡ false → is_failure r.answer ≡ false → r.port.places ≡ p.places → HidppAt p m r
  event_at (software0 u l v w) a b z = unasked_at u a b z

  hidpp_at : {r : Result} → HidppCase p m r → HidppAt p m r
  unfolding ended_at with_places
  hidpp_at (gives_failed h) =
      record {
        reply = (λ q. absurd (false≢true q), λ q. absurd (true≢false (sym h.0 ∙ q.0)));
        failure = (λ q. h, λ q. refl);
        place = λ i. simp (h.0, h.1.0) (ap (λ (l : List Request). request_in l i) (error_records (ended_at p (failed_place p m)) b2 (named2 m) (named3 m) (code m)).places ∙ by_emptied (emptied_at p s (named2 m) (named3 m) h.1.1 i));
        other = λ w q n. absurd (true≢false (sym h.0 ∙ q));
      }
  hidpp_at (gives_reply h) =
      record {
        reply = (λ q. h, λ q. refl);
        failure = (λ q. absurd (false≢true q), λ q. absurd (true≢false (sym q.0 ∙ h.0)));
        place = λ i. simp (h.0, either_test h.1 i) (ap (λ (l : List Request). request_in l i) ((reply_records (ended_at p (replied_place p m)) m (request_in p.places (replied_place p m))).places ∙ ap (λ (place : ℕ). set p.places place empty_place) (answered_place p s m h.1)) ∙ by_emptied (emptied_at p s b2 m.byte3 (answered_waits p m h.1) i));
        other = λ w q n. absurd (n h.1);
      }
  hidpp_at (gives_stray h) = stray_at h
  hidpp_at (gives_plain h) = plain_at h refl refl refl
  hidpp_at (gives_event h) = event_at h refl refl (event_records p m).places

-- a DJ report at its port
record DjAt (p : Port) (kind : ℕ) (bytes : List ℕ) (r : Result) : Type 0 where
  reply : is_reply r.answer ≡ false
  failure : is_failure r.answer ≡ false
  place : (i : ℕ) → request_in r.port.places i ≡ cond (makes_fresh p kind bytes && not (is_empty (request_in p.places i))) empty_place (request_in p.places i)

module _ (p : Port) (r : Report) (bytes : List ℕ) (s : SoundPlaces p.places) where
  dj_keeps : {x : Result} → is_reply x.answer ≡ false → is_failure x.answer ≡ false → makes_fresh p r.byte2 bytes ≡ false → x.port.places ≡ p.places → DjAt p r.byte2 bytes x
  dj_keeps a b e z =
      record { reply = a; failure = b; place = λ i. simp e (ap (λ (l : List Request). request_in l i) z) }

  dj_drops : {x : Result} → is_reply x.answer ≡ false → is_failure x.answer ≡ false → makes_fresh p r.byte2 bytes ≡ true → x.port.places ≡ fresh_port.places → DjAt p r.byte2 bytes x
  dj_drops {x} a b e z =
      record { reply = a; failure = b; place = λ i. simp e (fresh_empty 0 p x.port z i ∙ go i (is_empty (request_in p.places i)) refl) }
    where
      go : (i : ℕ) (c : Bool) → is_empty (request_in p.places i) ≡ c → empty_place ≡ cond (not c) empty_place (request_in p.places i)
      go i true h = sym ((s.each i).empty h)
      go i false h = refl

  -- neither 0x40 nor 0x41
  other_kind : ¬ (r.byte2 ≡ 0x40) → ¬ (r.byte2 ≡ 0x41) → makes_fresh p r.byte2 bytes ≡ false
  other_kind a b = simp ne_eqb

  dj_at : {x : Result} → DjCase p r bytes x → DjAt p r.byte2 bytes x
  unfolding with_link with_reports with_pairing made_fresh
  dj_at (dj_refused (radio_unpaired l u)) = dj_keeps refl refl (other_kind (omega arith) (omega arith)) refl
  dj_at (dj_refused (radio_undeclared l u d)) = dj_keeps refl refl (other_kind (omega arith) (omega arith)) refl
  dj_at (dj_refused (radio_dirty l u d n)) = dj_keeps refl refl (other_kind (omega arith) (omega arith)) refl
  dj_at (dj_refused (link_unpaired e u)) = dj_keeps refl refl (simp e) refl
  dj_at (radio_taken l u d h) = dj_keeps refl refl (other_kind (omega arith) (omega arith)) refl
  dj_at (unpairs e) = dj_drops refl refl (simp e) refl
  dj_at (paired_same e q) = dj_keeps refl refl (simp (e, q)) refl
  dj_at (paired_new e q) = dj_drops refl refl (simp (e, q)) refl
  dj_at (link_set e u) = dj_keeps refl refl (simp e) refl
  dj_at (other_notice l) = dj_keeps refl refl (other_kind (omega arith) (omega arith)) refl

or_false : (b : Bool) → (b || false) ≡ b
or_false true = refl
or_false false = refl

-- a drop count makes an answer neither a reply nor an error, nor the other way round
drops_reply : (dropped : ℕ) (a : Answer) → (is_reply (with_drops dropped a) ≡ is_reply a) × (is_failure (with_drops dropped a) ≡ is_failure a)
drops_reply dropped (refused number) = (refl, refl)
drops_reply dropped (reply before a) = (refl, refl)
drops_reply dropped (stray a) = (refl, refl)
drops_reply dropped (plain a) = (refl, refl)
drops_reply dropped (event a) = (refl, refl)
drops_reply dropped (failed a code kind) = (refl, refl)
drops_reply dropped (radio kind start size) = (refl, refl)
drops_reply dropped (notice n) = (refl, refl)

reply_drops : (dropped : ℕ) (a : Answer) → is_reply a ≡ true → taken_drops (with_drops dropped a) ≡ dropped
reply_drops dropped (refused number) e = absurd (false≢true e)
reply_drops dropped (reply before a) e = refl
reply_drops dropped (stray a) e = absurd (false≢true e)
reply_drops dropped (plain a) e = absurd (false≢true e)
reply_drops dropped (event a) e = absurd (false≢true e)
reply_drops dropped (failed a code kind) e = absurd (false≢true e)
reply_drops dropped (radio kind start size) e = absurd (false≢true e)
reply_drops dropped (notice n) e = absurd (false≢true e)

-- the places of a port that is told a serial: another one empties all
serial_places : (p : Port) (number : ℕ) → SoundPlaces p.places → (i : ℕ) → request_in (serial_rule p number).port.places i ≡ cond ((p.paired && is_another p.serial number) && not (is_empty (request_in p.places i))) empty_place (request_in p.places i)
unfolding serial_rule with_serial with_pairing made_fresh
serial_places p number s i = go p.paired (is_another p.serial number)
  where
    emptied : (c : Bool) → is_empty (request_in p.places i) ≡ c → empty_place ≡ cond (not c) empty_place (request_in p.places i)
    emptied true h = sym ((s.each i).empty h)
    emptied false h = refl

    kept : Bool → Bool → SerialResult
    kept a b =
        cond (not a) (record { dropped = 0; port = p })
        (cond b (record { dropped = count_waiting p.places; port = with_serial (with_pairing (made_fresh p) p.wpid p.reports) (Some number) }) (record { dropped = 0; port = with_serial p (Some number) }))

    go : (a b : Bool) → request_in (kept a b).port.places i ≡ cond ((a && b) && not (is_empty (request_in p.places i))) empty_place (request_in p.places i)
    go false b = refl
    go true false = refl
    go true true =
        fresh_empty 0 p (with_serial (with_pairing (made_fresh p) p.wpid p.reports) (Some number)) refl i ∙ emptied (is_empty (request_in p.places i)) refl

-- at its own port no report has a drop count of a reply
hidpp_drops : {p : Port} {m : Message} {r : Result} → HidppCase p m r → taken_drops r.answer ≡ 0
hidpp_drops (gives_failed h) = refl
hidpp_drops (gives_reply h) = refl
hidpp_drops (gives_stray h) = refl
hidpp_drops (gives_plain h) = refl
hidpp_drops (gives_event h) = refl

dj_drops_none : {p : Port} {r : Report} {bytes : List ℕ} {x : Result} → DjCase p r bytes x → taken_drops x.answer ≡ 0
dj_drops_none (dj_refused h) = refl
dj_drops_none (radio_taken l u d h) = refl
dj_drops_none (unpairs e) = refl
dj_drops_none (paired_same e q) = refl
dj_drops_none (paired_new e q) = refl
dj_drops_none (link_set e u) = refl
dj_drops_none (other_notice l) = refl

module _ (st : Station) (k : Reached st) (bytes : List ℕ) where
  places_of : (n : ℕ) → SoundPlaces (view n st).places
  places_of n = (k.each (position_of n) (position_within n)).waiting

  -- the places of every port, where the port of a number is stored
  ends_at : (number n : ℕ) (q : Port) → is_port number ≡ true → is_port n ≡ true → (test : ℕ → Port → Request → Bool) → ((i : ℕ) → request_in q.places i ≡ cond (test number (view number st) (request_in (view number st).places i)) empty_place (request_in (view number st).places i)) → (i : ℕ) → request_in (view n (with_port st (position_of number) q)).places i ≡ cond (eqb number n && test n (view n st) (request_in (view n st).places i)) empty_place (request_in (view n st).places i)
  ends_at number n q d h test e i = go (eqb number n) refl
    where
      go : (b : Bool) → eqb number n ≡ b → request_in (view n (with_port st (position_of number) q)).places i ≡ cond (b && test n (view n st) (request_in (view n st).places i)) empty_place (request_in (view n st).places i)
      go true z =
          subst (λ (j : ℕ). request_in (view j (with_port st (position_of number) q)).places i ≡ cond (test j (view j st) (request_in (view j st).places i)) empty_place (request_in (view j st).places i)) (eqb-true number n z) (ap (λ (p : Port). request_in p.places i) (stored st (position_of number) q (position_within number) k.all) ∙ e i)
      go false z =
          ap (λ (p : Port). request_in p.places i) (elsewhere st (position_of number) (position_of n) q (λ y. eqb-false number n z (sym (one_number n number h d y))))

  seven_first : (q : Port) → length (with_port st (position_of (byte bytes 1)) q).ports ≡ port_count
  unfolding with_port
  seven_first q = length-set st.ports (position_of (byte bytes 1)) q ∙ k.all

  abbrev Done : Answer → Station → Type 0
  Done = Completion st bytes

  -- nothing is taken
  none_taken : (answer : Answer) → taken_drops answer ≡ 0 → is_reply answer ≡ false → is_failure answer ≡ false → is_hidpp_read (read_rule bytes) ≡ false → ((n : ℕ) (p : Port) (r : Request) → read_ends (view (byte bytes 1) st) (read_rule bytes) bytes n p r ≡ false) → Done answer st
  none_taken answer z a b e f =
      record {
        replies = (λ q. absurd (false≢true (sym a ∙ q)), λ q. absurd (true≢false (sym q.0 ∙ e)));
        fails = (λ q. absurd (false≢true (sym b ∙ q)), λ q. absurd (true≢false (sym q.0 ∙ e)));
        ends = λ n h i. simp (f n (view n st) (request_in (view n st).places i));
        other_ping_law = λ o. absurd (true≢false (sym o.read ∙ e));
        one = λ q. absurd (true≢false (sym q ∙ e));
        told = λ q. absurd (true≢false (sym q ∙ e));
        untold = λ n. z;
        beside = λ q. absurd (true≢false (sym q ∙ e));
      }

  -- a HID++ report: what is read is what the bytes say
  abbrev report : Report
  report = report_from hidpp_start bytes

  abbrev message : Message
  message = message_of report bytes

  abbrev own : Port
  own = view (byte bytes 1) st

  abbrev given : Given
  given = given_by own report bytes

  -- the request that the report answers
  abbrev answered : Request → Bool
  answered r = cond (is_error (byte bytes 2)) (is_fitting bytes && matches (byte bytes 3) (byte bytes 4) r) (answers message r)

  -- only a report on port 255 gives a serial, and it is not 255's
  given_fits : (device number : ℕ) → given ≡ serial_of device number → (byte bytes 1 ≡ 255) × (is_device device ≡ true)
  unfolding report_from
  given_fits device number q = let g = (given_exactly own report bytes device number).0 q in (g.receiver, g.named)

  swaps_other : (n : ℕ) → byte bytes 1 ≡ n → (p : Port) → swaps n p given ≡ false
  swaps_other n e p = go given (given_fits)
    where
      go : (g : Given) → ((device number : ℕ) → g ≡ serial_of device number → (byte bytes 1 ≡ 255) × (is_device device ≡ true)) → swaps n p g ≡ false
      go no_serial f = refl
      go (serial_of device number) f =
          let h = f device number refl in
          simp (ne_eqb device n (λ q. let z : device ≡ 255 = q ∙ sym e ∙ h.0 in omega (arith, (device_number device h.1).1)))

  -- on the port that it names it ends the one that it answers
  on_own : (n : ℕ) → byte bytes 1 ≡ n → (p : Port) (r : Request) → read_ends own (reading.hidpp report) bytes n p r ≡ answered r
  on_own n e p r = cc (eq-eqb (byte bytes 1) n e, swaps_other n e p, or_false (answered r))

  -- on any other those of a device that has another serial now
  on_other : (n : ℕ) → eqb (byte bytes 1) n ≡ false → (p : Port) (r : Request) → read_ends own (reading.hidpp report) bytes n p r ≡ swaps n p given && not (is_empty r)
  on_other n e p r = simp e

  hidpp_one : (i j : ℕ) → read_ends own (reading.hidpp report) bytes (byte bytes 1) own (request_in own.places i) ≡ true → read_ends own (reading.hidpp report) bytes (byte bytes 1) own (request_in own.places j) ≡ true → i ≡ j
  hidpp_one i j p q =
      go (is_error (byte bytes 2)) (sym (on_own (byte bytes 1) refl own (request_in own.places i)) ∙ p) (sym (on_own (byte bytes 1) refl own (request_in own.places j)) ∙ q)
    where
      go : (c : Bool) → cond c (is_fitting bytes && matches (byte bytes 3) (byte bytes 4) (request_in own.places i)) (answers message (request_in own.places i)) ≡ true → cond c (is_fitting bytes && matches (byte bytes 3) (byte bytes 4) (request_in own.places j)) (answers message (request_in own.places j)) ≡ true → i ≡ j
      go true y z =
          (places_of (byte bytes 1)).unique (byte bytes 3) (byte bytes 4) i j (both (is_fitting bytes) (matches (byte bytes 3) (byte bytes 4) (request_in own.places i)) y).1 (both (is_fitting bytes) (matches (byte bytes 3) (byte bytes 4) (request_in own.places j)) z).1
      go false y z =
          (places_of (byte bytes 1)).unique message.byte2.0 message.byte3 i j (answers_matches message (request_in own.places i) y) (answers_matches message (request_in own.places j) z)

  -- another serial, in the words of the documents
  swapped : (n : ℕ) → (swaps n (view n st) given ≡ true) ↔ Swaps st bytes n
  unfolding report_from
  swapped n = (to given refl, from)
    where
      other : (s : Option ℕ) (number : ℕ) → is_another s number ≡ true → (known : ℕ) × ((s ≡ Some known) × (¬ (known ≡ number)))
      other None number e = absurd (false≢true e)
      other (Some known) number e = (known, (refl, eqb-false known number (not-true (eqb known number) e)))

      to : (g : Given) → given ≡ g → swaps n (view n st) g ≡ true → Swaps st bytes n
      to no_serial q e = absurd (false≢true e)
      to (serial_of device number) q e =
          let f = both (eqb device n) ((view n st).paired && is_another (view n st).serial number) e in
          let h = both (view n st).paired (is_another (view n st).serial number) f.1 in
          let k = other (view n st).serial number h.1 in
          let g = (given_exactly own report bytes device number).0 q in
          record {
            known = k.0;
            number = number;
            given = subst (λ (d : ℕ). Gives (view 255 st) report bytes d number) (eqb-true device n f.0) (subst (λ (i : ℕ). Gives (view i st) report bytes device number) (given_fits device number q).0 g);
            paired = h.0;
            before = k.1.0;
            differs = k.1.1;
          }

      from : Swaps st bytes n → swaps n (view n st) given ≡ true
      from s =
          let on : byte bytes 1 ≡ 255 = s.given.receiver in
          let g : given ≡ serial_of n s.number = (given_exactly own report bytes n s.number).1 (subst (λ (i : ℕ). Gives (view i st) report bytes n s.number) (sym on) s.given) in
          cc (g, eq-eqb n n refl, s.paired, s.before, ne_eqb s.known s.number s.differs)

  hidpp_beside : (n : ℕ) → ¬ (byte bytes 1 ≡ n) → (i : ℕ) → (read_ends own (reading.hidpp report) bytes n (view n st) (request_in (view n st).places i) ≡ true) ↔ (Swaps st bytes n × (is_empty (request_in (view n st).places i) ≡ false))
  hidpp_beside n differs i =
      let at = on_other n (ne_eqb (byte bytes 1) n differs) (view n st) (request_in (view n st).places i) in (
        λ e. let h = both (swaps n (view n st) given) (not (is_empty (request_in (view n st).places i))) (sym at ∙ e) in ((swapped n).0 h.0, not-true _ h.1),
        λ s. at ∙ cc ((swapped n).1 s.0, s.1),
      )

  abbrev Ends : ℕ → ℕ → Station → Type 0
  Ends n i next = request_in (view n next).places i ≡ cond (read_ends own (reading.hidpp report) bytes n (view n st) (request_in (view n st).places i)) empty_place (request_in (view n st).places i)

  -- the places of every port after it, by the serial that it gives
  hidpp_places : {x : Result} → is_port (byte bytes 1) ≡ true → HidppAt own message x → (g : Given) → given ≡ g → (n : ℕ) → is_port n ≡ true → (i : ℕ) → Ends n i (also_at st g (stored_at st (position_of (byte bytes 1)) x)).station
  unfolding message_of report_from
  hidpp_places {x} d h no_serial q n port i =
      ends_at (byte bytes 1) n x.port d port (λ j p r. answered r) h.place i
      ∙ ap (λ (b : Bool). cond b empty_place (request_in (view n st).places i)) (sym (ap (λ (g : Given). answers_request bytes n (request_in (view n st).places i) || (swaps n (view n st) g && not (is_empty (request_in (view n st).places i)))) q ∙ or_false (answers_request bytes n (request_in (view n st).places i))))
  hidpp_places {x} d h (serial_of device number) q n port i = go (eqb device n) refl
    where
      fits : (byte bytes 1 ≡ 255) × (is_device device ≡ true)
      fits = given_fits device number q

      by_given : (b c : Bool) → answers_request bytes n (request_in (view n st).places i) ≡ b → swaps n (view n st) (serial_of device number) && not (is_empty (request_in (view n st).places i)) ≡ c → (b || c) ≡ read_ends own (reading.hidpp report) bytes n (view n st) (request_in (view n st).places i)
      by_given b c e f = cc (q, e, f)

      go : (b : Bool) → eqb device n ≡ b → Ends n i (with_port (with_port st (position_of (byte bytes 1)) x.port) (position_of device) (serial_rule (view device st) number).port)
      go true e =
          let is : device ≡ n = eqb-true device n e in
          let away : eqb (byte bytes 1) n ≡ false = ne_eqb (byte bytes 1) n (λ z. let y : device ≡ 255 = is ∙ sym z ∙ fits.0 in omega (arith, (device_number device fits.1).1)) in
          ap (λ (m : ℕ). request_in (view m (with_port (with_port st (position_of (byte bytes 1)) x.port) (position_of device) (serial_rule (view device st) number).port)).places i) (sym is)
          ∙ ap (λ (p : Port). request_in p.places i) (stored (with_port st (position_of (byte bytes 1)) x.port) (position_of device) (serial_rule (view device st) number).port (position_within device) (seven_first x.port))
          ∙ ap (λ (m : ℕ). request_in (serial_rule (view m st) number).port.places i) is
          ∙ serial_places (view n st) number (places_of n) i
          ∙ ap (λ (b : Bool). cond b empty_place (request_in (view n st).places i)) (by_given false (((view n st).paired && is_another (view n st).serial number) && not (is_empty (request_in (view n st).places i))) (simp away) (simp e))
      go false e =
          ap (λ (p : Port). request_in p.places i) (elsewhere (with_port st (position_of (byte bytes 1)) x.port) (position_of device) (position_of n) (serial_rule (view device st) number).port (λ y. eqb-false device n e (sym (one_number n device port (device_port device fits.1) y))))
          ∙ ends_at (byte bytes 1) n x.port d port (λ j p r. answered r) h.place i
          ∙ ap (λ (b : Bool). cond b empty_place (request_in (view n st).places i)) (sym (or_false (answers_request bytes n (request_in (view n st).places i))) ∙ by_given (answers_request bytes n (request_in (view n st).places i)) false refl (simp e))

  -- the device whose serial it gives
  hidpp_told : {x : Result} → is_port (byte bytes 1) ≡ true → HidppAt own message x → (n number : ℕ) → Gives (view 255 st) report bytes n number → Told (view n st) (view n (also_at st given (stored_at st (position_of (byte bytes 1)) x)).station) number (also_at st given (stored_at st (position_of (byte bytes 1)) x)).answer
  unfolding message_of report_from
  hidpp_told {x} d h n number g =
      let on : byte bytes 1 ≡ 255 = g.receiver in
      let here : Gives own report bytes n number = subst (λ (i : ℕ). Gives (view i st) report bytes n number) (sym on) g in
      let gives : given ≡ serial_of n number = (given_exactly own report bytes n number).1 here in
      let replied : is_reply x.answer ≡ true = h.reply.1 (ap is_error g.byte2, serial_answered own (places_of (byte bytes 1)).all report bytes here) in
      record {
        result = serial_rule (view n st) number;
        so = serial_case (view n st) number;
        port = ap (λ (y : Given). view n (also_at st y (stored_at st (position_of (byte bytes 1)) x)).station) gives ∙ stored (with_port st (position_of (byte bytes 1)) x.port) (position_of n) (serial_rule (view n st) number).port (position_within n) (seven_first x.port);
        drops = ap (λ (y : Given). taken_drops (also_at st y (stored_at st (position_of (byte bytes 1)) x)).answer) gives ∙ reply_drops (serial_rule (view n st) number).dropped x.answer replied;
      }

  -- its answer, with or without a drop count
  hidpp_answer : (x : Result) (g : Given) → (is_reply (also_at st g (stored_at st (position_of (byte bytes 1)) x)).answer ≡ is_reply x.answer) × (is_failure (also_at st g (stored_at st (position_of (byte bytes 1)) x)).answer ≡ is_failure x.answer)
  hidpp_answer x no_serial = (refl, refl)
  hidpp_answer x (serial_of device number) = drops_reply (serial_rule (view device st) number).dropped x.answer

  -- where it gives no serial, it has none
  hidpp_untold : (x : Result) → taken_drops x.answer ≡ 0 → ((n number : ℕ) → ¬ Gives (view 255 st) report bytes n number) → taken_drops (also_at st given (stored_at st (position_of (byte bytes 1)) x)).answer ≡ 0
  unfolding report_from
  hidpp_untold x none n = go given refl
    where
      go : (g : Given) → given ≡ g → taken_drops (also_at st g (stored_at st (position_of (byte bytes 1)) x)).answer ≡ 0
      go no_serial q = none
      go (serial_of device number) q =
          let g = (given_exactly own report bytes device number).0 q in
          absurd (n device number (subst (λ (i : ℕ). Gives (view i st) report bytes device number) g.receiver g))

  -- where another ping waits it is not answered, since no other waits with its bytes 2 and 3
  hidpp_other : {x : Result} → is_port (byte bytes 1) ≡ true → HidppAt own message x → OtherPing st bytes → ((also_at st given (stored_at st (position_of (byte bytes 1)) x)).answer ≡ carried stray message) × ((also_at st given (stored_at st (position_of (byte bytes 1)) x)).station ≡ st)
  unfolding message_of report_from
  hidpp_other {x} d h o = go given refl
    where
      none : ¬ Answered own message
      none w =
          let is : w.0 ≡ o.place = (places_of (byte bytes 1)).unique (byte bytes 2) (byte bytes 3) w.0 o.place (answers_matches message (request_in own.places w.0) w.1) o.waits in
          o.differs (((answers_exactly bytes (request_in own.places o.place)).0 (subst (λ (i : ℕ). answers message (request_in own.places i) ≡ true) is w.1)).ping o.byte2 o.function1)

      so : (x.answer ≡ carried stray message) × (x.port ≡ own)
      so = h.other (o.place, o.waits) (ap is_error o.byte2) none

      go : (g : Given) → given ≡ g → ((also_at st g (stored_at st (position_of (byte bytes 1)) x)).answer ≡ carried stray message) × ((also_at st g (stored_at st (position_of (byte bytes 1)) x)).station ≡ st)
      go no_serial q =
          (so.0, ap (λ (p : Port). with_port st (position_of (byte bytes 1)) p) so.1 ∙ same_port st (position_of (byte bytes 1)))
      go (serial_of device number) q =
          absurd (let z : 0x83 ≡ 0 = sym ((given_exactly own report bytes device number).0 q).byte2 ∙ o.byte2 in omega arith)

  hidpp_done : {x : Result} → read_rule bytes ≡ reading.hidpp report → is_port (byte bytes 1) ≡ true → HidppAt own message x → taken_drops x.answer ≡ 0 → Done (also_at st given (stored_at st (position_of (byte bytes 1)) x)).answer (also_at st given (stored_at st (position_of (byte bytes 1)) x)).station
  unfolding message_of report_from
  hidpp_done {x} e d h none =
      let read : is_hidpp_read (read_rule bytes) ≡ true = ap is_hidpp_read e in
      let a = hidpp_answer x given in
      record {
        replies = (
          λ q. let w = h.reply.0 (sym a.0 ∙ q) in (read, (w.0, (w.1.0, (answers_exactly bytes (request_in own.places w.1.0)).0 w.1.1))),
          λ q. a.0 ∙ h.reply.1 (q.1.0, (q.1.1.0, (answers_exactly bytes (request_in own.places q.1.1.0)).1 q.1.1.1)),
        );
        other_ping_law = hidpp_other d h;
        fails = (λ q. (read, h.failure.0 (sym a.1 ∙ q)), λ q. a.1 ∙ h.failure.1 q.1);
        ends = λ n g i. subst (λ (y : Read). request_in (view n (also_at st given (stored_at st (position_of (byte bytes 1)) x)).station).places i ≡ cond (read_ends own y bytes n (view n st) (request_in (view n st).places i)) empty_place (request_in (view n st).places i)) (sym e) (hidpp_places d h given refl n g i);
        one = λ q i j y z. hidpp_one i j (subst (λ (t : Read). read_ends own t bytes (byte bytes 1) own (request_in own.places i) ≡ true) e y) (subst (λ (t : Read). read_ends own t bytes (byte bytes 1) own (request_in own.places j) ≡ true) e z);
        told = λ q n number g. hidpp_told d h n number g;
        untold = λ n. hidpp_untold x none n;
        beside = λ q n g differs i. subst (λ (t : Read). (read_ends own t bytes n (view n st) (request_in (view n st).places i) ≡ true) ↔ (Swaps st bytes n × (is_empty (request_in (view n st).places i) ≡ false))) (sym e) (hidpp_beside n differs i);
      }

  dj_done : {x : Result} → read_rule bytes ≡ reading.dj (report_from dj_start bytes) → is_port (byte bytes 1) ≡ true → DjAt (view (byte bytes 1) st) (byte bytes 2) bytes x → taken_drops x.answer ≡ 0 → Done x.answer (with_port st (position_of (byte bytes 1)) x.port)
  unfolding report_from
  dj_done {x} e d h none =
      let read : is_hidpp_read (read_rule bytes) ≡ false = ap is_hidpp_read e in
      record {
        replies = (λ q. absurd (false≢true (sym h.reply ∙ q)), λ q. absurd (true≢false (sym q.0 ∙ read)));
        fails = (λ q. absurd (false≢true (sym h.failure ∙ q)), λ q. absurd (true≢false (sym q.0 ∙ read)));
        ends = λ n g i. subst (λ (y : Read). request_in (view n (with_port st (position_of (byte bytes 1)) x.port)).places i ≡ cond (read_ends (view (byte bytes 1) st) y bytes n (view n st) (request_in (view n st).places i)) empty_place (request_in (view n st).places i)) (sym e) (ends_at (byte bytes 1) n x.port d g (λ j p r. makes_fresh p (byte bytes 2) bytes && not (is_empty r)) h.place i);
        other_ping_law = λ o. absurd (true≢false (sym o.read ∙ read));
        one = λ q. absurd (true≢false (sym q ∙ read));
        told = λ q. absurd (true≢false (sym q ∙ read));
        untold = λ n. none;
        beside = λ q. absurd (true≢false (sym q ∙ read));
      }

  take_done : (x : Read) → read_rule bytes ≡ x → ReadFits bytes x → Done (take_by x bytes st).answer (take_by x bytes st).station
  unfolding take_by report_from
  take_done (reading.refused number) e n =
      none_taken (refused number) refl refl refl (ap is_hidpp_read e) (λ i p r. ap (λ (y : Read). read_ends (view (byte bytes 1) st) y bytes i p r) e)
  take_done (reading.empty_list r) e n =
      none_taken (notice empty_list) refl refl refl (ap is_hidpp_read e) (λ i p q. ap (λ (y : Read). read_ends (view (byte bytes 1) st) y bytes i p q) e)
  take_done (reading.hidpp r) e n =
      subst (λ (y : Report). read_rule bytes ≡ reading.hidpp y → is_port y.device ≡ true → Done (take_by (reading.hidpp y) bytes st).answer (take_by (reading.hidpp y) bytes st).station) (sym n.1.1) (λ z d. let c = hidpp_case own (places_of (byte bytes 1)).all message in hidpp_done z d (hidpp_at _ _ (places_of (byte bytes 1)) c) (hidpp_drops c)) e n.0
  take_done (reading.dj r) e n =
      subst (λ (y : Report). read_rule bytes ≡ reading.dj y → is_port y.device ≡ true → Done (take_dj (view y.device st) y bytes).answer (with_port st (position_of y.device) (take_dj (view y.device st) y bytes).port)) (sym n.1.1) (λ z d. let c = dj_case own (report_from dj_start bytes) bytes z in dj_done z d (dj_at _ (report_from dj_start bytes) bytes (places_of (byte bytes 1)) c) (dj_drops_none c)) e (dj_port r.device r.byte2 n.1.0)

  pub completion : Completion st bytes (take_rule st bytes).answer (take_rule st bytes).station
  unfolding take_rule
  completion = take_done (read_rule bytes) refl (read_fits bytes)
