-- Document 01, "Refusal numbers", "Writing", "Taking a HID++ report" and "Taking a DJ report": the cases of a call are complete, and exclude each other.
use Rattle.std.specs.Prelude.{ℕ, ◌<◌, ◌≡◌, ◌↔◌, Bool, false, cond, not, ◌&&◌, List, length, leb, eqb, Option, Some, None}
use Rattle.std.proofs.Math.Path.{refl, ap, subst}
use Rattle.std.proofs.Common.{sym, ◌∙◌, arith}
use Rattle.std.proofs.Math.Bool.{true, true≢false}
use Rattle.std.proofs.Math.Decide.{dec_lt}
use borrow.Author.Tests.{leb-true, leb-false, eqb-true, eqb-false, ltb-true, ltb-false, not-true, not-false, lt-ltb, le-ltb, le-leb, lt-leb, eq-eqb, ne_eqb}
use Rattle.report.proofs.ChoicesLaws.{by_case, both, in_range_law}
use Rattle.report.specs.Refusals.{not_waiting}
use Rattle.report.specs.Reading as reading
use Rattle.report.specs.Sizes.{byte}
use Rattle.report.specs.Reading.{Report, Read, goes_down, report_from, read_rule}
use Rattle.frame.specs.Writing as writing
use Rattle.port.specs.declared.Port.{Port}
use Rattle.port.specs.declared.Request.{Request}
use Rattle.port.specs.Records.{place_count, empty_place, made_fresh, request_in, with_pairing, with_serial}
use Rattle.port.specs.Places.{is_empty, matches, first_at, count_waiting}
use Rattle.port.proofs.SearchingLaws.{found_passes}
use Rattle.port.specs.Waiting as waiting
use Rattle.port.specs.Waiting.{is_found, waiting_at, room_for}
use Rattle.port.proofs.WaitingLaws.{few_waiting, full}
use Rattle.port.specs.Answers.{Answer, refused, reply, stray, plain, event, failed, radio, notice, Result}
use Rattle.matching.specs.declared.Message.{Message}
use Rattle.matching.specs.Messages.{message_of}
use Rattle.matching.specs.Matching.{is_ping, answers, answered_at}
use Rattle.matching.proofs.MatchingLaws.{only_pings}
use Rattle.hidpp.specs.HidppTaking.{carried, is_error, error_fits, named2, named3, error_rule, reply_rule, feature_rule, unasked_rule, unanswered_rule, take_hidpp}
use Rattle.serial.specs.Serials.{Given, no_serial, serial_of, given_by, is_another, SerialResult, serial_rule}
use Rattle.serial.specs.Giving.{Gives}
use Rattle.serial.proofs.GivingLaws.{no_serial_law, given_exactly}
use Rattle.dj.specs.Padding.{is_clean}
use Rattle.dj.specs.Dirty.{Dirty}
use Rattle.dj.proofs.DirtyLaws.{dirty_exactly}
use Rattle.dj.specs.DjTaking.{radio_rule, unpaired_rule, paired_rule, link_rule, other_rule, take_dj}
use Rattle.request.specs.Requesting.{RequestAt, waiting_request, request_by, request_at}
use Rattle.restore.specs.Restoring.{StoreRead, store_of, of_other, broken_at, read_store, restored_by, restore_ports}
use Rattle.keeping.proofs.ReadingLaws.{reads_exactly, other_exactly}
use Rattle.keeping.proofs.LinesLaws.{broken_exactly}
use Rattle.station.specs.declared.Station.{Station}
use Rattle.station.specs.Stations.{position_of, port_for, with_port}
use Rattle.station.proofs.StationsLaws.{position_within}
use Rattle.station.specs.StationTaking.{stored_at, also_at, take_by, take_rule}
use Rattle.station.specs.StationCalls.{RequestOutcome, requested_at, request_rule, CancelOutcome, cancelled_at, cancel_rule, restored_to, restore_rule}
use Rattle.sequence.specs.Steps.{Call, take, request, cancel, tick, write, restore, Outcome, take_step, request_step, cancel_step, restore_step, step}
use Rattle.reach.proofs.ListsLaws.{passes_found}
use Rattle.sequence.specs.Readings.{ReadFits}
use Rattle.sequence.proofs.ReadingsLaws.{read_fits, above}
use Rattle.reach.proofs.SoundLaws.{empty_fails}
use Rattle.reach.specs.CallCases.{Waits, Answered, Unasked, IsFailed, IsReply, IsStray, unnamed, other_ping, register, reserved, late, IsPlain, notification, major1, IsEvent, software0, HidppCase, gives_failed, gives_reply, gives_stray, gives_plain, gives_event, gives, replied_port, SerialCase, keeps_none, first_serial, same_serial, other_serial, radio_unpaired, radio_undeclared, radio_dirty, link_unpaired, DjCase, dj_refused, radio_taken, unpairs, paired_same, paired_new, link_set, other_notice, Writable, RequestRefused, is9, is10, is11, is12, RequestCase, request_refused, accepted, CancelCase, refused13, cancel_done, StepCase, unread, list_empty, hidpp_at_port, serial_at_port, dj_at_port, request5, request_at_port, cancel5, cancel_at_port, tick_all_ports, write_only, restore_store, restore_other, restore_broken, Placed, AllPlaced, ByCases, HidppAnswers, RequestAnswers, CancelAnswers}

-- what is no true test is a false one
pub not_so : (b : Bool) → ¬ (b ≡ true) → b ≡ false
not_so true n = absurd (n refl)
not_so false n = refl

-- what a search finds passes its test, and what passes is found
module _ (p : Port) (placed : Placed p) (test : Request → Bool) (fails : test empty_place ≡ false) where
  abbrev Passes : Type 0
  Passes = (place : ℕ) × (test (request_in p.places place) ≡ true)

  abbrev lowest : ℕ
  lowest = first_at test p.places

  pub passes_there : Passes → (lowest < length p.places) × (test (request_in p.places lowest) ≡ true)
  passes_there w =
      let h : lowest < length p.places = passes_found test empty_place p.places w.0 fails w.1 in
      (h, found_passes test p.places h)

  passes_at : is_found lowest ≡ true → Passes
  passes_at e = (lowest, found_passes test p.places (omega (arith, placed, ltb-true lowest place_count e)))

  found_at : Passes → is_found lowest ≡ true
  found_at w = lt-ltb lowest place_count (omega (arith, placed, (passes_there w).0))

  none_passes : is_found lowest ≡ false → ¬ Passes
  none_passes e w = true≢false (sym (found_at w) ∙ e)

  none_at : ¬ Passes → is_found lowest ≡ false
  none_at n = not_so _ (λ e. n (passes_at e))

-- what is for a ping is no error
pub ping_no_error : (byte2 byte3 : ℕ) → is_ping byte2 byte3 ≡ true → is_error byte2 ≡ false
ping_no_error byte2 byte3 e = ap is_error (eqb-true byte2 0 (both (eqb byte2 0) _ e).0)

-- no report answers an empty place
pub none_answers : (m : Message) → answers m empty_place ≡ false
none_answers m = simp (empty_fails m.byte2.0 m.byte3)

-- a request that is answered waits with the report's bytes 2 and 3
pub answers_matches : (m : Message) (r : Request) → answers m r ≡ true → matches m.byte2.0 m.byte3 r ≡ true
answers_matches m r e = (both (matches m.byte2.0 m.byte3 r) _ e).0

pub answered_waits : (p : Port) (m : Message) → Answered p m → Waits p m.byte2.0 m.byte3
answered_waits p m w = (w.0, answers_matches m (request_in p.places w.0) w.1)

module _ (p : Port) (placed : Placed p) where
  pub waits_at : (byte2 byte3 : ℕ) → is_found (waiting_at p byte2 byte3) ≡ true → Waits p byte2 byte3
  waits_at byte2 byte3 = passes_at p placed (matches byte2 byte3) (empty_fails byte2 byte3)

  found : (byte2 byte3 : ℕ) → Waits p byte2 byte3 → is_found (waiting_at p byte2 byte3) ≡ true
  found byte2 byte3 = found_at p placed (matches byte2 byte3) (empty_fails byte2 byte3)

  none_waits : (byte2 byte3 : ℕ) → is_found (waiting_at p byte2 byte3) ≡ false → ¬ Waits p byte2 byte3
  none_waits byte2 byte3 = none_passes p placed (matches byte2 byte3) (empty_fails byte2 byte3)

  none_found : (byte2 byte3 : ℕ) → ¬ Waits p byte2 byte3 → is_found (waiting_at p byte2 byte3) ≡ false
  none_found byte2 byte3 = none_at p placed (matches byte2 byte3) (empty_fails byte2 byte3)

  -- where fewer wait than the port has places, one is empty
  pub empty_place_law : count_waiting p.places < place_count → first_at is_empty p.places < length p.places
  empty_place_law l = go (dec_lt (first_at is_empty p.places) (length p.places))
    where
      go : Dec (first_at is_empty p.places < length p.places) → first_at is_empty p.places < length p.places
      go (yes h) = h
      go (no h) = absurd (omega (arith, leb-true place_count (count_waiting p.places) (full p.places placed refl (omega arith))))

module _ (p : Port) (placed : Placed p) (m : Message) where
  abbrev Case : Result → Type 0
  Case = HidppCase p m

  abbrev b2 : ℕ
  b2 = m.byte2.0

  -- every report has a case
  feature_case : Unasked p m → b2 < 0x40 → Case (feature_rule p m)
  unfolding feature_rule
  feature_case u l =
      by_case Case _ (λ e. gives_plain (major1 u l e))
      (λ e. by_case Case _ (λ q. gives_event (software0 u l e (eqb-true _ _ q)))
      (λ q. gives_stray (late u l e (eqb-false _ _ q))))

  unasked_case : Unasked p m → Case (unasked_rule p m)
  unfolding unasked_rule
  unasked_case u =
      by_case Case _ (λ e. let h = in_range_law _ _ _ e in gives_stray (register u h.0 h.1))
      (λ e. by_case Case _ (λ q. let h = in_range_law _ _ _ q in gives_plain (notification u h.0 h.1))
      (λ q. by_case Case _ (λ z. feature_case u (ltb-true _ _ z))
      (λ z. gives_stray (reserved u (above 0x80 b2 0x83 e (above 0x40 b2 0x7F q (ltb-false _ _ z)))))))

  unanswered : ¬ Answered p m → is_found (answered_at p m) ≡ false
  unanswered n = none_at p placed (answers m) (none_answers m) n

  unanswered_case : is_error b2 ≡ false → ¬ Answered p m → Case (unanswered_rule p m)
  unfolding unanswered_rule
  unanswered_case e n =
      by_case Case _
      (λ q. gives_stray (other_ping (both (is_ping b2 m.byte3) _ (sym (only_pings p m (unanswered n)) ∙ q)).0 n (waits_at p placed _ _ q)))
      (λ q. unasked_case (e, none_waits p placed _ _ q))

  pub hidpp_case : HidppCase p m (take_hidpp p m)
  unfolding take_hidpp error_rule reply_rule
  hidpp_case =
      by_case Case _
      (λ e. by_case Case _ (λ q. let h = both _ _ q in gives_failed (e, (h.0, waits_at p placed _ _ h.1)))
      (λ q. gives_stray (unnamed e (λ n. true≢false (simp (n.0, found p placed _ _ n.1) at q)))))
      (λ e. by_case Case _ (λ q. gives_reply (e, passes_at p placed (answers m) (none_answers m) q))
      (λ q. unanswered_case e (none_passes p placed (answers m) (none_answers m) q)))

  by_unasked : Unasked p m → take_hidpp p m ≡ unasked_rule p m
  unfolding take_hidpp unanswered_rule
  by_unasked u =
      simp (u.0, unanswered (λ w. u.1 (answered_waits p m w)), none_found p placed b2 m.byte3 u.1)

  low80 : b2 < 0x40 → leb 0x80 b2 ≡ false
  low80 l = lt-leb 0x80 b2 (omega arith)

  -- it has no other
  hidpp_only : {r : Result} → HidppCase p m r → take_hidpp p m ≡ r
  unfolding take_hidpp error_rule reply_rule unanswered_rule unasked_rule feature_rule
  hidpp_only (gives_failed h) = simp (h.0, h.1.0, found p placed (named2 m) (named3 m) h.1.1)
  hidpp_only (gives_reply h) = simp (h.0, found_at p placed (answers m) (none_answers m) h.1)
  hidpp_only (gives_stray (unnamed e n)) = simp (e, not_so (error_fits m && is_found (waiting_at p (named2 m) (named3 m))) (λ q. let h = both _ _ q in n (h.0, waits_at p placed _ _ h.1)))
  hidpp_only (gives_stray (other_ping e n w)) =
      simp (ping_no_error b2 m.byte3 e, unanswered n, found p placed b2 m.byte3 w)
  hidpp_only (gives_stray (register u h l)) = by_unasked u ∙ simp le-leb
  hidpp_only (gives_stray (reserved u h)) =
      by_unasked u ∙ simp (lt-leb b2 0x83 h, lt-leb b2 0x7F (omega arith), le-leb 0x80 b2 (omega arith), le-leb 0x40 b2 (omega arith), le-ltb b2 0x40 (omega arith))
  hidpp_only (gives_stray (late u l v z)) = by_unasked u ∙ simp (low80 l, lt-leb, lt-ltb, v, ne_eqb)
  hidpp_only (gives_plain (notification u h l)) = by_unasked u ∙ simp (lt-leb 0x80 b2 (omega arith), le-leb)
  hidpp_only (gives_plain (major1 u l v)) = by_unasked u ∙ simp (low80 l, lt-leb, lt-ltb, v)
  hidpp_only (gives_event (software0 u l v z)) = by_unasked u ∙ simp (low80 l, lt-leb, lt-ltb, v, z)

  -- what is so where an answer is given
  abbrev Why : Answer → Type 0
  Why (refused number) = ⊥
  Why (reply dropped a) = IsReply p m
  Why (stray a) = IsStray p m
  Why (plain a) = IsPlain p m
  Why (event a) = IsEvent p m
  Why (failed a code kind) = IsFailed p m
  Why (radio kind start size) = ⊥
  Why (notice n) = ⊥

  why : {r : Result} → Case r → Why r.answer
  why (gives_failed h) = h
  why (gives_reply h) = h
  why (gives_stray h) = h
  why (gives_plain h) = h
  why (gives_event h) = h

  -- the answer of a case is given exactly where it is so
  exactly : {r : Result} → (Why r.answer → Case r) → ((take_hidpp p m).answer ≡ r.answer) ↔ Why r.answer
  exactly f = (λ e. subst Why e (why hidpp_case), λ w. ap (λ (x : Result). x.answer) (hidpp_only (f w)))

  pub hidpp_answers : HidppAnswers p m
  hidpp_answers =
      record {
        when_failed = exactly gives_failed;
        when_reply = exactly gives_reply;
        when_stray = exactly gives_stray;
        when_plain = exactly gives_plain;
        when_event = exactly gives_event;
      }

-- what is read goes up, and has all its bytes
dirty_read : (r : Report) (bytes : List ℕ) → read_rule bytes ≡ reading.dj r → (is_clean r.byte2 r.size bytes ≡ false) ↔ Dirty r.byte2 bytes
unfolding report_from
dirty_read r bytes e =
    let fits = subst (ReadFits bytes) e (read_fits bytes) in
    subst (λ (y : Report). goes_down y.byte2 ≡ false → (is_clean y.byte2 y.size bytes ≡ false) ↔ Dirty y.byte2 bytes) (sym fits.1.1)
    (λ up. dirty_exactly (byte bytes 2) bytes (λ leds. true≢false (sym (ap goes_down leds) ∙ up))) fits.0

module _ (p : Port) (r : Report) (bytes : List ℕ) (read : read_rule bytes ≡ reading.dj r) where
  abbrev Dj : Result → Type 0
  Dj = DjCase p r bytes

  dirty : Dirty r.byte2 bytes → is_clean r.byte2 r.size bytes ≡ false
  dirty = (dirty_read r bytes read).1

  clean : ¬ Dirty r.byte2 bytes → is_clean r.byte2 r.size bytes ≡ true
  clean n = go (is_clean r.byte2 r.size bytes) refl
    where
      go : (b : Bool) → is_clean r.byte2 r.size bytes ≡ b → b ≡ true
      go true e = refl
      go false e = absurd (n ((dirty_read r bytes read).0 e))

  pub dj_case : DjCase p r bytes (take_dj p r bytes)
  unfolding take_dj radio_rule unpaired_rule paired_rule link_rule other_rule
  dj_case =
      by_case Dj _
      (λ e. let l = ltb-true _ _ e in by_case Dj _ (λ q. dj_refused (radio_unpaired l (not-true _ q)))
      (λ q. by_case Dj _
      (λ z. dj_refused (radio_undeclared l (not-false _ q) (not-true _ z)))
      (λ z. by_case Dj _
      (λ y. dj_refused (radio_dirty l (not-false _ q) (not-false _ z) ((dirty_read r bytes read).0 (not-true _ y))))
      (λ y. radio_taken l (not-false _ q) (not-false _ z) (λ d. true≢false (sym (not-false _ y) ∙ dirty d))))))
      (λ e. by_case Dj _ (λ q. unpairs (eqb-true _ _ q))
      (λ q. by_case Dj _
      (λ z. by_case Dj _ (paired_same (eqb-true _ _ z)) (paired_new (eqb-true _ _ z)))
      (λ z. by_case Dj _
      (λ y. by_case Dj _ (link_set (eqb-true _ _ y)) (λ x. dj_refused (link_unpaired (eqb-true _ _ y) x)))
      (λ y. other_notice (omega (arith, ltb-false, eqb-false))))))

  dj_only : {x : Result} → DjCase p r bytes x → take_dj p r bytes ≡ x
  unfolding take_dj radio_rule unpaired_rule paired_rule link_rule other_rule
  dj_only (dj_refused (radio_unpaired l u)) = simp (lt-ltb, u)
  dj_only (dj_refused (radio_undeclared l u d)) = simp (lt-ltb, u, d)
  dj_only (dj_refused (radio_dirty l u d h)) = simp (lt-ltb, u, d, dirty h)
  dj_only (dj_refused (link_unpaired e u)) = simp (e, u)
  dj_only (radio_taken l u d n) = simp (lt-ltb, u, d, clean n)
  dj_only (unpairs e) = simp e
  dj_only (paired_same e s) = simp (e, s)
  dj_only (paired_new e s) = simp (e, s)
  dj_only (link_set e u) = simp (e, u)
  dj_only (other_notice l) = simp (le-ltb r.byte2 0x40 (omega arith), ne_eqb r.byte2 0x40 (omega arith), ne_eqb r.byte2 0x41 (omega arith), ne_eqb r.byte2 0x42 (omega arith))

module _ (p : Port) (placed : Placed p) (device byte2 byte3 ticks : ℕ) (params : List ℕ) (offset : ℕ) (lent : List ℕ) where
  abbrev asked : RequestAt
  asked = request_at p device byte2 byte3 ticks params offset lent

  abbrev AskedCase : RequestAt → Type 0
  AskedCase = RequestCase p device byte2 byte3 ticks params offset lent

  abbrev Refusing : ℕ → Type 0
  Refusing = RequestRefused p device byte2 byte3 ticks params offset lent

  abbrev Into : waiting.Room → Type 0
  Into room = AskedCase (request_by room p (waiting_request byte2 byte3 ticks params) (writing.request_frame device byte2 byte3 params) offset lent)

  pub request_case : AskedCase asked
  unfolding request_at request_by room_for
  request_case =
      by_case AskedCase _ (λ e. request_refused (is9 e))
      (λ e. by_case AskedCase _ (λ q. request_refused (is10 e (not-true _ q)))
      (λ q. let f : Writable p device byte2 byte3 ticks params offset lent = record { allowed = e; room = not-false _ q } in by_case Into _ (λ z. request_refused (is11 f (waits_at p placed _ _ z)))
      (λ z. let n = none_waits p placed byte2 byte3 z in by_case Into _ (λ y. request_refused (is12 f n (omega (arith, placed, few_waiting p.places, leb-true place_count (count_waiting p.places) y))))
      (λ y. accepted f n (leb-false _ _ y)))))

  request_only : {r : RequestAt} → AskedCase r → asked ≡ r
  unfolding request_at request_by room_for
  request_only (request_refused (is9 e)) = simp e
  request_only (request_refused (is10 e q)) = simp (e, q)
  request_only (request_refused (is11 f w)) = simp (f.allowed, f.room, found p placed byte2 byte3 w)
  request_only (request_refused (is12 f n l)) =
      simp (f.allowed, f.room, none_found p placed byte2 byte3 n, le-leb place_count (count_waiting p.places) (omega arith))
  request_only (accepted f n l) = simp (f.allowed, f.room, none_found p placed byte2 byte3 n, lt-leb)

  why_refused : {number : ℕ} {r : RequestAt} → AskedCase r → r.answer ≡ writing.refused number → Refusing number
  why_refused (request_refused h) e = subst Refusing (cc) h
  why_refused (accepted f q l) e = absurd (let z : ◌≡◌ {A = ℕ} 0 1 = cc in omega arith)

  pub request_answers : RequestAnswers p device byte2 byte3 ticks params offset lent
  request_answers number = (why_refused request_case, λ h. ap (λ (r : RequestAt). r.answer) (request_only (request_refused h)))

module _ (p : Port) (placed : Placed p) (byte2 byte3 : ℕ) where
  pub cancel_case : CancelCase p byte2 byte3 (waiting.cancel_at p byte2 byte3)
  unfolding waiting.cancel_at
  cancel_case =
      by_case (CancelCase p byte2 byte3) _ (λ e. cancel_done (waits_at p placed byte2 byte3 e))
      (λ e. refused13 (none_waits p placed byte2 byte3 e))

  cancel_only : {r : waiting.CancelResult} → CancelCase p byte2 byte3 r → waiting.cancel_at p byte2 byte3 ≡ r
  unfolding waiting.cancel_at
  cancel_only (refused13 n) = simp (none_found p placed byte2 byte3 n)
  cancel_only (cancel_done w) = simp (found p placed byte2 byte3 w)

  not_waiting_law : {r : waiting.CancelResult} → CancelCase p byte2 byte3 r → r.answer ≡ waiting.CancelAnswer.refused not_waiting → ¬ Waits p byte2 byte3
  not_waiting_law (refused13 n) e = n
  not_waiting_law (cancel_done w) e = absurd (let z : ◌≡◌ {A = ℕ} 0 1 = cc in omega arith)

  pub cancel_answers : CancelAnswers p byte2 byte3
  cancel_answers =
      (not_waiting_law cancel_case, λ n. ap (λ (r : waiting.CancelResult). r.answer) (cancel_only (refused13 n)))

-- a report that gives a serial answers the request for it, which is no ping: it is a reply
pub serial_answered : (p : Port) → Placed p → (r : Report) (bytes : List ℕ) {device number : ℕ} → Gives p r bytes device number → Answered p (message_of r bytes)
unfolding message_of
serial_answered p placed r bytes h =
    let waits : Waits p r.byte2 r.byte3 = waits_at p placed r.byte2 r.byte3 (cc (h.byte2, h.byte3, h.waits)) in
    let no_ping : is_ping r.byte2 r.byte3 ≡ false = ap (λ (byte2 : ℕ). is_ping byte2 r.byte3) h.byte2 in
    (waits.0, simp (waits.1, no_ping))

reply_given : (p : Port) → Placed p → (r : Report) (bytes : List ℕ) {device number : ℕ} → Gives p r bytes device number → take_hidpp p (message_of r bytes) ≡ gives (carried (reply 0) (message_of r bytes)) (replied_port p (message_of r bytes))
unfolding message_of
reply_given p placed r bytes h =
    let no_error : is_error r.byte2 ≡ false = ap is_error h.byte2 in
    hidpp_only p placed (message_of r bytes) (gives_reply (no_error, serial_answered p placed r bytes h))

none_given : (p : Port) (r : Report) (bytes : List ℕ) → ((device number : ℕ) → ¬ Gives p r bytes device number) → given_by p r bytes ≡ no_serial
none_given p r bytes n = go (given_by p r bytes) refl
  where
    go : (g : Given) → given_by p r bytes ≡ g → given_by p r bytes ≡ no_serial
    go no_serial q = q
    go (serial_of device number) q = absurd (n device number ((given_exactly p r bytes device number).0 q))

-- a serial at its device's port has a case, and no other
module _ (p : Port) (number : ℕ) where
  same_again : p.serial ≡ Some number → with_serial p (Some number) ≡ p
  unfolding with_serial
  same_again e = ap (with_serial p) (sym e)

  pub serial_case : SerialCase p number (serial_rule p number)
  unfolding serial_rule
  serial_case =
      by_case (SerialCase p number) (not p.paired) (λ e. keeps_none (not-true p.paired e))
      (λ e. known (not-false p.paired e) p.serial refl)
    where
      known : p.paired ≡ true → (s : Option ℕ) → p.serial ≡ s → SerialCase p number (cond (is_another s number) (record { dropped = count_waiting p.places; port = with_serial (with_pairing (made_fresh p) p.wpid p.reports) (Some number) }) (record { dropped = 0; port = with_serial p (Some number) }))
      known h None q = first_serial h q
      known h (Some before) q =
          by_case (SerialCase p number) (not (eqb before number))
          (λ z. other_serial before h q (eqb-false before number (not-true _ z)))
          (λ z. let is : before ≡ number = eqb-true before number (not-false _ z) in
          let at : p.serial ≡ Some number = q ∙ ap Some is in
          subst (λ (x : Port). SerialCase p number (record { dropped = 0; port = x })) (sym (same_again at)) (same_serial h at))

  serial_only : {x : SerialResult} → SerialCase p number x → serial_rule p number ≡ x
  unfolding serial_rule
  serial_only (keeps_none h) = simp h
  serial_only (first_serial h q) = simp (h, q)
  serial_only (same_serial h q) = simp (h, q, eq-eqb number number refl) (ap (λ (x : Port). kept x) (same_again q))
    where
      kept : Port → SerialResult
      kept x = record { dropped = 0; port = x }
  serial_only (other_serial before h q n) = simp (h, q, ne_eqb before number n)

module _ (st : Station) (placed : AllPlaced st) where
  at_port : (device : ℕ) → Placed (port_for st device)
  at_port device = placed (position_of device) (position_within device)

  take_case : {bytes : List ℕ} (x : Read) → read_rule bytes ≡ x → StepCase st (take bytes) (take_step bytes (take_by x bytes st))
  unfolding take_by
  take_case (reading.refused number) e = unread e
  take_case (reading.empty_list r) e = list_empty e
  take_case {bytes} (reading.hidpp r) e = go (given_by p r bytes) refl
    where
      p : Port
      p = port_for st r.device

      m : Message
      m = message_of r bytes

      go : (g : Given) → given_by p r bytes ≡ g → StepCase st (take bytes) (take_step bytes (also_at st g (stored_at st (position_of r.device) (take_hidpp p m))))
      go no_serial q =
          hidpp_at_port e (λ device number h. no_serial_law (sym q ∙ (given_exactly p r bytes device number).1 h)) (hidpp_case p (at_port r.device) m)
      go (serial_of device number) q =
          let h = (given_exactly p r bytes device number).0 q in
          subst (λ (x : Result). StepCase st (take bytes) (take_step bytes (also_at st (serial_of device number) (stored_at st (position_of r.device) x)))) (sym (reply_given p (at_port r.device) r bytes h))
          (serial_at_port e h (serial_case (port_for st device) number))
  take_case {bytes} (reading.dj r) e = dj_at_port e (dj_case _ r bytes e)

  pub step_case : (c : Call) → StepCase st c (step st c)
  unfolding step take_rule request_rule cancel_rule restore_rule restore_ports
  step_case (take bytes) = take_case (read_rule bytes) refl
  step_case (request device byte2 byte3 ticks params offset lent) =
      by_case (λ (o : RequestOutcome). StepCase st (request device byte2 byte3 ticks params offset lent) (request_step params o)) _ (λ e. request5 (not-true _ e))
      (λ e. request_at_port (not-false _ e) (request_case _ (at_port device) device byte2 byte3 ticks params offset lent))
  step_case (cancel device byte2 byte3) =
      by_case (λ (o : CancelOutcome). StepCase st (cancel device byte2 byte3) (cancel_step o)) _ (λ e. cancel5 (not-true _ e))
      (λ e. cancel_at_port (not-false _ e) (cancel_case _ (at_port device) byte2 byte3))
  step_case tick = tick_all_ports
  step_case (write writer offset lent) = write_only
  step_case (restore text) = restore_case (read_store text) refl
    where
      restore_case : (x : StoreRead) → read_store text ≡ x → StepCase st (restore text) (restore_step text (restored_to (restored_by st.ports x)))
      restore_case (store_of ports) e = restore_store text ports ((reads_exactly text ports).0 e)
      restore_case of_other e = restore_other text ((other_exactly text).0 e)
      restore_case (broken_at line) e = restore_broken text line ((broken_exactly text line).0 e)

  read_as : {bytes : List ℕ} {x : Read} → read_rule bytes ≡ x → step st (take bytes) ≡ take_step bytes (take_by x bytes st)
  unfolding step take_rule
  read_as {bytes} e = ap (λ (x : Read). take_step bytes (take_by x bytes st)) e

  restored_as : {text : List ℕ} {x : StoreRead} → read_store text ≡ x → step st (restore text) ≡ restore_step text (restored_to (restored_by st.ports x))
  unfolding step restore_rule restore_ports
  restored_as {text} e = ap (λ (x : StoreRead). restore_step text (restored_to (restored_by st.ports x))) e

  step_only : {c : Call} {o : Outcome} → StepCase st c o → step st c ≡ o
  unfolding step take_by request_rule cancel_rule
  step_only (unread e) = read_as e
  step_only (list_empty e) = read_as e
  step_only (hidpp_at_port {bytes} {r} e n h) =
      read_as e
      ∙ ap (λ (g : Given). take_step bytes (also_at st g (stored_at st (position_of r.device) (take_hidpp (port_for st r.device) (message_of r bytes))))) (none_given (port_for st r.device) r bytes n)
      ∙ ap (λ (x : Result). take_step bytes (stored_at st (position_of r.device) x)) (hidpp_only _ (at_port r.device) _ h)
  step_only (serial_at_port {bytes} {r} {device} {number} e h s) =
      read_as e
      ∙ ap (λ (g : Given). take_step bytes (also_at st g (stored_at st (position_of r.device) (take_hidpp (port_for st r.device) (message_of r bytes))))) ((given_exactly (port_for st r.device) r bytes device number).1 h)
      ∙ ap (λ (x : Result). take_step bytes (also_at st (serial_of device number) (stored_at st (position_of r.device) x))) (reply_given (port_for st r.device) (at_port r.device) r bytes h)
      ∙ ap (λ (x : SerialResult). stored x) (serial_only (port_for st device) number s)
    where
      stored : SerialResult → Outcome
      stored x = take_step bytes (record { answer = carried (reply x.dropped) (message_of r bytes); station = with_port (with_port st (position_of r.device) (replied_port (port_for st r.device) (message_of r bytes))) (position_of device) x.port })
  step_only (dj_at_port {bytes} {r} e h) =
      read_as e ∙ ap (λ (x : Result). take_step bytes (stored_at st (position_of r.device) x)) (dj_only _ r bytes e h)
  step_only (request5 e) = simp e
  step_only (request_at_port {device} {byte2} {byte3} {ticks} {params} {offset} {lent} e h) =
      simp e (ap (λ (x : RequestAt). request_step params (requested_at st (position_of device) x)) (request_only _ (at_port device) device byte2 byte3 ticks params offset lent h))
  step_only (cancel5 e) = simp e
  step_only (cancel_at_port {device} {byte2} {byte3} e h) =
      simp e (ap (λ (x : waiting.CancelResult). cancel_step (cancelled_at st (position_of device) x)) (cancel_only _ (at_port device) byte2 byte3 h))
  step_only tick_all_ports = refl
  step_only write_only = refl
  step_only (restore_store text ports h) = restored_as ((reads_exactly text ports).1 h)
  step_only (restore_other text h) = restored_as ((other_exactly text).1 h)
  step_only (restore_broken text line h) = restored_as ((broken_exactly text line).1 h)

  pub by_cases : (c : Call) → ByCases st c
  by_cases c o = (λ e. subst (StepCase st c) e (step_case c), step_only)
