-- Document 01, "Writing" and "Sequences of calls", and document 02, Asks 1 and 3: what a call comes to on the station, port by port, and what calls reach.
use Rattle.std.specs.Prelude.{ℕ, ◌+◌, ◌-◌, ◌<◌, ◌≡◌, Bool, ◌&&◌, ◌||◌, length, get_or, set}
use Rattle.std.proofs.Math.Path.{refl, sym, ap, subst}
use Rattle.std.proofs.Common.{◌∙◌, true≢false, arith, get_or-set_same, get_or-set_other}
use Rattle.std.proofs.Math.Bool.{true, false, cond, and-false}
use mathlib.Core.List.{List, [], ◌∷◌, map}
use Rattle.std.proofs.Math.Decide.{ℕ_discrete}
use Rattle.std.proofs.Math.ListN.{length-set, length-map}
use Rattle.std.proofs.Math.Dec.{eqb}
use borrow.Author.Tests.{eqb-true, eqb-false, eq-eqb, ne_eqb}
use Rattle.report.proofs.ChoicesLaws.{by_case, neither}
use Rattle.report.specs.Ports.{receiver, is_port}
use Rattle.report.specs.Sizes.{byte, hidpp_start, dj_start}
use Rattle.report.specs.Reading as reading
use Rattle.report.specs.Reading.{Report, report_from, read_rule}
use Rattle.frame.specs.Writing as writing
use Rattle.port.specs.declared.Port.{Port}
use Rattle.port.specs.declared.Request.{Request}
use Rattle.port.specs.Records.{empty_place, fresh_port, request_in, with_places}
use Rattle.port.specs.Places.{is_empty, first_at, sum_over, one_if_waiting, count_waiting}
use Rattle.port.proofs.SearchingLaws.{found_passes}
use Rattle.port.specs.Ticks.{after_tick, one_if_ending, tick_rule}
use Rattle.port.specs.Answers.{Answer, reply, Result}
use Rattle.matching.specs.declared.Message.{Message}
use Rattle.matching.specs.Messages.{message_of}
use Rattle.hidpp.specs.HidppTaking.{carried, is_error}
use Rattle.serial.specs.Serials.{parameter_for, Given, serial_of, given_by, SerialResult}
use Rattle.serial.specs.Giving.{Gives}
use Rattle.serial.proofs.GivingLaws.{given_exactly}
use Rattle.request.specs.Requesting.{RequestAt, waiting_request}
use Rattle.store.specs.Stores.{Store}
use Rattle.keeping.proofs.ReadingLaws.{reads_exactly}
use Rattle.station.specs.declared.Station.{Station}
use Rattle.station.specs.Stations.{port_count, position_of, port_at, with_port}
use Rattle.station.proofs.StationsLaws.{device_number, position_within}
use Rattle.station.specs.StationTaking.{stored_at}
use Rattle.station.specs.StationCalls as stations
use Rattle.station.specs.StationCalls.{ticked_port, tick_all}
use Rattle.sequence.specs.Readings.{ReadFits}
use Rattle.sequence.proofs.ReadingsLaws.{dj_port, read_fits, receiver_kind}
use Rattle.sequence.specs.Starts.{Start, restored}
use Rattle.sequence.specs.Steps.{Call, take, request, cancel, tick, write, restore, CallAnswer, taken, written, cancelled, ticked, Outcome, take_step, tick_step, is_store, begins, step, run}
use Rattle.sequence.specs.Sequences.{Unread}
use Rattle.sequence.specs.Transcripts.{transcript}
use Rattle.sequence.specs.Remaining.{view}
use Rattle.sequence.proofs.NumbersLaws.{device_port, one_number}
use Rattle.sequence.proofs.IndependenceLaws.{stored, elsewhere, ticked_at, counted_at, seven_start}
use Rattle.reach.proofs.ListsLaws.{sum_set, after_map}
use Rattle.reach.specs.Sound.{SoundPort, Reached}
use Rattle.reach.proofs.SoundLaws.{sound_ticks}
use Rattle.reach.proofs.StartLaws.{start_port, stored_sound, stored_places}
use Rattle.reach.proofs.SoundCallsLaws.{allowed, hidpp_sound, serial_sound, dj_sound, request_sound, cancel_sound}
use Rattle.reach.specs.CallCases.{Answered, Placed, HidppCase, gives_reply, gives, replied_port, SerialCase, RequestCase, request_refused, accepted, StepCase, unread, list_empty, hidpp_at_port, serial_at_port, dj_at_port, request5, request_at_port, cancel5, cancel_at_port, tick_all_ports, write_only, restore_store, restore_other, restore_broken, AllPlaced}
use Rattle.reach.proofs.CallCasesLaws.{serial_answered, empty_place_law, step_case}
use Rattle.reach.specs.Ends.{is_tick, take_ending, Way, by_reply, by_error, by_expiry, by_cancel, by_drop, is_way, Ending, ending_of, nothing, dropped, ends_by, one_if, begun_on, Fate, stays, lowered, filled, emptied, waiting_on, EndsAt, ended_in, begun_in, Accounted}
use Rattle.reach.proofs.EndsLaws.{Elsewhere, sum_zero, Change, same, empties, EndingAt, elsewhere as ends_elsewhere, reply_ends, hidpp_ends, serial_ends, dj_ends, cancel_ends, hidpp_apart, dj_apart, cancel_apart}
use Rattle.reach.specs.Fields.{Field, places, is, take_lists, serial_lists, ChangesListed, Same}
use Rattle.reach.proofs.FieldsLaws.{Keeps, unlisted_kept, keeps_all, hidpp_keeps, serial_keeps, dj_keeps, request_keeps, cancel_keeps, tick_keeps}

pub all_placed : {st : Station} → Reached st → AllPlaced st
all_placed k position h = (k.each position h).waiting.all

-- what an answer says of the requests that ended is what becomes of the places, where the call begins none
ends_only : (n : ℕ) (c : Call) (a : CallAnswer) {p q : Port} → is_tick c ≡ false → begun_on n c a ≡ 0 → EndingAt n (ending_of n c a) p q → EndsAt n c a p q
ends_only n c a t z e =
    record { fate = λ place. go (e.change place); counted = e.counted; balance = omega (arith, e.balance, z) }
  where
    go : {before after : Request} → Change n (ending_of n c a) before after → Fate n c a before after
    go (same f h) = stays f (simp t) h
    go (empties w f g h) = emptied w f g h

-- a request that is accepted fills the lowest empty place
filled_at : (n byte2 byte3 ticks : ℕ) (params : List ℕ) (offset : ℕ) (lent : List ℕ) (p : Port) {r : RequestAt} → Placed p → RequestCase p n byte2 byte3 ticks params offset lent r → EndsAt n (request n byte2 byte3 ticks params offset lent) (written r.answer) p r.port
unfolding with_places waiting_request
filled_at n byte2 byte3 ticks params offset lent p placed (request_refused h) =
    ends_only n (request n byte2 byte3 ticks params offset lent) (written (writing.refused _)) refl (simp (eq-eqb n n refl)) (ends_elsewhere n p p nothing tt refl)
filled_at n byte2 byte3 ticks params offset lent p {r} placed (accepted f _ l) =
    record {
      fate = λ place. go place (ℕ_discrete place free);
      counted = λ w. sum_zero _ (λ r. refl) p.places;
      balance = simp (eq-eqb n n refl) (omega (arith, sum_set one_if_waiting p.places free new empty_place within, before, after));
    }
  where
    free : ℕ
    free = first_at is_empty p.places

    new : Request
    new = waiting_request byte2 byte3 ticks params

    within : first_at is_empty p.places < length p.places
    within = empty_place_law p placed l

    was : is_empty (request_in p.places (first_at is_empty p.places)) ≡ true
    was = found_passes is_empty p.places within

    before : one_if_waiting (request_in p.places (first_at is_empty p.places)) ≡ 0
    before = ap (λ (b : Bool). cond b 0 1) was

    after : one_if_waiting (waiting_request byte2 byte3 ticks params) ≡ 1
    after = simp (ne_eqb ticks 0 (omega (arith, (allowed byte2 byte3 ticks params f.allowed).0.0)))

    go : (place : ℕ) → Dec (place ≡ first_at is_empty p.places) → Fate n (request n byte2 byte3 ticks params offset lent) (written r.answer) (request_in p.places place) (request_in (set p.places (first_at is_empty p.places) (waiting_request byte2 byte3 ticks params)) place)
    go place (yes e) =
        filled byte2 byte3 ticks params offset lent refl refl
        (subst (λ (i : ℕ). is_empty (request_in p.places i) ≡ true) (sym e) was)
        (subst (λ (i : ℕ). request_in (set p.places (first_at is_empty p.places) (waiting_request byte2 byte3 ticks params)) i ≡ waiting_request byte2 byte3 ticks params) (sym e) (get_or-set_same p.places (first_at is_empty p.places) (waiting_request byte2 byte3 ticks params) empty_place within))
    go place (no e) =
        stays (λ w. refl) refl (get_or-set_other p.places (first_at is_empty p.places) place (waiting_request byte2 byte3 ticks params) empty_place e)

-- a tick ends those with one tick left
tick_place : (r : Request) → one_if_waiting (after_tick r) + one_if_ending r ≡ one_if_waiting r
unfolding after_tick empty_place
tick_place r =
    by_case Ticked (is_empty r) (λ e. simp (e, ne_eqb r.ticks 1 (omega (arith, eqb-true r.ticks 0 e))))
    (λ e. by_case Ticked (eqb r.ticks 1) (λ q. simp (e, q))
    (λ q. simp (e, q, ne_eqb (r.ticks - 1) 0 (omega (arith, eqb-false r.ticks 0 e, eqb-false r.ticks 1 q)))))
  where
    Ticked : Request → Type 0
    Ticked x = one_if_waiting x + one_if_ending r ≡ one_if_waiting r

tick_places : (rs : List Request) → count_waiting (map after_tick rs) + sum_over one_if_ending rs ≡ count_waiting rs
unfolding sum_over
tick_places [] = omega arith
tick_places (r ∷ rs) = omega (arith, tick_place r, tick_places rs)

module _ (n : ℕ) (counts : List ℕ) where
  idle_tick : (r : Request) → is_empty r ≡ true → (w : Way) → ends_by w n (ending_of n tick (ticked counts)) r ≡ false
  idle_tick r e w = simp (ne_eqb r.ticks 1 (omega (arith, eqb-true r.ticks 0 e))) (and-false (is_way w by_expiry))

  tick_fate : (r : Request) → Fate n tick (ticked counts) r (after_tick r)
  unfolding after_tick
  tick_fate r =
      by_case (Fate n tick (ticked counts) r) (is_empty r) (λ e. stays (idle_tick r e) (simp e) refl)
      (λ e. by_case (Fate n tick (ticked counts) r) (eqb r.ticks 1) (λ q. emptied by_expiry q e refl)
      (λ q. lowered refl (omega (arith, eqb-false r.ticks 0 e, eqb-false r.ticks 1 q)) refl))

  tick_ends : (p : Port) → get_or counts (position_of n) 0 ≡ stations.ended_on p → EndsAt n tick (ticked counts) p (ticked_port p)
  unfolding ticked_port stations.ended_on with_places tick_rule empty_place
  tick_ends p e =
      record {
        fate = after_map (Fate n tick (ticked counts)) empty_place after_tick p.places (stays (idle_tick empty_place refl) refl refl) tick_fate;
        counted = λ w. go w (is_way w by_expiry) refl;
        balance = omega (arith, tick_places p.places, e);
      }
    where
      go : (w : Way) (b : Bool) → is_way w by_expiry ≡ b → sum_over (λ r. one_if (is_way w by_expiry && eqb r.ticks 1)) p.places ≡ cond (is_way w by_expiry) (get_or counts (position_of n) 0) 0
      go w true h = simp h (sym e)
      go w false h = simp h (sum_zero _ (λ r. refl) p.places)

tick_sound : (position : ℕ) (p : Port) → SoundPort position p → SoundPort position (ticked_port p)
unfolding ticked_port with_places tick_rule
tick_sound position p s = record { receiver = s.receiver; unpaired = s.unpaired; indexes = s.indexes; waiting = sound_ticks s.waiting }

-- a start
pub reached_start : {st : Station} → Start st → Reached st
reached_start {st} begun =
    record { all = seven_start begun; each = λ position h. stored_sound position (port_at st position) (start_port begun position h) }

-- an accepted read begins a new sequence
is_begun : (text : List ℕ) (ports : List Port) → Store text ports → begins (restore text) ≡ false → ⊥
unfolding begins
is_begun text ports h e = true≢false (sym (ap is_store ((reads_exactly text ports).1 h)) ∙ e)

-- one call on a station that calls reach
record Steps (st : Station) (c : Call) (o : Outcome) : Type 0 where
  reached : Reached o.station
  ends : begins c ≡ false → (n : ℕ) → is_port n ≡ true → EndsAt n c o.answer (view n st) (view n o.station)
  changes : begins c ≡ false → (n : ℕ) → is_port n ≡ true → ChangesListed n c o.answer (view receiver st) (view n st) (view n o.station)

reached_with : (st : Station) → Reached st → (position : ℕ) → position < port_count → (q : Port) → SoundPort position q → Reached (with_port st position q)
unfolding with_port
reached_with st k position within q s =
    record { all = length-set st.ports position q ∙ k.all; each = λ i h. go i h (ℕ_discrete i position) }
  where
    next : Station
    next = with_port st position q

    go : (i : ℕ) → i < port_count → Dec (i ≡ position) → SoundPort i (port_at (with_port st position q) i)
    go i h (yes e) =
        subst (λ (j : ℕ). SoundPort j (port_at (with_port st position q) j)) (sym e) (subst (SoundPort position) (sym (stored st position q within k.all)) s)
    go i h (no e) = subst (SoundPort i) (sym (elsewhere st position i q e)) (k.each i h)

module _ (st : Station) (k : Reached st) where
  sound_at : (number : ℕ) → SoundPort (position_of number) (view number st)
  sound_at number = k.each (position_of number) (position_within number)

  -- a call at a port: what holds there, and of every other port as it is
  at_port : (P : ℕ → Port → Port → Type 0) (device n : ℕ) (q : Port) → is_port device ≡ true → is_port n ≡ true → P device (view device st) q → (eqb device n ≡ false → P n (view n st) (view n st)) → P n (view n st) (view n (with_port st (position_of device) q))
  at_port P device n q d h here there = go (eqb device n) refl
    where
      go : (b : Bool) → eqb device n ≡ b → P n (view n st) (view n (with_port st (position_of device) q))
      go true e =
          subst (λ (i : ℕ). P i (view i st) (view i (with_port st (position_of device) q))) (eqb-true device n e) (subst (P device (view device st)) (sym (stored st (position_of device) q (position_within device) k.all)) here)
      go false e =
          subst (P n (view n st)) (sym (elsewhere st (position_of device) (position_of n) q (λ z. eqb-false device n e (sym (one_number n device h d z))))) (there e)

  seven_with : (position : ℕ) (q : Port) → length (with_port st position q).ports ≡ port_count
  unfolding with_port
  seven_with position q = length-set st.ports position q ∙ k.all

  -- a call at two ports
  two_ports : (P : ℕ → Port → Port → Type 0) (device other n : ℕ) (q z : Port) → is_port device ≡ true → is_port other ≡ true → is_port n ≡ true → P device (view device st) q → P other (view other st) z → (eqb other n ≡ false → eqb device n ≡ false → P n (view n st) (view n st)) → P n (view n st) (view n (with_port (with_port st (position_of device) q) (position_of other) z))
  two_ports P device other n q z d o h here also there = go (eqb other n) refl
    where
      go : (b : Bool) → eqb other n ≡ b → P n (view n st) (view n (with_port (with_port st (position_of device) q) (position_of other) z))
      go true e =
          subst (λ (i : ℕ). P i (view i st) (view i (with_port (with_port st (position_of device) q) (position_of other) z))) (eqb-true other n e) (subst (P other (view other st)) (sym (stored (with_port st (position_of device) q) (position_of other) z (position_within other) (seven_with (position_of device) q))) also)
      go false e =
          subst (P n (view n st)) (sym (elsewhere (with_port st (position_of device) q) (position_of other) (position_of n) z (λ y. eqb-false other n e (sym (one_number n other h o y))))) (at_port P device n q d h here (there e))

  -- a call that changes no port
  idle : {c : Call} {a : CallAnswer} → is_tick c ≡ false → ((n : ℕ) → begun_on n c a ≡ 0) → ((n : ℕ) → EndingAt n (ending_of n c a) (view n st) (view n st)) → (read lent : List ℕ) → Steps st c (record { answer = a; read = read; lent = lent; station = st })
  idle {c} {a} t z e read lent =
      record {
        reached = k;
        ends = λ b n h. ends_only n c a t (z n) (e n);
        changes = λ b n h. unlisted_kept (keeps_all _ (view n st));
      }

  nothing_ends : (n : ℕ) → EndingAt n nothing (view n st) (view n st)
  nothing_ends n = ends_elsewhere n (view n st) (view n st) nothing tt refl

  -- what is listed at the port that a call names
  listed_at : {number device : ℕ} {listed : Field → Bool} (more : Field → Bool) {p q : Port} → number ≡ device → Keeps listed p q → (f : Field) → ((eqb number device && listed f) || more f) ≡ false → Same f p q
  listed_at {number} {device} {listed} more e s f h =
      unlisted_kept s f (simp (eq-eqb number device e) at (neither (eqb number device && listed f) (more f) h).0)

  taken_at : (bytes : List ℕ) (device : ℕ) (x : Result) → is_port device ≡ true → byte bytes 1 ≡ device → SoundPort (position_of device) x.port → EndingAt device (take_ending device bytes x.answer) (view device st) x.port → ((n : ℕ) → eqb device n ≡ false → Elsewhere n (take_ending n bytes x.answer)) → Keeps (take_lists (view device st) x.answer) (view device st) x.port → Steps st (take bytes) (take_step bytes (stored_at st (position_of device) x))
  taken_at bytes device x d e sound ends apart fields =
      record {
        reached = reached_with st k (position_of device) (position_within device) x.port sound;
        ends = λ b n h. at_port (λ i p q. EndsAt i (take bytes) (taken x.answer) p q) device n x.port d h (ends_only device (take bytes) (taken x.answer) refl refl ends) (λ z. ends_only n (take bytes) (taken x.answer) refl refl (ends_elsewhere n (view n st) (view n st) (take_ending n bytes x.answer) (apart n z) refl));
        changes = λ b n h. at_port (λ i p q. ChangesListed i (take bytes) (taken x.answer) (view receiver st) p q) device n x.port d h (listed_at _ e fields) (λ z. unlisted_kept (keeps_all _ (view n st)));
      }

  device_in : (start : ℕ) (bytes : List ℕ) {r : Report} → r ≡ report_from start bytes → byte bytes 1 ≡ r.device
  unfolding report_from
  device_in start bytes e = sym (ap (λ (x : Report). x.device) e)

  seven_ticked : length (tick_all st).station.ports ≡ port_count
  unfolding tick_all
  seven_ticked = length-map st.ports ticked_port ∙ k.all

  on_tick : Steps st tick (tick_step (tick_all st))
  on_tick =
      record {
        reached = record {
          all = seven_ticked;
          each = λ position h. subst (SoundPort position) (sym (ticked_at st position)) (tick_sound position (port_at st position) (k.each position h));
        };
        ends = λ b n h. subst (EndsAt n tick (ticked (tick_all st).ended) (view n st)) (sym (ticked_at st (position_of n))) (tick_ends n (tick_all st).ended (view n st) (counted_at st (position_of n)));
        changes = λ b n h. subst (ChangesListed n tick (ticked (tick_all st).ended) (view receiver st) (view n st)) (sym (ticked_at st (position_of n))) (λ f q. unlisted_kept (tick_keeps (view n st)) f (neither (is places f) false q).0);
      }

  -- a reply that gives a device's serial
  module _ (bytes : List ℕ) (r : Report) (device number : ℕ) (x : SerialResult) (e : read_rule bytes ≡ reading.hidpp r) (g : Gives (view r.device st) r bytes device number) (h : SerialCase (view device st) number x) where
    abbrev message : Message
    message = message_of r bytes

    abbrev answer : Answer
    answer = carried (reply x.dropped) message

    fits : ReadFits bytes (reading.hidpp r)
    fits = subst (ReadFits bytes) e (read_fits bytes)

    apart : eqb r.device device ≡ false
    apart =
        ne_eqb r.device device (λ q. let z : device ≡ 255 = sym q ∙ g.receiver in omega (arith, (device_number device g.named).1))

    -- port 255 gives it
    is_given : given_by (view receiver st) (report_from hidpp_start bytes) bytes ≡ serial_of device number
    is_given =
        ap (λ (i : ℕ). given_by (view i st) (report_from hidpp_start bytes) bytes) (sym g.receiver)
        ∙ ap (λ (y : Report). given_by (view r.device st) y bytes) (sym fits.1.1)
        ∙ (given_exactly (view r.device st) r bytes device number).1 g

    drops_there : take_ending device bytes answer ≡ dropped device x.dropped
    unfolding message_of
    drops_there = simp (apart, eq-eqb (byte bytes 4) (parameter_for device) g.repeated)

    drops_elsewhere : (n : ℕ) → eqb device n ≡ false → eqb r.device n ≡ false → Elsewhere n (take_ending n bytes answer)
    unfolding message_of
    drops_elsewhere n p q =
        simp (q, ne_eqb (byte bytes 4) (parameter_for n) (λ z. eqb-false device n p (let same : 0x30 + device - 1 ≡ 0x30 + n - 1 = sym g.repeated ∙ z in omega arith))) tt

    on_serial : Steps st (take bytes) (take_step bytes (record { answer = answer; station = with_port (with_port st (position_of r.device) (replied_port (view r.device st) message)) (position_of device) x.port }))
    unfolding message_of
    on_serial =
        let s = sound_at r.device in
        let p = view r.device st in
        let answered : Answered p message = serial_answered p s.waiting.all r bytes g in
        let replies : HidppCase p message (gives (carried (reply 0) message) (replied_port p message)) = gives_reply (ap is_error g.byte2, answered) in
        let c = take bytes in
        record {
          reached = reached_with (with_port st (position_of r.device) (replied_port p message)) (reached_with st k (position_of r.device) (position_within r.device) (replied_port p message) (hidpp_sound _ _ s replies)) (position_of device) (position_within device) x.port (serial_sound _ _ (sound_at device) h);
          ends = λ b n i. two_ports (λ j y z. EndsAt j c (taken answer) y z) r.device device n (replied_port p message) x.port fits.0 (device_port device g.named) i
              (ends_only r.device c (taken answer) refl refl (reply_ends p s.waiting bytes message x.dropped answered))
              (ends_only device c (taken answer) refl refl (subst (λ (y : Ending). EndingAt device y (view device st) x.port) (sym drops_there) (serial_ends (view device st) (sound_at device).waiting device number h)))
              (λ y z. ends_only n c (taken answer) refl refl (ends_elsewhere n (view n st) (view n st) (take_ending n bytes answer) (drops_elsewhere n y z) refl));
          changes = λ b n i. two_ports (λ j y z. ChangesListed j c (taken answer) (view receiver st) y z) r.device device n (replied_port p message) x.port fits.0 (device_port device g.named) i
              (listed_at _ (device_in hidpp_start bytes fits.1.1) (hidpp_keeps replies))
              (λ f q. unlisted_kept (serial_keeps device h) f (subst (λ (y : Given). serial_lists device (view device st) y f ≡ false) is_given (neither (eqb (byte bytes 1) device && take_lists (view device st) answer f) (serial_lists device (view device st) (given_by (view receiver st) (report_from hidpp_start bytes) bytes) f) q).1))
              (λ y z. unlisted_kept (keeps_all _ (view n st)));
        }

  case_steps : {c : Call} {o : Outcome} → StepCase st c o → Steps st c o
  unfolding message_of
  case_steps (unread {bytes} e) = idle refl (λ n. refl) nothing_ends bytes []
  case_steps (list_empty {bytes} e) = idle refl (λ n. refl) nothing_ends bytes []
  case_steps (hidpp_at_port {bytes} {r} {x} e n h) =
      let fits = subst (ReadFits bytes) e (read_fits bytes) in
      let s = sound_at r.device in
      taken_at bytes r.device x fits.0 (device_in hidpp_start bytes fits.1.1) (hidpp_sound _ _ s h) (hidpp_ends _ s.waiting bytes h) (λ n. hidpp_apart n bytes h) (hidpp_keeps h)
  case_steps (serial_at_port {bytes} {r} {device} {number} {x} e g h) = on_serial bytes r device number x e g h
  case_steps (dj_at_port {bytes} {r} {x} e h) =
      let fits = subst (ReadFits bytes) e (read_fits bytes) in
      let s = sound_at r.device in
      taken_at bytes r.device x (dj_port r.device r.byte2 fits.1.0) (device_in dj_start bytes fits.1.1) (dj_sound _ _ s (receiver_kind r.device r.byte2 fits.1.0) h) (dj_ends _ s.waiting h) (λ n. dj_apart n h) (dj_keeps h)
  case_steps (request5 {device} {params = params} {lent = lent} e) = idle refl (λ n. ap one_if (and-false (eqb device n))) nothing_ends params lent
  case_steps (request_at_port {device} {byte2} {byte3} {ticks} {params} {offset} {lent} {x} e h) =
      let c = request device byte2 byte3 ticks params offset lent in
      let s = sound_at device in
      record {
        reached = reached_with st k (position_of device) (position_within device) x.port (request_sound _ _ s h);
        ends = λ b n g. at_port (λ i p q. EndsAt i c (written x.answer) p q) device n x.port e g (filled_at device byte2 byte3 ticks params offset lent _ s.waiting.all h) (λ z. ends_only n c (written x.answer) refl (simp z) (nothing_ends n));
        changes = λ b n g. at_port (λ i p q. ChangesListed i c (written x.answer) (view receiver st) p q) device n x.port e g (listed_at {number = device} _ refl (request_keeps h)) (λ z. unlisted_kept (keeps_all _ (view n st)));
      }
  case_steps (cancel5 e) = idle refl (λ n. refl) nothing_ends [] []
  case_steps (cancel_at_port {device} {byte2} {byte3} {x} e h) =
      let c = cancel device byte2 byte3 in
      let s = sound_at device in
      record {
        reached = reached_with st k (position_of device) (position_within device) x.port (cancel_sound _ _ s h);
        ends = λ b n g. at_port (λ i p q. EndsAt i c (cancelled x.answer) p q) device n x.port e g (ends_only device c (cancelled x.answer) refl refl (cancel_ends _ s.waiting device h)) (λ z. ends_only n c (cancelled x.answer) refl refl (ends_elsewhere n (view n st) (view n st) _ (cancel_apart n device h z) refl));
        changes = λ b n g. at_port (λ i p q. ChangesListed i c (cancelled x.answer) (view receiver st) p q) device n x.port e g (listed_at {number = device} _ refl (cancel_keeps h)) (λ z. unlisted_kept (keeps_all _ (view n st)));
      }
  case_steps tick_all_ports = on_tick
  case_steps (write_only {writer} {offset} {lent}) =
      record {
        reached = k;
        ends = λ b n h. ends_only n (write writer offset lent) (written _) refl refl (nothing_ends n);
        changes = λ b n h. unlisted_kept (keeps_all _ (view n st));
      }
  case_steps (restore_store text ports h) =
      record {
        reached = reached_start (restored text ports ((reads_exactly text ports).1 h));
        ends = λ b. absurd (is_begun text ports h b);
        changes = λ b. absurd (is_begun text ports h b);
      }
  case_steps (restore_other text h) = idle refl (λ n. refl) nothing_ends text []
  case_steps (restore_broken text line h) = idle refl (λ n. refl) nothing_ends text []

  steps : (c : Call) → Steps st c (step st c)
  steps c = case_steps (step_case st (all_placed k) c)

  pub next_reached : (c : Call) → Reached (step st c).station
  next_reached c = (steps c).reached

  -- what each call makes of each place of each port, and which fields it changes
  pub call_ends : (c : Call) → begins c ≡ false → (n : ℕ) → is_port n ≡ true → EndsAt n c (step st c).answer (view n st) (view n (step st c).station)
  call_ends c = (steps c).ends

  pub call_changes : (c : Call) → begins c ≡ false → (n : ℕ) → is_port n ≡ true → ChangesListed n c (step st c).answer (view receiver st) (view n st) (view n (step st c).station)
  call_changes c = (steps c).changes

-- a sequence of calls
pub reached_run : (st : Station) (cs : List Call) → Reached st → Reached (run st cs)
unfolding run
reached_run st [] k = k
reached_run st (c ∷ cs) k = reached_run (step st c).station cs (next_reached st k c)

run_balanced : (n : ℕ) → is_port n ≡ true → (st : Station) (cs : List Call) → Unread cs → Reached st → waiting_on (view n st) + begun_in n (transcript st cs) ≡ ended_in by_reply n (transcript st cs) + (ended_in by_error n (transcript st cs) + (ended_in by_expiry n (transcript st cs) + (ended_in by_cancel n (transcript st cs) + (ended_in by_drop n (transcript st cs) + waiting_on (view n (run st cs))))))
unfolding run transcript ended_in begun_in Unread
run_balanced n h st [] u k = omega arith
run_balanced n h st (c ∷ cs) u k =
    omega (arith, run_balanced n h (step st c).station cs u.1 (next_reached st k c), (call_ends st k c u.0 n h).balance)

-- nothing waits at a start
start_waits : (n : ℕ) {st : Station} → Start st → waiting_on (view n st) ≡ 0
unfolding fresh_port empty_place sum_over
start_waits n {st} begun = ap count_waiting (stored_places (view n st) (start_port begun (position_of n) (position_within n)).0)

-- in a sequence, up to the next accepted read
pub accounted : (n : ℕ) → is_port n ≡ true → (st : Station) → Start st → (cs : List Call) → Unread cs → Accounted n (transcript st cs) (view n (run st cs))
accounted n h st begun cs none =
    omega (arith, run_balanced n h st cs none (reached_start begun), start_waits n begun)
