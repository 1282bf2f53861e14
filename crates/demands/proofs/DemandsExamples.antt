-- What a console's author reads off the demands: each field of the statement is used here, in other words, so that none of them can say less.
use Rattle.std.specs.Prelude.{ℕ, ◌+◌, ◌≤◌, Bool, ◌&&◌, ◌||◌, List, [], ◌∷◌, ◌++◌, map, length, get_or, replicate, Option, Some, None}
use Rattle.std.proofs.Math.Path.{◌≡◌, refl, sym, ap}
use Rattle.std.proofs.Common.{◌∙◌, subst, true≢false, arith}
use Rattle.std.proofs.Math.Bool.{true, false, cond}
use Rattle.std.proofs.Math.Dec.{eqb, lit<, lit≤}
use Rattle.std.specs.Borrow.{Bor, MutBor}
use Rattle.report.specs.declared.FeatureIndex.{FeatureIndex}
use Rattle.report.specs.Ports.{is_device, is_port}
use Rattle.report.specs.Sizes.{byte, hidpp_start, length_of}
use Rattle.report.specs.Reading as reading
use Rattle.report.specs.Reading.{Read, report_from, hidpp_rule, dj_rule, family_rule, read_rule}
use Rattle.frame.specs.Writing.{request_frame_rule, switch_rule, get_paired_rule, led_rule, WriteOutcome, fits_at}
use Rattle.mouse.specs.Movement.{mouse_rule}
use Rattle.frame.specs.FrameContracts.{Written, written_of, written_outcome}
use Rattle.port.specs.declared.Port.{Port}
use Rattle.port.specs.declared.Request.{Request}
use Rattle.port.specs.Records.{empty_place, fresh_port, made_fresh, request_in, with_pairing, with_serial}
use Rattle.port.specs.Places.{is_empty, matches}
use Rattle.port.proofs.SearchingExamples.{twins, lower_found}
use Rattle.port.specs.Answers as answers
use Rattle.port.specs.PortContracts.{taken_of}
use Rattle.port.proofs.first_match.Reads as match_reads
use Rattle.port.proofs.first_empty.Reads as empty_reads
use Rattle.matching.specs.declared.Message.{Message}
use Rattle.matching.specs.Messages.{message_of}
use Rattle.matching.specs.Matching as matching
use Rattle.matching.specs.Answering.{Answers}
use Rattle.matching.proofs.first_answered.Reads as answered_reads
use Rattle.hidpp.specs.HidppTaking.{is_major1}
use Rattle.dj.specs.Dirty.{type1}
use Rattle.dj.specs.DjTaking.{is_declared}
use Rattle.serial.specs.Serials.{SerialResult}
use Rattle.serial.specs.Giving.{Gives}
use Rattle.blotterfinch.specs.declared.Report.{Report}
use Rattle.blotterfinch.specs.declared.Written as c
use Rattle.blotterfinch.specs.declared.Movement.{Movement}
use Rattle.blotterfinch.specs.CContracts.{c_report, c_outcome, c_ended, c_movement}
use Rattle.blotterfinch.proofs.blotterfinch_read.Reads as read_reads
use Rattle.blotterfinch.proofs.blotterfinch_request_frame.Reads as request_reads
use Rattle.blotterfinch.proofs.blotterfinch_switch_frame.Reads as switch_reads
use Rattle.blotterfinch.proofs.blotterfinch_get_paired_frame.Reads as get_paired_reads
use Rattle.blotterfinch.proofs.blotterfinch_led_frame.Reads as led_reads
use Rattle.blotterfinch.proofs.blotterfinch_mouse.Reads as mouse_reads
use Rattle.station.specs.declared.Station.{Station}
use Rattle.station.specs.StationContracts.{TakeCalled, RequestCalled, CancelCalled, TickCalled, take_outcome, request_outcome, cancel_outcome, tick_outcome, restore_outcome, RestoreCalled}
use Rattle.station.specs.StationCalls.{RestoreOutcome, restored_to}
use Rattle.store.specs.Stores.{store_text, stored_of, Store}
use Rattle.restore.specs.Restoring.{restored, refused, refused_at}
use Rattle.restore.specs.RestoreContracts.{restored_of}
use Rattle.keeping.specs.Lines.{IsStore, OtherEdition, BrokenAt}
use Rattle.keeping.specs.Keeping.{accepted, refused_other, refused_broken}
use Rattle.station.specs.Stations.{port_count, position_of, port_for}
use Rattle.station.proofs.Station.new.Reads as new_reads
use Rattle.sequence.specs.Starts.{Start}
use Rattle.sequence.specs.Steps.{led, store, Call, take, request, cancel, tick, write, restore, taken, written, ticked, restoring, Outcome, take_step, request_step, cancel_step, tick_step, write_step, restore_step, begins, step, run, Returned, returned, label_of}
use Rattle.sequence.specs.Sequences.{Unread, Sequences}
use Rattle.widths.specs.Widths.{AllRead}
use Rattle.written.specs.Written.{WrittenBy}
use Rattle.sequence.specs.Targets.{Target, none, one, all}
use Rattle.sequence.specs.Sentence.{sentence}
use Rattle.sequence.specs.Refused.{is_refusal}
use Rattle.sequence.specs.Transcripts.{Entry, calls_of, transcript}
use Rattle.sequence.specs.Remaining.{view, remaining, taken_drops, compared_of, compared}
use Rattle.sequence.specs.Independence.{Alone}
use Rattle.sequence.specs.Stays.{Stays, own_call, tick_call, receiver_call, SameButDrops, Drops}
use Rattle.sequence.specs.Histories.{Ensured, Made, call_of, History, station_after, made}
use Rattle.reach.specs.Sound.{Reached}
use Rattle.reach.specs.CallCases.{Waits, AllPlaced, ByCases, StepCase, hidpp_at_port, gives_plain, major1, SerialCase, keeps_none, first_serial, same_serial, other_serial, radio_dirty}
use Rattle.reach.proofs.CallCasesLaws.{not_so}
use Rattle.reach.specs.RefusalTable.{by_port, led5, RefusalRow, RefusedWith}
use Rattle.reach.specs.Completion.{is_reply, is_failure, is_hidpp_read, Replies, Fails, read_ends, Swaps, ends_in}
use Rattle.reach.specs.Ends.{by_reply, by_error, by_expiry, by_cancel, by_drop, ending_of, ended_in_all, waiting_on, ended_in, begun_in}
use Rattle.reach.specs.Fields.{battery}
use Rattle.encoded.specs.EncodedContracts.{RunCalled}
use Rattle.encoded.specs.Decoding.{calls, decode}
use Rattle.encoded.specs.Encoding.{Bytes}
use Rattle.encoded.specs.EncodedRuns.{rows_size, EncodedOutcome, ran, ReadsBack}
use Rattle.encoded.proofs.run_encoded.Reads as run_reads
use Rattle.demands.specs.Demands.{Demands}

-- a DJ report that names another device ends no request here
other_device : (w : Port) (bytes : List ℕ) (n : ℕ) → eqb (byte bytes 1) n ≡ false → (x : Read) → is_hidpp_read x ≡ false → (p : Port) (r : Request) → read_ends w x bytes n p r ≡ false
other_device w bytes n e (reading.refused number) h p r = refl
other_device w bytes n e (reading.hidpp x) h p r = absurd (true≢false h)
other_device w bytes n e (reading.dj x) h p r = simp e
other_device w bytes n e (reading.empty_list x) h p r = refl

-- a serial that is known is not unknown
known_so : {known : ℕ} → None ≡ Some known → ⊥
known_so e = true≢false (ap unknown e)
  where
    unknown : Option ℕ → Bool
    unknown None = true
    unknown (Some known) = false

same_known : {a b : ℕ} → Some a ≡ Some b → a ≡ b
same_known e = cc e

-- a call for a device stays for no other port
named : (n device : ℕ) → ¬ (device ≡ n) → ¬ (device ≡ 255) → ¬ Stays n (one device)
named n device other away s = go (one device) s refl
  where
    number : Target → ℕ
    number none = 0
    number (one n) = n
    number all = device

    is_one : Target → Bool
    is_one none = false
    is_one (one n) = true
    is_one all = false

    go : (t : Target) → Stays n t → t ≡ one device → ⊥
    go t own_call q = other (sym (ap number q))
    go t tick_call q = true≢false (sym (ap is_one q))
    go t receiver_call q = away (sym (ap number q))

same_taken : {a b : answers.Answer} → taken a ≡ taken b → a ≡ b
same_taken e = cc e

-- a key report with one byte of rubbish, its last
abbrev rubbish : List ℕ
rubbish = 0x20 ∷ 0x02 ∷ 0x01 ∷ 0x00 ∷ 0x00 ∷ 0x04 ∷ 0x00 ∷ 0x00 ∷ 0x00 ∷ 0x00 ∷ 0x00 ∷ 0x00 ∷ 0x00 ∷ 0x00 ∷ 0x01 ∷ []

module _ (d : Demands) where
  -- the station that a call hands back is the rules' next one
  next_station : (st : Station) (c : Call) (o : Outcome) → Ensured st c o → o.station ≡ (step st c).station
  next_station st c o e = ap (λ (x : Outcome). x.station) (d.answers st c o e)

  -- LEDs of device 7 are refused with 5, whatever else is wrong with the call
  no_device_7 : (st : Station) → AllPlaced st → (leds offset : ℕ) (lent : List ℕ) (r : Written) (after : List ℕ) → Ensured st (write (led 7 leds) offset lent) (write_step st (written_outcome r after)) → RefusedWith (written (written_of r)) 5
  no_device_7 st placed leds offset lent r after e =
      (d.refuses st placed (write (led 7 leds) offset lent) (write_step st (written_outcome r after)) e 5).1 (led5 refl)

  -- device 2 is paired and sends keys: a key report whose last byte is not zero is refused with 17
  rubbish_refused : (st : Station) → AllPlaced st → (port_for st 2).paired ≡ true → is_declared (port_for st 2).reports 1 ≡ true → (r : TakeCalled) → Ensured st (take rubbish) (take_step rubbish (take_outcome r)) → RefusedWith (taken (taken_of r.answer)) 17
  unfolding length_of report_from dj_rule family_rule read_rule
  rubbish_refused st placed paired declared r e =
      (d.refuses st placed (take rubbish) (take_step rubbish (take_outcome r)) e 17).1
      (by_port refl (radio_dirty (lit< tt) paired declared (record { payload = 7; padded = type1; offset = 14; behind = lit≤ tt; within = lit< tt; rubbish = λ zero. absurd (omega (arith, zero)) })))

  -- and a number that is answered has its row
  has_row : (st : Station) → AllPlaced st → (c : Call) (o : Outcome) → Ensured st c o → (number : ℕ) → RefusedWith o.answer number → RefusalRow st c number
  has_row st placed c o e number = (d.refuses st placed c o e number).0

  -- a refused request leaves the station, and the buffer
  module _ (st : Station) (device byte2 byte3 ticks : ℕ) (params : List ℕ) (offset : ℕ) (lent : List ℕ) (r : RequestCalled) (after : List ℕ) (e : Ensured st (request device byte2 byte3 ticks params offset lent) (request_step params (request_outcome r after))) (q : is_refusal (written (written_of r.answer)) ≡ true) where
    refused_station : r.next ≡ st
    refused_station = d.station_kept st _ _ e q

    refused_buffer : after ≡ lent
    refused_buffer = (d.bytes_kept st _ _ e q).1

  -- C reads reports and payloads of any length, and writes at any offset
  c_reads : (κ : List ℕ) (bytes : Bor (List ℕ)) (r : Report) → read_reads.Learnt (κ, tt) (bytes, tt) r (bytes, tt) → r ≡ c_report (read_rule bytes.now)
  c_reads = d.without_station.read

  c_requests : (κ κ' : List ℕ) (device byte2 byte3 : ℕ) (params : Bor (List ℕ)) (buffer after : MutBor (List ℕ)) (offset : ℕ) (r : c.Written) → request_reads.Learnt (κ, (κ', tt)) (device, (byte2, (byte3, (params, (buffer, (offset, tt)))))) r (device, (byte2, (byte3, (params, (after, (offset, tt)))))) → c_ended r after.now ≡ c_outcome (request_frame_rule device byte2 byte3 params.now offset buffer.now)
  c_requests = d.without_station.request

  c_switches : (κ : List ℕ) (bits timeout : ℕ) (buffer after : MutBor (List ℕ)) (offset : ℕ) (r : c.Written) → switch_reads.Learnt (κ, tt) (bits, (timeout, (buffer, (offset, tt)))) r (bits, (timeout, (after, (offset, tt)))) → c_ended r after.now ≡ c_outcome (switch_rule bits timeout offset buffer.now)
  c_switches = d.without_station.switch

  c_asks_for_pairs : (κ : List ℕ) (buffer after : MutBor (List ℕ)) (offset : ℕ) (r : c.Written) → get_paired_reads.Learnt (κ, tt) (buffer, (offset, tt)) r (after, (offset, tt)) → c_ended r after.now ≡ c_outcome (get_paired_rule offset buffer.now)
  c_asks_for_pairs = d.without_station.get_paired

  c_lights : (κ : List ℕ) (device leds : ℕ) (buffer after : MutBor (List ℕ)) (offset : ℕ) (r : c.Written) → led_reads.Learnt (κ, tt) (device, (leds, (buffer, (offset, tt)))) r (device, (leds, (after, (offset, tt)))) → c_ended r after.now ≡ c_outcome (led_rule device leds offset buffer.now)
  c_lights = d.without_station.led

  c_moves : (κ : List ℕ) (payload : Bor (List ℕ)) (r : Movement) → mouse_reads.Learnt (κ, tt) (payload, tt) r (payload, tt) → r ≡ c_movement (mouse_rule payload.now)
  c_moves = d.without_station.mouse

  -- of two equal places, 1 and 3, each search gives the lower
  module _ (hit other : Request) (found : Option ℕ) where
    abbrev both_match : List Request
    both_match = twins hit other

    lower_waiting : (byte2 : FeatureIndex) (byte3 : ℕ) → matches byte2.0 byte3 hit ≡ true → matches byte2.0 byte3 other ≡ false → match_reads.Learnt tt (both_match, (byte2, (byte3, tt))) found (both_match, (byte2, (byte3, tt))) → found ≡ Some 1
    lower_waiting byte2 byte3 p q e =
        lower_found (matches byte2.0 byte3) hit other p q found (d.searches.waiting both_match byte2 byte3 found e)

    lower_empty : is_empty hit ≡ true → is_empty other ≡ false → empty_reads.Learnt tt (both_match, tt) found (both_match, tt) → found ≡ Some 1
    lower_empty p q e = lower_found is_empty hit other p q found (d.searches.empty both_match found e)

    lower_answered : (m : Message) → matching.answers m hit ≡ true → matching.answers m other ≡ false → answered_reads.Learnt tt (both_match, (m, tt)) found (both_match, (m, tt)) → found ≡ Some 1
    lower_answered m p q e =
        lower_found (matching.answers m) hit other p q found (d.searches.answered both_match m found e)

  -- a report for a ping of device 2, by its third parameter, and what its answer carries; and one for a ping of the receiver, which is long
  abbrev ping_reply : ℕ → List ℕ
  ping_reply third = 0x10 ∷ 0x02 ∷ 0x00 ∷ 0x11 ∷ 0x02 ∷ 0x00 ∷ third ∷ []

  abbrev about_reply : answers.About
  about_reply = record { port = 2; byte2 = 0x00; byte3 = 0x11; start = 4; size = 3 }

  abbrev receiver_reply : List ℕ
  receiver_reply = 0x11 ∷ 0xFF ∷ 0x00 ∷ 0x11 ∷ 0x02 ∷ 0x00 ∷ 0x5A ∷ replicate 13 0

  -- the ping that waits
  abbrev ping : Request
  ping = record { byte2 = record { 0 = 0x00 }; byte3 = 0x11; first = record { 0 = 0x00; 1 = 0x00; 2 = 0x5B }; ticks = 50 }

  -- a ping that waits at device 2 is answered by a report with its third parameter; one with another leaves the station
  module _ (st : Station) (k : Reached st) (place : ℕ) (is : request_in (port_for st 2).places place ≡ ping) (r : TakeCalled) where
    own_reply : Answers (ping_reply 0x5B) (request_in (port_for st 2).places place)
    own_reply =
        record {
          waits = λ z. let y : ◌≡◌ {A = ℕ} 50 0 = sym (ap (λ (x : Request). x.ticks) is) ∙ z in omega arith;
          same2 = ap (λ (x : Request). x.byte2.0) is;
          same3 = ap (λ (x : Request). x.byte3) is;
          ping = λ zero one. sym (ap (λ (x : Request). x.first.2) is);
        }

    ping_answered : Ensured st (take (ping_reply 0x5B)) (take_step (ping_reply 0x5B) (take_outcome r)) → is_reply (taken_of r.answer) ≡ true
    unfolding read_rule family_rule hidpp_rule report_from length_of
    ping_answered e = (d.replies st k (ping_reply 0x5B) r e).1 (refl, (refl, (place, own_reply)))

    late_ping : Ensured st (take (ping_reply 0x5A)) (take_step (ping_reply 0x5A) (take_outcome r)) → (taken_of r.answer ≡ answers.stray about_reply) × (r.next ≡ st)
    unfolding read_rule family_rule hidpp_rule report_from length_of message_of
    late_ping e =
        d.other_pings st k (ping_reply 0x5A) r e (record {
          read = refl;
          byte2 = refl;
          function1 = refl;
          place = place;
          waits = ap (λ (x : Request). matches 0x00 0x11 x) is;
          differs = λ z. let y : ◌≡◌ {A = ℕ} 0x5A 0x5B = z ∙ ap (λ (x : Request). x.first.2) is in omega arith;
        })

  -- so does a long one that comes for the receiver's ping
  late_receiver : (st : Station) → Reached st → (place : ℕ) → request_in (port_for st 255).places place ≡ ping → (r : TakeCalled) → Ensured st (take receiver_reply) (take_step receiver_reply (take_outcome r)) → r.next ≡ st
  unfolding read_rule family_rule hidpp_rule report_from length_of
  late_receiver st k place is r e =
      (d.other_pings st k receiver_reply r e (record {
        read = refl;
        byte2 = refl;
        function1 = refl;
        place = place;
        waits = ap (λ (x : Request). matches 0x00 0x11 x) is;
        differs = λ z. let y : ◌≡◌ {A = ℕ} 0x5A 0x5B = z ∙ ap (λ (x : Request). x.first.2) is in omega arith;
      })).1

  -- where none waits the rules go on: a plain notice from a device of version 1.0
  none_waits : (st : Station) → AllPlaced st → is_major1 (port_for st 2).version ≡ true → ¬ Waits (port_for st 2) 0x00 0x11 → (r : TakeCalled) → Ensured st (take (ping_reply 0x5A)) (take_step (ping_reply 0x5A) (take_outcome r)) → taken_of r.answer ≡ answers.plain about_reply
  unfolding read_rule family_rule hidpp_rule report_from length_of message_of
  none_waits st placed version unasked r e =
      let by_case : StepCase st (take (ping_reply 0x5A)) _ = hidpp_at_port {r = report_from hidpp_start (ping_reply 0x5A)} refl (λ device number g. let z : ◌≡◌ {A = ℕ} 0 0x83 = g.byte2 in omega arith) (gives_plain (major1 (refl, unasked) (lit< tt) version)) in
      same_taken (ap (λ (o : Outcome). o.answer) (d.answers st (take (ping_reply 0x5A)) _ e ∙ (d.of_the_rules.cases st placed (take (ping_reply 0x5A)) _).1 by_case))

  module _ (st : Station) (k : Reached st) (bytes : List ℕ) (r : TakeCalled) (e : Ensured st (take bytes) (take_step bytes (take_outcome r))) where
    -- where one waits its reply completes it, and only there
    reply_completes : Replies st bytes → is_reply (taken_of r.answer) ≡ true
    reply_completes = (d.replies st k bytes r e).1

    reply_only : is_reply (taken_of r.answer) ≡ true → Replies st bytes
    reply_only = (d.replies st k bytes r e).0

    error_completes : Fails st bytes → is_failure (taken_of r.answer) ≡ true
    error_completes = (d.errors st k bytes r e).1

    error_only : is_failure (taken_of r.answer) ≡ true → Fails st bytes
    error_only = (d.errors st k bytes r e).0

    -- what device 3 sends leaves every request of device 2 as it was: a HID++ report too, since only port 255 tells a serial
    device_3_for_device_2 : byte bytes 1 ≡ 3 → (place : ℕ) → request_in (port_for r.next 2).places place ≡ request_in (port_for st 2).places place
    unfolding report_from
    device_3_for_device_2 q place =
        d.ends st k bytes r e 2 refl place ∙ ap (λ (b : Bool). cond b empty_place (request_in (port_for st 2).places place)) (go (is_hidpp_read (read_rule bytes)) refl)
      where
        go : (b : Bool) → is_hidpp_read (read_rule bytes) ≡ b → ends_in st bytes 2 place ≡ false
        go true h =
            not_so (ends_in st bytes 2 place) (λ z.
            let s = ((d.beside st k bytes h 2 refl (λ y. let w : ◌≡◌ {A = ℕ} 3 2 = sym q ∙ y in omega arith) place).0 z).0 in
            let w : ◌≡◌ {A = ℕ} 3 255 = sym q ∙ s.given.receiver in
            omega arith)
        go false h =
            other_device (port_for st (byte bytes 1)) bytes 2 (ap (λ (n : ℕ). eqb n 2) q) (read_rule bytes) h (port_for st 2) (request_in (port_for st 2).places place)

    -- a HID++ report completes one request at most on its port
    one_at_most : is_hidpp_read (read_rule bytes) ≡ true → (i j : ℕ) → ends_in st bytes (byte bytes 1) i ≡ true → ends_in st bytes (byte bytes 1) j ≡ true → i ≡ j
    one_at_most = d.at_most_one st k bytes

    -- another serial of device 2 ends every request that waits there
    twin_drops : is_hidpp_read (read_rule bytes) ≡ true → ¬ (byte bytes 1 ≡ 2) → Swaps st bytes 2 → (place : ℕ) → is_empty (request_in (port_for st 2).places place) ≡ false → request_in (port_for r.next 2).places place ≡ empty_place
    twin_drops h away s place waits =
        d.ends st k bytes r e 2 refl place ∙ ap (λ (b : Bool). cond b empty_place (request_in (port_for st 2).places place)) ((d.beside st k bytes h 2 refl away place).1 (s, waits))

    -- what is told of a paired device is kept, and a first serial leaves its version
    module _ (h : is_hidpp_read (read_rule bytes) ≡ true) (number : ℕ) (g : Gives (port_for st 255) (report_from hidpp_start bytes) bytes 2 number) (paired : (port_for st 2).paired ≡ true) where
      serial_kept : (port_for r.next 2).serial ≡ Some number
      unfolding with_serial
      serial_kept = let t = d.serials st k bytes r e h 2 number g in ap (λ (p : Port). p.serial) t.port ∙ go t.so
        where
          go : {x : SerialResult} → SerialCase (port_for st 2) number x → x.port.serial ≡ Some number
          go (keeps_none z) = absurd (true≢false (sym paired ∙ z))
          go (first_serial z y) = refl
          go (same_serial z y) = y
          go (other_serial known z y differs) = refl

      version_kept : (port_for st 2).serial ≡ None → ((port_for r.next 2).version ≡ (port_for st 2).version) × (taken_drops (taken_of r.answer) ≡ 0)
      unfolding with_serial
      version_kept unknown =
          let t = d.serials st k bytes r e h 2 number g in
          let z = go t.so in
          (ap (λ (p : Port). p.version) t.port ∙ z.0, t.drops ∙ z.1)
        where
          go : {x : SerialResult} → SerialCase (port_for st 2) number x → (x.port.version ≡ (port_for st 2).version) × (x.dropped ≡ 0)
          go (keeps_none z) = (refl, refl)
          go (first_serial z y) = (refl, refl)
          go (same_serial z y) = (refl, refl)
          go (other_serial known z y differs) = absurd (known_so (sym unknown ∙ y))

      -- of another pad nothing is known but its pairing, its model and its reports, and the serial
      twin_forgets : (known : ℕ) → (port_for st 2).serial ≡ Some known → ¬ (known ≡ number) → port_for r.next 2 ≡ record {
        paired = true;
        wpid = (port_for st 2).wpid;
        reports = (port_for st 2).reports;
        up = false;
        version = None;
        features = replicate 5 (record { 0 = 0 });
        battery = None;
        serial = Some number;
        places = replicate 4 empty_place;
      }
      unfolding with_serial with_pairing made_fresh fresh_port
      twin_forgets before is differs = let t = d.serials st k bytes r e h 2 number g in t.port ∙ go t.so
        where
          go : {x : SerialResult} → SerialCase (port_for st 2) number x → x.port ≡ with_serial (with_pairing (made_fresh (port_for st 2)) (port_for st 2).wpid (port_for st 2).reports) (Some number)
          go (keeps_none z) = absurd (true≢false (sym paired ∙ z))
          go (first_serial z y) = absurd (known_so (sym y ∙ is))
          go (same_serial z y) = absurd (differs (same_known (sym is ∙ y)))
          go (other_serial known z y other) = refl

    -- a ping's reply drops nothing
    ping_drops_none : byte bytes 2 ≡ 0 → taken_drops (taken_of r.answer) ≡ 0
    unfolding report_from
    ping_drops_none q = d.no_drops st k bytes r e (λ n number g. let z : ◌≡◌ {A = ℕ} 0 0x83 = sym q ∙ g.byte2 in omega arith)

  -- a cancel leaves every battery
  cancel_keeps_batteries : (st : Station) → Reached st → (device byte2 byte3 : ℕ) (r : CancelCalled) → Ensured st (cancel device byte2 byte3) (cancel_step (cancel_outcome r)) → (n : ℕ) → is_port n ≡ true → (port_for r.next n).battery ≡ (port_for st n).battery
  unfolding begins
  cancel_keeps_batteries st k device byte2 byte3 r e n h =
      d.changes st k (cancel device byte2 byte3) (cancel_step (cancel_outcome r)) e refl n h battery (go (eqb device n))
    where
      go : (b : Bool) → (b && false) || false ≡ false
      go true = refl
      go false = refl

  -- what a tick says of a port is what it ended there: what waited waits or is counted
  tick_counts : (st : Station) → Reached st → (r : TickCalled) → Ensured st tick (tick_step (tick_outcome r)) → (n : ℕ) → is_port n ≡ true → waiting_on (port_for r.next n) + ended_in_all n (ending_of n tick (ticked r.answer)) ≡ waiting_on (port_for st n) + 0
  unfolding begins
  tick_counts st k r e n h = (d.counts st k tick (tick_step (tick_outcome r)) e refl n h).balance

  -- the program's new station is where a history begins, and the invariant holds wherever it ends
  new_begins : (r : Station) → new_reads.Learnt tt tt r tt → Start r
  new_begins = d.starts

  -- so is one that a store restores, and what follows is a sequence of its own
  read_begins : (st : Station) (text : List ℕ) (r : RestoreCalled) → Ensured st (restore text) (restore_step text (restore_outcome r)) → begins (restore text) ≡ true → Start r.next
  read_begins st text r = d.restarts st (restore text) (restore_step text (restore_outcome r))

  made_of_sequences : (st : Station) → Start st → (ms : List Made) → History st ms → Sequences st ms
  made_of_sequences = d.sequences

  -- a store is read: its ports, and no others
  module _ (st : Station) (text : List ℕ) (r : RestoreCalled) (e : Ensured st (restore text) (restore_step text (restore_outcome r))) where
    store_restores : (ports : List Port) → Store text ports → r.next.ports ≡ ports
    store_restores ports s = ap (λ (o : RestoreOutcome). o.station.ports) ((d.stores st text r e ports).1 s)

    only_stores : (ports : List Port) → restore_outcome r ≡ restored_to (accepted ports) → Store text ports
    only_stores ports = (d.stores st text r e ports).0

    -- a file of a later edition is refused with 15, and of nothing else
    later_refused : OtherEdition text → (restored_of r.answer ≡ refused 15) × (r.next ≡ st)
    later_refused h =
        let z = (d.other_editions st text r e).1 h in
        (ap (λ (o : RestoreOutcome). o.answer) z, ap (λ (o : RestoreOutcome). o.station) z)

    only_later : restore_outcome r ≡ restored_to (refused_other st.ports) → OtherEdition text
    only_later = (d.other_editions st text r e).0

    -- a line that breaks the rules is told by its number
    line_told : (line : ℕ) → BrokenAt text line → (restored_of r.answer ≡ refused_at 16 line) × (r.next ≡ st)
    line_told line h =
        let z = (d.broken_lines st text r e line).1 h in
        (ap (λ (o : RestoreOutcome). o.answer) z, ap (λ (o : RestoreOutcome). o.station) z)

    only_that_line : (line : ℕ) → restore_outcome r ≡ restored_to (refused_broken line st.ports) → BrokenAt text line
    only_that_line line = (d.broken_lines st text r e line).0

  -- a store that is written leaves the byte before it
  before_kept : (st : Station) (byte : ℕ) (lent : List ℕ) (r : Written) (after : List ℕ) → Ensured st (write store 1 (byte ∷ lent)) (write_step st (written_outcome r after)) → fits_at (length (store_text st.ports)) 1 (length (byte ∷ lent)) ≡ true → get_or after 0 0 ≡ byte
  before_kept st byte lent r after e fits =
      ap (λ (o : WriteOutcome). get_or o.lent 0 0) (d.writes st 1 (byte ∷ lent) r after e fits)

  -- a read that is answered as restored begins a sequence, and no other call does
  restored_begins : (st : Station) (c : Call) (o : Outcome) → Ensured st c o → o.answer ≡ restoring restored → begins c ≡ true
  restored_begins st c o e = (d.begun st c o e).1

  begun_restored : (st : Station) (c : Call) (o : Outcome) → Ensured st c o → begins c ≡ true → o.answer ≡ restoring restored
  begun_restored st c o e = (d.begun st c o e).0

  -- a restart: the pads are back, whatever the calls before were
  pads_back : (st : Station) → Start st → (ms : List Made) → History st ms → AllRead (map call_of ms) → (other : Station) (r : RestoreCalled) → Ensured other (restore (store_text (station_after st ms).ports)) (restore_step (store_text (station_after st ms).ports) (restore_outcome r)) → r.next.ports ≡ map stored_of (station_after st ms).ports
  pads_back st begun ms k bytes other r e =
      ap (λ (o : RestoreOutcome). o.station.ports) (d.read_back st begun ms k bytes other r e)

  -- of stores: one station, one text; and each text is that of a station that calls reach
  one_text : (text other : List ℕ) (ports : List Port) → Store text ports → Store other ports → text ≡ other
  one_text = d.of_stores.one_text

  some_station : (text : List ℕ) → IsStore text → WrittenBy text
  some_station text = (d.of_texts.exactly text).0

  invariant_holds : (st : Station) → Start st → (ms : List Made) → History st ms → Reached (station_after st ms)
  invariant_holds = d.reached

  module _ (st : Station) (begun : Start st) (ms ns : List Made) (k : History st ms) (l : History st ns) where
    -- two histories with the same calls give the same answers and lent bytes, and the same station
    same_answers : map call_of ms ≡ map call_of ns → made st ms ≡ made st ns
    same_answers e =
        d.every_answer st ms k ∙ ap (transcript st) e ∙ sym (d.every_answer st ns l)

    same_end : map call_of ms ≡ map call_of ns → station_after st ms ≡ station_after st ns
    same_end e = d.final_station st ms k ∙ ap (run st) e ∙ sym (d.final_station st ns l)

    -- device 2 by itself: what it holds, and what its calls return
    device_2_holds : map call_of ns ≡ calls_of (remaining 2 (made st ms)) → view 2 (station_after st ms) ≡ view 2 (station_after st ns)
    device_2_holds = d.holds 2 refl st begun ms ns k l

    device_2_returns : map call_of ns ≡ calls_of (remaining 2 (made st ms)) → compared 2 (remaining 2 (made st ms)) ≡ compared 2 (made st ns)
    device_2_returns = d.returns 2 refl st begun ms ns k l

    -- and 255
    receiver_holds : map call_of ns ≡ calls_of (remaining 255 (made st ms)) → view 255 (station_after st ms) ≡ view 255 (station_after st ns)
    receiver_holds = d.holds 255 refl st begun ms ns k l

    receiver_returns : map call_of ns ≡ calls_of (remaining 255 (made st ms)) → compared 255 (remaining 255 (made st ms)) ≡ compared 255 (made st ns)
    receiver_returns = d.returns 255 refl st begun ms ns k l

    any_order : ((n : ℕ) → is_device n ≡ true → calls_of (remaining n (made st ms)) ≡ calls_of (remaining n (made st ns))) → station_after st ms ≡ station_after st ns
    any_order = d.orders st begun ms ns k l

    -- every request that device 2 was sent has ended, as an answer said, or waits
    device_2_accounted : Unread (map call_of ms) → begun_in 2 (made st ms) ≡ ended_in by_reply 2 (made st ms) + (ended_in by_error 2 (made st ms) + (ended_in by_expiry 2 (made st ms) + (ended_in by_cancel 2 (made st ms) + (ended_in by_drop 2 (made st ms) + waiting_on (port_for (station_after st ms) 2)))))
    device_2_accounted = d.accounted 2 refl st begun ms k

  -- a radio report is for the device that it names
  radio_named : (st : Station) (bytes : List ℕ) (r : TakeCalled) → Ensured st (take bytes) (take_step bytes (take_outcome r)) → (kind start size : ℕ) → taken_of r.answer ≡ answers.radio kind start size → label_of st (take bytes) ≡ one (byte bytes 1)
  radio_named st bytes r e kind start size q =
      d.struck st (take bytes) (take_step bytes (take_outcome r)) e ∙ ap (λ (a : answers.Answer). sentence (take bytes) (taken a)) q

  -- for device 2 its own calls, the ticks and those for 255 stay, and one for device 3 does not; for 255 one for device 2 does not
  receiver_stays : (e : Entry) (es : List Entry) → e.label ≡ one 255 → remaining 2 (e ∷ es) ≡ e ∷ remaining 2 es
  receiver_stays e es q = d.left_in 2 e es (subst (Stays 2) (sym q) receiver_call)

  own_stays : (e : Entry) (es : List Entry) → e.label ≡ one 2 → remaining 2 (e ∷ es) ≡ e ∷ remaining 2 es
  own_stays e es q = d.left_in 2 e es (subst (Stays 2) (sym q) own_call)

  tick_stays : (e : Entry) (es : List Entry) → e.label ≡ all → remaining 2 (e ∷ es) ≡ e ∷ remaining 2 es
  tick_stays e es q = d.left_in 2 e es (subst (Stays 2) (sym q) tick_call)

  read_stays : (e : Entry) (es : List Entry) → begins e.call ≡ true → remaining 2 (e ∷ es) ≡ e ∷ remaining 2 es
  read_stays = d.begun_left_in 2

  device_3_struck : (e : Entry) (es : List Entry) → e.label ≡ one 3 → begins e.call ≡ false → remaining 2 (e ∷ es) ≡ remaining 2 es
  device_3_struck e es q =
      d.struck_out 2 e es (λ s. named 2 3 (λ z. omega (arith, z)) (λ z. omega (arith, z)) (subst (Stays 2) q s))

  device_2_struck : (e : Entry) (es : List Entry) → e.label ≡ one 2 → begins e.call ≡ false → remaining 255 (e ∷ es) ≡ remaining 255 es
  device_2_struck e es q =
      d.struck_out 255 e es (λ s. named 255 2 (λ z. omega (arith, z)) (λ z. omega (arith, z)) (subst (Stays 255) q s))

  -- what is compared of a device's own call is its answer and every lent byte; of 255's the same but for the drop count; of a call for 255, for a device, its drop count; of a tick the port's count
  compared_whole : (r q : Returned) → compared_of 2 (one 2) r ≡ compared_of 2 (one 2) q → (r.answer ≡ q.answer) × ((r.read ≡ q.read) × (r.lent ≡ q.lent))
  compared_whole = d.compares_own 2 refl

  compared_receiver : (r q : Returned) → compared_of 255 (one 255) r ≡ compared_of 255 (one 255) q → SameButDrops r.answer q.answer × ((r.read ≡ q.read) × (r.lent ≡ q.lent))
  compared_receiver = d.compares_receiver

  compared_drops : (r q : Returned) (x y : ℕ) → compared_of 2 (one 255) r ≡ compared_of 2 (one 255) q → Drops 2 r x → Drops 2 q y → (x ≡ y) × (r.lent ≡ q.lent)
  compared_drops r q x y e f g = let c = d.compares_drops 2 refl r q e in (c.0 x y f g, c.1.1)

  compared_read : (r q : Returned) → compared_of 2 none r ≡ compared_of 2 none q → (r.answer ≡ q.answer) × ((r.read ≡ q.read) × (r.lent ≡ q.lent))
  compared_read = d.compares_read 2

  compared_count : (o q : Outcome) (xs ys : List ℕ) → o.answer ≡ ticked xs → q.answer ≡ ticked ys → compared_of 255 all (returned o) ≡ compared_of 255 all (returned q) → get_or xs 6 0 ≡ get_or ys 6 0
  unfolding position_of
  compared_count = d.compares_count 255

  -- the last call of a history was made on the station that the others left
  last_made : (st : Station) (ms : List Made) (m : Made) → History st (ms ++ (m ∷ [])) → Ensured (station_after st ms) m.call m.outcome
  unfolding History
  last_made st ms m k = (d.cut st ms (m ∷ []) k).1.0

  -- encoded calls end with the station of the rules' run, and their rows are its answers
  module _ (κ κ' κ'' : List ℕ) (st : Station) (encoded : Bor (List ℕ)) (arena arena_after answers answers_after : MutBor (List ℕ)) (r : RunCalled) (e : run_reads.Learnt (κ, (κ', (κ'', tt))) (st, (encoded, (arena, (answers, tt)))) r (st, (encoded, (arena_after, (answers_after, tt))))) (cs : List Call) (decoded : decode encoded.now arena.now ≡ calls cs) (room : rows_size cs ≤ length answers.now) where
    run_ends : r.next ≡ run st cs
    unfolding ran
    run_ends = ap (λ (o : EncodedOutcome). o.station) (d.runs κ κ' κ'' st encoded arena arena_after answers answers_after r e cs decoded room)

    rows_are_answers : length st.ports ≡ port_count → Bytes encoded.now → Bytes arena.now → ReadsBack st cs answers_after.now
    rows_are_answers seven =
        d.rows κ κ' κ'' st encoded arena arena_after answers answers_after r e seven cs decoded room

  -- of the rules alone: every call has one case, and each port is by itself
  one_case : (st : Station) → AllPlaced st → (c : Call) → ByCases st c
  one_case = d.of_the_rules.cases

  by_itself : (n : ℕ) → is_port n ≡ true → (st : Station) → Start st → (cs : List Call) → Alone n st cs
  by_itself = d.of_runs.alone
