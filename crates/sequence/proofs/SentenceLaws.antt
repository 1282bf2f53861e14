-- Document 01, "What the console part does" and "Refusal numbers": on any station, which port a call is for is what its answer says, and a refused call changes nothing. One walk over the rules gives both.
use Rattle.std.specs.Prelude.{ℕ, ◌≡◌, Bool, not, List, length, ltb, eqb}
use Rattle.std.proofs.Math.Path.{refl, ap}
use Rattle.std.proofs.Common.{sym, ◌∙◌}
use Rattle.std.proofs.Math.Bool.{true, false, cond}
use Rattle.std.proofs.lemmas.Bool.{false≢true}
use Rattle.report.proofs.ChoicesLaws.{by_case}
use Rattle.report.specs.Ports.{receiver, is_device, is_port}
use Rattle.report.specs.Sizes.{byte}
use Rattle.report.specs.Reading as reading
use Rattle.report.specs.Reading.{Report, Read, report_from, read_rule}
use Rattle.frame.specs.Writing as writing
use Rattle.port.specs.declared.Port.{Port}
use Rattle.port.specs.Answers.{Answer, refused, reply, stray, plain, event, failed, radio, notice, Result}
use Rattle.port.specs.Waiting as waiting
use Rattle.matching.specs.declared.Message.{Message}
use Rattle.matching.specs.Messages.{message_of}
use Rattle.hidpp.specs.HidppTaking.{take_hidpp}
use Rattle.hidpp.proofs.HidppTakingLaws.{of_each_answer}
use Rattle.serial.specs.Serials.{Given, no_serial, serial_of, given_by, serial_rule}
use Rattle.dj.specs.Padding.{is_clean}
use Rattle.dj.specs.DjTaking.{is_declared, wpid_of, is_paired_with, radio_rule, unpaired_rule, paired_rule, link_rule, other_rule, take_dj}
use Rattle.request.specs.Requesting.{is_forbidden, RequestAt, refused_at, waiting_request, request_by, request_at}
use Rattle.listing.specs.Listing.{listing_rule}
use Rattle.store.specs.Stores.{store_rule}
use Rattle.restore.specs.Restoring.{StoreRead, store_of, of_other, broken_at, read_store, restored_by, restore_ports}
use Rattle.station.specs.declared.Station.{Station}
use Rattle.station.specs.Stations.{position_of, port_at, port_for, with_port}
use Rattle.station.proofs.StationsLaws.{same_port}
use Rattle.station.specs.StationTaking.{TakeOutcome, stored_at, with_drops, also_at, take_by, take_rule}
use Rattle.station.specs.StationCalls.{restored_to, request_rule, cancel_rule, restore_rule}
use Rattle.sequence.specs.Steps as steps
use Rattle.sequence.specs.Steps.{Writer, switch, get_paired, led, list, store, Call, take, request, cancel, tick, write, restore, Outcome, take_step, request_step, cancel_step, write_step, restore_step, writer_rule, step, writer_row, target}
use Rattle.sequence.specs.Targets.{Target, none, one, read_target}
use Rattle.sequence.specs.Sentence.{take_for_none, write_for_none, cancel_for_none, for_named, writer_sentence, sentence, ByAnswer}
use Rattle.sequence.specs.Refused.{take_refused, write_refused, cancel_refused, restore_refused, is_refusal, Unchanged}
use Rattle.sequence.specs.Readings.{ReadFits}
use Rattle.sequence.proofs.ReadingsLaws.{read_fits}

-- an answer that is for the port, and no refusal
abbrev Answered : Answer → Type 0
Answered a = (take_for_none a ≡ false) × (take_refused a ≡ false)

-- a drop count changes neither
drops_kind : (dropped : ℕ) (a : Answer) → Answered a → Answered (with_drops dropped a)
drops_kind dropped (refused number) h = h
drops_kind dropped (reply before a) h = h
drops_kind dropped (stray a) h = h
drops_kind dropped (plain a) h = h
drops_kind dropped (event a) h = h
drops_kind dropped (failed a code kind) h = h
drops_kind dropped (radio kind start size) h = h
drops_kind dropped (notice n) h = h

also_kind : (st : Station) (g : Given) (o : TakeOutcome) → Answered o.answer → Answered (also_at st g o).answer
also_kind st no_serial o h = h
also_kind st (serial_of device serial) o h =
    drops_kind (serial_rule (port_for st device) serial).dropped o.answer h

-- what a call gives at its port: an answer that is for the port, or a refusal that is for it and leaves it
module _ (p : Port) where
  data TakeKind : Result → Type 0 where
    answers : {a : Answer} {q : Port} → take_for_none a ≡ false → take_refused a ≡ false → TakeKind (record { answer = a; port = q })
    refuses : {number : ℕ} → take_for_none (refused number) ≡ false → TakeKind (record { answer = refused number; port = p })

  hidpp_kind : (m : Message) → Answered (take_hidpp p m).answer
  hidpp_kind m = of_each_answer Answered p m (refl, refl) (refl, refl) (refl, refl) (refl, refl) (refl, refl)

  dj_kind : (r : Report) (bytes : List ℕ) → TakeKind (take_dj p r bytes)
  unfolding take_dj radio_rule unpaired_rule paired_rule link_rule other_rule
  dj_kind r bytes =
      by_case TakeKind (ltb r.byte2 0x40)
      (λ e. by_case TakeKind (not p.paired) (λ q. refuses refl)
      (λ q. by_case TakeKind (not (is_declared p.reports r.byte2)) (λ z. refuses refl)
      (λ z. by_case TakeKind (not (is_clean r.byte2 r.size bytes)) (λ y. refuses refl) (λ y. answers refl refl))))
      (λ e. by_case TakeKind (eqb r.byte2 0x40) (λ q. answers refl refl)
      (λ q. by_case TakeKind (eqb r.byte2 0x41)
      (λ z. by_case TakeKind (is_paired_with p (wpid_of bytes)) (λ y. answers refl refl) (λ y. answers refl refl))
      (λ z. by_case TakeKind (eqb r.byte2 0x42)
      (λ y. by_case TakeKind p.paired (λ x. answers refl refl) (λ x. refuses refl))
      (λ y. answers refl refl))))

  take_some : {r : Result} → TakeKind r → take_for_none r.answer ≡ false
  take_some (answers s e) = s
  take_some (refuses s) = s

  take_kept : {r : Result} → TakeKind r → take_refused r.answer ≡ true → r.port ≡ p
  take_kept (answers s e) q = absurd (false≢true (sym e ∙ q))
  take_kept (refuses s) q = refl

  data RequestKind (lent : List ℕ) : RequestAt → Type 0 where
    writes : {n : ℕ} {q : Port} {after : List ℕ} → RequestKind lent (record { answer = writing.wrote n; port = q; lent = after })
    refuses : {number : ℕ} → write_for_none (writing.refused number) ≡ false → RequestKind lent (refused_at number p lent)

  request_some : {lent : List ℕ} {r : RequestAt} → RequestKind lent r → write_for_none r.answer ≡ false
  request_some writes = refl
  request_some (refuses s) = s

  request_kept : {lent : List ℕ} {r : RequestAt} → RequestKind lent r → write_refused r.answer ≡ true → (r.port ≡ p) × (r.lent ≡ lent)
  request_kept writes q = absurd (false≢true q)
  request_kept (refuses s) q = (refl, refl)

  module _ (device byte2 byte3 ticks : ℕ) (params : List ℕ) (offset : ℕ) (lent : List ℕ) where
    abbrev Into : waiting.Room → Type 0
    Into room = RequestKind lent (request_by room p (waiting_request byte2 byte3 ticks params) (writing.request_frame device byte2 byte3 params) offset lent)

    request_kind : RequestKind lent (request_at p device byte2 byte3 ticks params offset lent)
    unfolding request_at request_by waiting.room_for
    request_kind =
        by_case (RequestKind lent) (is_forbidden byte2 byte3 ticks params) (λ e. refuses refl)
        (λ e. by_case (RequestKind lent) (not (writing.fits_at (length (writing.request_frame device byte2 byte3 params)) offset (length lent))) (λ q. refuses refl)
        (λ q. by_case Into (waiting.is_found (waiting.waiting_at p byte2 byte3)) (λ z. refuses refl)
        (λ z. by_case Into (waiting.is_full p.places) (λ y. refuses refl) (λ y. writes))))

  data CancelKind : waiting.CancelResult → Type 0 where
    ends : {q : Port} → CancelKind (record { answer = waiting.done; port = q })
    refuses : {number : ℕ} → cancel_for_none (waiting.CancelAnswer.refused number) ≡ false → CancelKind (record { answer = waiting.CancelAnswer.refused number; port = p })

  cancel_kind : (byte2 byte3 : ℕ) → CancelKind (waiting.cancel_at p byte2 byte3)
  unfolding waiting.cancel_at
  cancel_kind byte2 byte3 = by_case CancelKind (waiting.is_found (waiting.waiting_at p byte2 byte3)) (λ e. ends) (λ e. refuses refl)

  cancel_some : {r : waiting.CancelResult} → CancelKind r → cancel_for_none r.answer ≡ false
  cancel_some ends = refl
  cancel_some (refuses s) = s

  cancel_kept : {r : waiting.CancelResult} → CancelKind r → cancel_refused r.answer ≡ true → r.port ≡ p
  cancel_kept ends q = absurd (false≢true q)
  cancel_kept (refuses s) q = refl

-- a writer of a frame: it is not refused with 5, and a refusal leaves the buffer
module _ (lent : List ℕ) where
  data WriteKind : writing.WriteOutcome → Type 0 where
    writes : {n : ℕ} {after : List ℕ} → WriteKind (record { answer = writing.wrote n; lent = after })
    refuses : {number : ℕ} → write_for_none (writing.refused number) ≡ false → WriteKind (writing.kept number lent)

  frame_kind : (frame : List ℕ) (offset : ℕ) → WriteKind (writing.frame_at frame offset lent)
  unfolding writing.frame_at
  frame_kind frame offset = by_case WriteKind (writing.fits_at (length frame) offset (length lent)) (λ e. writes) (λ e. refuses refl)

  switch_kind : (bits timeout offset : ℕ) → WriteKind (writing.switch_rule bits timeout offset lent)
  unfolding writing.switch_rule
  switch_kind bits timeout offset =
      by_case WriteKind (writing.has_reserved_bits bits) (λ e. refuses refl) (λ e. frame_kind (writing.switch_frame bits timeout) offset)

  write_some : {o : writing.WriteOutcome} → WriteKind o → write_for_none o.answer ≡ false
  write_some writes = refl
  write_some (refuses s) = s

  write_kept : {o : writing.WriteOutcome} → WriteKind o → write_refused o.answer ≡ true → o.lent ≡ lent
  write_kept writes q = absurd (false≢true q)
  write_kept (refuses s) q = refl

-- what a call gives on the station: its target is what its answer says, and a refusal changes nothing
record Kind (st : Station) (c : Call) (t : Target) (o : Outcome) : Type 0 where
  says : t ≡ sentence c o.answer
  kept : is_refusal o.answer ≡ true → Unchanged st c o

-- what is not for none is for the port that the call names
is_one : (number : ℕ) {b : Bool} → b ≡ false → one number ≡ cond b none (one number)
is_one number e = ap (λ (b : Bool). cond b none (one number)) (sym e)

module _ (st : Station) where
  -- a port that stays is stored where it was
  restored : (position : ℕ) {q : Port} → q ≡ port_at st position → with_port st position q ≡ st
  restored position e = ap (with_port st position) e ∙ same_port st position

  take_kind : (bytes : List ℕ) (x : Read) → ReadFits bytes x → Kind st (take bytes) (read_target x) (take_step bytes (take_by x bytes st))
  unfolding take_by report_from
  take_kind bytes (reading.refused number) n =
      record {
        says = ap (λ (b : Bool). cond b none (one (byte bytes 1))) (sym n);
        kept = λ r. record { station = refl; read = refl; lent = refl };
      }
  take_kind bytes (reading.empty_list r) n = record { says = refl; kept = λ e. absurd (false≢true e) }
  take_kind bytes (reading.hidpp r) n =
      let p = port_for st r.device in
      let k = also_kind st (given_by p r bytes) (stored_at st (position_of r.device) (take_hidpp p (message_of r bytes))) (hidpp_kind p (message_of r bytes)) in
      record {
        says = ap (λ (x : Report). one x.device) n.1.1 ∙ is_one (byte bytes 1) k.0;
        kept = λ e. absurd (false≢true (sym k.1 ∙ e));
      }
  take_kind bytes (reading.dj r) n =
      let p = port_at st (position_of r.device) in
      let k = dj_kind p r bytes in
      record {
        says = ap (λ (x : Report). one x.device) n.1.1 ∙ is_one (byte bytes 1) (take_some p k);
        kept = λ e. record { station = restored (position_of r.device) (take_kept p k e); read = refl; lent = refl };
      }

  module _ (device byte2 byte3 : ℕ) where
    request_kind_on : (ticks : ℕ) (params : List ℕ) (offset : ℕ) (lent : List ℕ) (b : Bool) → is_port device ≡ b → Kind st (request device byte2 byte3 ticks params offset lent) (cond b (one device) none) (request_step params (request_rule st device byte2 byte3 ticks params offset lent))
    unfolding request_rule
    request_kind_on ticks params offset lent true e =
        let p = port_at st (position_of device) in
        let k = request_kind p device byte2 byte3 ticks params offset lent in
        simp e (record {
          says = is_one device (request_some p k);
          kept = λ r. let h = request_kept p k r in record { station = restored (position_of device) h.0; read = refl; lent = h.1 };
        })
    request_kind_on ticks params offset lent false e =
        simp e (record { says = refl; kept = λ r. record { station = refl; read = refl; lent = refl } })

    cancel_kind_on : (b : Bool) → is_port device ≡ b → Kind st (cancel device byte2 byte3) (cond b (one device) none) (cancel_step (cancel_rule st device byte2 byte3))
    unfolding cancel_rule
    cancel_kind_on true e =
        let p = port_at st (position_of device) in
        let k = cancel_kind p byte2 byte3 in
        simp e (record {
          says = is_one device (cancel_some p k);
          kept = λ r. record { station = restored (position_of device) (cancel_kept p k r); read = refl; lent = refl };
        })
    cancel_kind_on false e =
        simp e (record { says = refl; kept = λ r. record { station = refl; read = refl; lent = refl } })

  module _ (offset : ℕ) (lent : List ℕ) where
    -- a writer that has a port
    written : (writer : Writer) (number : ℕ) {o : writing.WriteOutcome} → WriteKind lent o → (writer_sentence writer (steps.written o.answer) ≡ for_named number (steps.written o.answer)) → Kind st (write writer offset lent) (one number) (write_step st o)
    written writer number k e =
        record {
          says = is_one number (write_some lent k) ∙ sym e;
          kept = λ r. record { station = refl; read = refl; lent = write_kept lent k r };
        }

    led_kind : (device leds : ℕ) (b : Bool) → is_device device ≡ b → Kind st (write (led device leds) offset lent) (cond b (one device) none) (write_step st (writing.led_rule device leds offset lent))
    unfolding writing.led_rule
    led_kind device leds true e =
        simp e (written (led device leds) device (frame_kind lent (writing.led_frame device leds) offset) refl)
    led_kind device leds false e =
        simp e (record { says = refl; kept = λ r. record { station = refl; read = refl; lent = refl } })

    write_kind : (writer : Writer) → Kind st (write writer offset lent) (writer_row writer).target (write_step st (writer_rule st writer offset lent))
    unfolding writing.get_paired_rule listing_rule store_rule
    write_kind (switch bits timeout) =
        written (switch bits timeout) receiver (switch_kind lent bits timeout offset) refl
    write_kind get_paired = written get_paired receiver (frame_kind lent writing.get_paired_frame offset) refl
    write_kind (led device leds) = led_kind device leds (is_device device) refl
    write_kind list =
        record {
          says = refl;
          kept = λ r. record { station = refl; read = refl; lent = write_kept lent (frame_kind lent _ offset) r };
        }
    write_kind store =
        record {
          says = refl;
          kept = λ r. record { station = refl; read = refl; lent = write_kept lent (frame_kind lent _ offset) r };
        }

  -- a read of a store: a refusal leaves the station
  restore_kind : (text : List ℕ) (x : StoreRead) → restore_refused (restored_by st.ports x).answer ≡ true → Unchanged st (restore text) (restore_step text (restored_to (restored_by st.ports x)))
  restore_kind text (store_of ports) r = absurd (false≢true r)
  restore_kind text of_other r = record { station = refl; read = refl; lent = refl }
  restore_kind text (broken_at line) r = record { station = refl; read = refl; lent = refl }

  kind : (c : Call) → Kind st c (target c) (step st c)
  unfolding target step take_rule restore_rule restore_ports
  kind (take bytes) = take_kind bytes (read_rule bytes) (read_fits bytes)
  kind (request device byte2 byte3 ticks params offset lent) =
      request_kind_on device byte2 byte3 ticks params offset lent (is_port device) refl
  kind (cancel device byte2 byte3) = cancel_kind_on device byte2 byte3 (is_port device) refl
  kind tick = record { says = refl; kept = λ r. absurd (false≢true r) }
  kind (write writer offset lent) = write_kind offset lent writer
  kind (restore text) = record { says = refl; kept = restore_kind text (read_store text) }

  pub by_answer : (c : Call) → ByAnswer st c
  by_answer c = (kind c).says

  -- a refused call changes nothing
  pub refused_keeps : (c : Call) → is_refusal (step st c).answer ≡ true → Unchanged st c (step st c)
  refused_keeps c r = (kind c).kept r
