-- The three demands: the proof.
use Rattle.std.specs.Prelude.{ℕ, ◌≡◌, ◌↔◌, true, length, List, map}
use Rattle.std.proofs.Common.{sym, ◌∙◌, ap, subst}
use Rattle.frame.specs.FrameContracts.{Written, written_outcome}
use Rattle.frame.specs.Writing.{WriteAnswer, WriteOutcome, wrote, fits_at, pasted, frame_at}
use Rattle.port.specs.Answers.{Answer}
use Rattle.port.specs.PortContracts.{taken_of}
use Rattle.store.specs.Stores.{store_text, stored_of, store_rule}
use Rattle.restore.specs.Restoring.{RestoreAnswer, StoreRead, Restoring, restored_by, restore_ports, restored}
use Rattle.keeping.specs.Keeping.{Storable, accepted}
use Rattle.keeping.proofs.KeepingLaws.{keeping}
use Rattle.station.specs.declared.Station.{Station}
use Rattle.station.specs.StationCalls.{RestoreOutcome, restored_to, restore_rule}
use Rattle.station.specs.StationContracts.{TakeCalled, RestoreCalled, take_outcome, restore_outcome}
use Rattle.station.specs.StationTaking.{take_rule}
use Rattle.sequence.specs.Starts.{Start, fresh}
use Rattle.sequence.specs.Steps as steps
use Rattle.sequence.specs.Steps.{store, Call, take, write, restore, Outcome, take_step, write_step, restore_step, begins, step, run}
use Rattle.sequence.specs.Refused.{is_refusal, Unchanged}
use Rattle.sequence.specs.Sentence.{sentence}
use Rattle.sequence.proofs.SentenceLaws.{by_answer}
use Rattle.sequence.specs.Transcripts.{Entry, transcript}
use Rattle.sequence.specs.Remaining.{view, count}
use Rattle.sequence.proofs.StartsLaws.{begun_start, begun_exactly}
use Rattle.sequence.proofs.SequencesLaws.{sequences}
use Rattle.sequence.proofs.StaysLaws.{left_in, begun_left_in, struck_out, compares_own, compares_receiver, compares_drops, compares_read}
use Rattle.sequence.specs.Histories.{Ensured, Made, call_of, History, station_after, made}
use Rattle.sequence.proofs.HistoriesLaws as histories
use Rattle.widths.specs.Widths.{AllRead}
use Rattle.widths.proofs.WidthsLaws.{reads_back}
use Rattle.written.proofs.WrittenLaws.{all_written}
use Rattle.reach.specs.Sound.{Reached}
use Rattle.reach.specs.RefusalTable.{ByTheTable}
use Rattle.reach.specs.Completion.{Completion}
use Rattle.reach.specs.Ends.{EndsAt, Accounted}
use Rattle.reach.specs.Fields.{ChangesListed}
use Rattle.reach.proofs.CompleteLaws.{complete}
use Rattle.encoded.proofs.Demand3Laws.{demand3}
use Rattle.demands.specs.WithoutStation.{WithoutStation}
use Rattle.demands.specs.ProgramSearches.{ProgramSearches}
use Rattle.demands.specs.Demands.{Demands}

stateless : WithoutStation
stateless =
    record {
      read = λ κ bytes r e. e;
      request = λ κ κ' device byte2 byte3 params buffer after offset r e. e;
      switch = λ κ bits timeout buffer after offset r e. e;
      get_paired = λ κ buffer after offset r e. e;
      led = λ κ device leds buffer after offset r e. e;
      mouse = λ κ payload r e. e;
    }

searching : ProgramSearches
searching =
    record {
      waiting = λ places byte2 byte3 found e. e.1;
      empty = λ places found e. e.1;
      answered = λ places m found e. e.1;
    }

-- what a call gave is the rules' step, and so has what every step has
by_step : (P : Outcome → Type 0) {st : Station} {c : Call} {o : Outcome} → Ensured st c o → P (step st c) → P o
by_step P e h = subst P (sym (histories.met e)) h

refused_keeps : (st : Station) (c : Call) (o : Outcome) → Ensured st c o → is_refusal o.answer ≡ true → Unchanged st c o
refused_keeps st c o e = by_step (λ o. is_refusal o.answer ≡ true → Unchanged st c o) e (complete.refused st c)

same_count : {m n : ℕ} → count m ≡ count n → m ≡ n
same_count e = cc

same_taken : {a b : Answer} → steps.taken a ≡ steps.taken b → a ≡ b
same_taken e = cc

-- a take by its contract
taken : (st : Station) → Reached st → (bytes : List ℕ) (r : TakeCalled) → Ensured st (take bytes) (take_step bytes (take_outcome r)) → Completion st bytes (taken_of r.answer) r.next
unfolding step
taken st k bytes r e =
    let m = histories.met e in
    subst (λ (a : Answer). Completion st bytes a r.next) (sym (same_taken (ap (λ (o : Outcome). o.answer) m))) (subst (Completion st bytes (take_rule st bytes).answer) (sym (ap (λ (o : Outcome). o.station) m)) (complete.completes st k bytes))

same_restoring : {a b : RestoreAnswer} → steps.restoring a ≡ steps.restoring b → a ≡ b
same_restoring e = cc

-- a read by its contract
read_by : (st : Station) (text : List ℕ) (r : RestoreCalled) → Ensured st (restore text) (restore_step text (restore_outcome r)) → restore_outcome r ≡ restored_to (restore_ports st.ports text)
unfolding step restore_rule
read_by st text r e =
    let m = histories.met e in
    λ i. record { answer = same_restoring (ap (λ (o : Outcome). o.answer) m) i; station = ap (λ (o : Outcome). o.station) m i }

same_read : {x y : Restoring} → restored_to x ≡ restored_to y → x ≡ y
same_read e = ap (λ (o : RestoreOutcome). back o) e
  where
    back : RestoreOutcome → Restoring
    back o = record { answer = o.answer; ports = o.station.ports }

same_written : {a b : WriteAnswer} → steps.written a ≡ steps.written b → a ≡ b
same_written e = cc

-- a store by its contract, where it fits
wrote_by : (st : Station) (offset : ℕ) (lent : List ℕ) (r : Written) (after : List ℕ) → Ensured st (write store offset lent) (write_step st (written_outcome r after)) → fits_at (length (store_text st.ports)) offset (length lent) ≡ true → ◌≡◌ {A = WriteOutcome} (written_outcome r after) (record { answer = wrote (length (store_text st.ports)); lent = pasted (store_text st.ports) offset lent })
unfolding step store_rule frame_at
wrote_by st offset lent r after e fits =
    let m = histories.met e in
    let is : written_outcome r after ≡ frame_at (store_text st.ports) offset lent = λ i. record { answer = same_written (ap (λ (o : Outcome). o.answer) m) i; lent = ap (λ (o : Outcome). o.lent) m i } in
    is ∙ simp fits

came_back : (st : Station) → Start st → (ms : List Made) → History st ms → AllRead (map call_of ms) → (other : Station) (r : RestoreCalled) → Ensured other (restore (store_text (station_after st ms).ports)) (restore_step (store_text (station_after st ms).ports) (restore_outcome r)) → restore_outcome r ≡ restored_to (accepted (map stored_of (station_after st ms).ports))
unfolding restore_ports
came_back st begun ms k bytes other r e =
    let end : station_after st ms ≡ run st (map call_of ms) = (histories.history st ms k).station in
    let storable = subst (λ (x : Station). Storable x.ports) (sym end) (reads_back.storable st begun (map call_of ms) bytes) in
    read_by other (store_text (station_after st ms).ports) r e ∙ ap (λ (x : StoreRead). restored_to (restored_by other.ports x)) (keeping.read_back (station_after st ms).ports storable)

pub demands : Demands
demands =
    record {
      answers = λ st c o e. histories.met e;
      refuses = λ st placed c o e. by_step (λ o. ByTheTable st c o.answer) e (complete.refusals st placed c);
      station_kept = λ st c o e r. (refused_keeps st c o e r).station;
      bytes_kept = λ st c o e r. let h = refused_keeps st c o e r in (h.read, h.lent);
      without_station = stateless;
      replies = λ st k bytes r e. (taken st k bytes r e).replies;
      other_pings = λ st k bytes r e. (taken st k bytes r e).other_ping_law;
      errors = λ st k bytes r e. (taken st k bytes r e).fails;
      ends = λ st k bytes r e. (taken st k bytes r e).ends;
      at_most_one = λ st k bytes. (complete.completes st k bytes).one;
      beside = λ st k bytes. (complete.completes st k bytes).beside;
      searches = searching;
      serials = λ st k bytes r e. (taken st k bytes r e).told;
      no_drops = λ st k bytes r e. (taken st k bytes r e).untold;
      stores = λ st text r e ports. let m = read_by st text r e in let h = keeping.restores st.ports text ports in (λ z. h.0 (same_read (sym m ∙ z)), λ s. m ∙ ap restored_to (h.1 s));
      other_editions = λ st text r e. let m = read_by st text r e in let h = keeping.refuses_other st.ports text in (λ z. h.0 (same_read (sym m ∙ z)), λ s. m ∙ ap restored_to (h.1 s));
      broken_lines = λ st text r e line. let m = read_by st text r e in let h = keeping.refuses_broken st.ports text line in (λ z. h.0 (same_read (sym m ∙ z)), λ s. m ∙ ap restored_to (h.1 s));
      writes = λ st offset lent r after e fits. wrote_by st offset lent r after e fits;
      read_back = came_back;
      changes = λ st k c o e b n h. by_step (λ o. ChangesListed n c o.answer (view 255 st) (view n st) (view n o.station)) e (complete.changes st k c b n h);
      counts = λ st k c o e b n h. by_step (λ o. EndsAt n c o.answer (view n st) (view n o.station)) e (complete.ends st k c b n h);
      starts = λ r e. subst Start (sym e) fresh;
      restarts = λ st c o e b. by_step (λ o. Start o.station) e (begun_start c st b);
      begun = λ st c o e. by_step (λ o. (begins c ≡ true) ↔ (o.answer ≡ steps.restoring restored)) e (begun_exactly c st);
      sequences = sequences;
      reached = λ st begun ms k. subst Reached (sym (histories.history st ms k).station) (complete.reached st begun (map call_of ms));
      every_answer = λ st ms k. (histories.history st ms k).entries;
      final_station = λ st ms k. (histories.history st ms k).station;
      struck = λ st c o e. by_answer st c ∙ ap (λ (x : Outcome). sentence c x.answer) (sym (histories.met e));
      left_in = left_in;
      begun_left_in = begun_left_in;
      struck_out = struck_out;
      holds = λ n h st begun ms ns k l e. (histories.alone n h st begun ms ns k l e).holds;
      returns = λ n h st begun ms ns k l e. (histories.alone n h st begun ms ns k l e).returns;
      compares_own = compares_own;
      compares_receiver = compares_receiver;
      compares_drops = compares_drops;
      compares_read = compares_read;
      compares_count = λ n o q xs ys a b e. let h = same_count e in cc (a, b, h);
      orders = histories.orders;
      cut = histories.cut;
      accounted = λ n h st begun ms k unread. let r = histories.history st ms k in accounted_so n st ms r.entries r.station (complete.accounted n h st begun (map call_of ms) unread);
      runs = λ κ κ' κ'' st encoded arena arena_after answers answers_after r e. demand3.run_encoded st encoded.now arena.now answers.now r arena_after.now answers_after.now e;
      rows = λ κ κ' κ'' st encoded arena arena_after answers answers_after r e seven. demand3.program_rows st seven encoded.now arena.now answers.now r arena_after.now answers_after.now e;
      of_the_rules = complete;
      of_stores = keeping;
      of_texts = all_written;
      of_runs = demand3;
    }
  where
    accounted_so : (n : ℕ) (st : Station) (ms : List Made) → made st ms ≡ transcript st (map call_of ms) → station_after st ms ≡ run st (map call_of ms) → Accounted n (transcript st (map call_of ms)) (view n (run st (map call_of ms))) → Accounted n (made st ms) (view n (station_after st ms))
    accounted_so n st ms e f h =
        subst (λ (es : List Entry). Accounted n es (view n (station_after st ms))) (sym e) (subst (λ (x : Station). Accounted n (transcript st (map call_of ms)) (view n x)) (sym f) h)
