-- The three demands, as one statement about the program: a field for each sentence, in our words. `Ensured st c o` is what the program's own function was proved to ensure of the call c on the station st with the outcome o, its contract itself (crate sequence, Histories). Ports are named by their numbers, 1 to 6 and 255. The premise `Reached` holds after every sequence of calls (the field `reached`).
use Rattle.std.specs.Prelude.{ℕ, ◌≤◌, ◌≡◌, ◌↔◌, true, false, cond, List, ◌∷◌, ◌++◌, map, length, get_or}
use Rattle.std.specs.Borrow.{Bor, MutBor}
use Rattle.report.specs.Ports.{is_device, is_port}
use Rattle.report.specs.Sizes.{byte, hidpp_start}
use Rattle.report.specs.Reading.{report_from, read_rule}
use Rattle.frame.specs.FrameContracts.{Written, written_outcome}
use Rattle.frame.specs.Writing.{WriteOutcome, wrote, fits_at, pasted}
use Rattle.restore.specs.Restoring.{restored}
use Rattle.port.specs.Records.{empty_place, request_in}
use Rattle.port.specs.Places.{is_empty}
use Rattle.port.specs.Answers.{stray}
use Rattle.port.specs.PortContracts.{taken_of}
use Rattle.matching.specs.Messages.{message_of}
use Rattle.hidpp.specs.HidppTaking.{carried}
use Rattle.serial.specs.Giving.{Gives}
use Rattle.port.specs.declared.Port.{Port}
use Rattle.store.specs.Stores.{store_text, stored_of, Store}
use Rattle.keeping.specs.Lines.{OtherEdition, BrokenAt}
use Rattle.keeping.specs.Keeping.{accepted, refused_other, refused_broken, StoresKept}
use Rattle.station.specs.declared.Station.{Station}
use Rattle.station.specs.StationContracts.{TakeCalled, RestoreCalled, take_outcome, restore_outcome}
use Rattle.station.specs.StationCalls.{restored_to}
use Rattle.station.specs.Stations.{port_count, position_of, port_for}
use Rattle.station.proofs.Station.new.Reads as new_reads
use Rattle.sequence.specs.Starts.{Start}
use Rattle.sequence.specs.Steps.{store, Call, take, write, restore, read_of, lent_of, ticked, restoring, Outcome, take_step, write_step, restore_step, begins, step, run, returned, label_of}
use Rattle.sequence.specs.Targets.{all}
use Rattle.sequence.specs.Sentence.{sentence}
use Rattle.sequence.specs.Refused.{is_refusal}
use Rattle.sequence.specs.Transcripts.{Entry, calls_of, transcript}
use Rattle.sequence.specs.Remaining.{view, remaining, taken_drops, compared_of, compared}
use Rattle.sequence.specs.Stays.{Stays, ComparesOwn, ComparesReceiver, ComparesDrops, ComparesRead}
use Rattle.sequence.specs.Histories.{Ensured, Made, call_of, History, station_after, made}
use Rattle.sequence.specs.Sequences.{Unread, Sequences}
use Rattle.widths.specs.Widths.{AllRead}
use Rattle.written.specs.Written.{AllWritten}
use Rattle.reach.specs.Sound.{Reached}
use Rattle.reach.specs.CallCases.{AllPlaced}
use Rattle.reach.specs.RefusalTable.{ByTheTable}
use Rattle.reach.specs.Complete.{Complete}
use Rattle.reach.specs.Completion.{is_reply, is_failure, is_hidpp_read, Replies, OtherPing, Fails, Swaps, Told, ends_in}
use Rattle.reach.specs.Ends.{EndsAt, Accounted}
use Rattle.reach.specs.Fields.{ChangesListed}
use Rattle.encoded.specs.EncodedContracts.{RunCalled}
use Rattle.encoded.specs.Decoding.{calls, decode}
use Rattle.encoded.specs.Encoding.{Bytes}
use Rattle.encoded.specs.EncodedRuns.{rows_size, ran, ReadsBack}
use Rattle.encoded.specs.EncodedContracts.{outcome_of}
use Rattle.encoded.specs.Demand3.{Demand3}
use Rattle.encoded.proofs.run_encoded.Reads as run_reads
use Rattle.demands.specs.WithoutStation.{WithoutStation}
use Rattle.demands.specs.ProgramSearches.{ProgramSearches}

pub record Demands : Type 0 where
  -- Demand 1. Any bytes, any length, any order of calls: every call ends with an answer. That its function returns is what the prover checks of every function; its outcome is the one that the rules give, on any station
  pub answers : (st : Station) (c : Call) (o : Outcome) → Ensured st c o → o ≡ step st c
  -- Each call refuses bad input itself: with each number exactly when a row of the table with that number holds, on any station whose ports have their four places, as the program's type has it
  pub refuses : (st : Station) → AllPlaced st → (c : Call) (o : Outcome) → Ensured st c o → ByTheTable st c o.answer
  -- A refused call leaves the station, the bytes lent to be read and the buffer lent to be written as they were
  pub station_kept : (st : Station) (c : Call) (o : Outcome) → Ensured st c o → is_refusal o.answer ≡ true → o.station ≡ st
  pub bytes_kept : (st : Station) (c : Call) (o : Outcome) → Ensured st c o → is_refusal o.answer ≡ true → (o.read ≡ read_of c) × (o.lent ≡ lent_of c)
  -- Demand 2. Without a station, reports are read, frames are written and movements are found as the rules say
  pub without_station : WithoutStation
  -- A reply completes a request exactly when one waits on the device that byte 1 names with the same bytes 2 and 3 and, of a ping (byte 2 = 0, function 1), with the same third parameter
  pub replies : (st : Station) → Reached st → (bytes : List ℕ) (r : TakeCalled) → Ensured st (take bytes) (take_step bytes (take_outcome r)) → (is_reply (taken_of r.answer) ≡ true) ↔ Replies st bytes
  -- Where a ping waits there with the same bytes 2 and 3, and its third parameter differs, the report is stray, whatever the version, and changes nothing
  pub other_pings : (st : Station) → Reached st → (bytes : List ℕ) (r : TakeCalled) → Ensured st (take bytes) (take_step bytes (take_outcome r)) → OtherPing st bytes → (taken_of r.answer ≡ carried stray (message_of (report_from hidpp_start bytes) bytes)) × (r.next ≡ st)
  -- An error, exactly when one waits there with the two bytes that the error names, and its kind fits that request
  pub errors : (st : Station) → Reached st → (bytes : List ℕ) (r : TakeCalled) → Ensured st (take bytes) (take_step bytes (take_outcome r)) → (is_failure (taken_of r.answer) ≡ true) ↔ Fails st bytes
  -- Each ends that one and no other: of every port, the place of the request that it answers is emptied, and every other place stays. DJ reports complete none, and drop all of a port's requests exactly at 0x40, and at 0x41 with another WPID or for a device that is not paired. A reply that gives another serial of a device drops all of that device's requests beside the one that it ends
  pub ends : (st : Station) → Reached st → (bytes : List ℕ) (r : TakeCalled) → Ensured st (take bytes) (take_step bytes (take_outcome r)) → (n : ℕ) → is_port n ≡ true → (place : ℕ) → request_in (port_for r.next n).places place ≡ cond (ends_in st bytes n place) empty_place (request_in (port_for st n).places place)
  -- A HID++ report ends at most one request on the port that it names, and on another port none but where it gives another serial of that device
  pub at_most_one : (st : Station) → Reached st → (bytes : List ℕ) → is_hidpp_read (read_rule bytes) ≡ true → (i j : ℕ) → ends_in st bytes (byte bytes 1) i ≡ true → ends_in st bytes (byte bytes 1) j ≡ true → i ≡ j
  pub beside : (st : Station) → Reached st → (bytes : List ℕ) → is_hidpp_read (read_rule bytes) ≡ true → (n : ℕ) → is_port n ≡ true → ¬ (byte bytes 1 ≡ n) → (i : ℕ) → (ends_in st bytes n i ≡ true) ↔ (Swaps st bytes n × (is_empty (request_in (port_for st n).places i) ≡ false))
  -- The three searches over waiting places, `port::first_match`, `port::first_empty` and `matching::first_answered`, give the lowest that matches, or none exactly when none does: of any places, two equal ones too and such as no call reaches. What that comes to at a port is in `of_the_rules` (`lowest`)
  pub searches : ProgramSearches
  -- A long reply on port 255 to the request for register B5 that waits with first parameter 0x30 + device − 1, with the same first parameter (`Gives`), gives that device's serial: where the device is paired, the port has it, and where a different one was known, the port is first made fresh but for pairing, WPID and bitfield; the answer counts the requests dropped so
  pub serials : (st : Station) → Reached st → (bytes : List ℕ) (r : TakeCalled) → Ensured st (take bytes) (take_step bytes (take_outcome r)) → is_hidpp_read (read_rule bytes) ≡ true → (n number : ℕ) → Gives (port_for st 255) (report_from hidpp_start bytes) bytes n number → Told (port_for st n) (port_for r.next n) number (taken_of r.answer)
  -- Every other reply drops none
  pub no_drops : (st : Station) → Reached st → (bytes : List ℕ) (r : TakeCalled) → Ensured st (take bytes) (take_step bytes (take_outcome r)) → ((n number : ℕ) → ¬ Gives (port_for st 255) (report_from hidpp_start bytes) bytes n number) → taken_drops (taken_of r.answer) ≡ 0
  -- A store is read as document 02 says: the next station is that of these ports exactly where the text is their store; it is refused with 15 exactly where its first line is that of another edition; and with 16 and a line's number exactly where that line is the first that breaks the rules. A refused read leaves the station
  pub stores : (st : Station) (text : List ℕ) (r : RestoreCalled) → Ensured st (restore text) (restore_step text (restore_outcome r)) → (ports : List Port) → (restore_outcome r ≡ restored_to (accepted ports)) ↔ Store text ports
  pub other_editions : (st : Station) (text : List ℕ) (r : RestoreCalled) → Ensured st (restore text) (restore_step text (restore_outcome r)) → (restore_outcome r ≡ restored_to (refused_other st.ports)) ↔ OtherEdition text
  pub broken_lines : (st : Station) (text : List ℕ) (r : RestoreCalled) → Ensured st (restore text) (restore_step text (restore_outcome r)) → (line : ℕ) → (restore_outcome r ≡ restored_to (refused_broken line st.ports)) ↔ BrokenAt text line
  -- It is written whole at its offset where it fits, and the bytes before and after it keep their values; where it does not, the table of refusals has 10
  pub writes : (st : Station) (offset : ℕ) (lent : List ℕ) (r : Written) (after : List ℕ) → Ensured st (write store offset lent) (write_step st (written_outcome r after)) → fits_at (length (store_text st.ports)) offset (length lent) ≡ true → ◌≡◌ {A = WriteOutcome} (written_outcome r after) (record { answer = wrote (length (store_text st.ports)); lent = pasted (store_text st.ports) offset lent })
  -- Reading what was written after any history whose reports and texts are bytes, on any station, gives back what a store keeps of every port
  pub read_back : (st : Station) → Start st → (ms : List Made) → History st ms → AllRead (map call_of ms) → (other : Station) (r : RestoreCalled) → Ensured other (restore (store_text (station_after st ms).ports)) (restore_step (store_text (station_after st ms).ports) (restore_outcome r)) → restore_outcome r ≡ restored_to (accepted (map stored_of (station_after st ms).ports))
  -- Records change only as documents 01 and 02 list: of every port, by every call, a field that is not listed stays. An accepted read gives every port anew, and so of it neither this nor the next is said
  pub changes : (st : Station) → Reached st → (c : Call) (o : Outcome) → Ensured st c o → begins c ≡ false → (n : ℕ) → is_port n ≡ true → ChangesListed n c o.answer (port_for st 255) (port_for st n) (port_for o.station n)
  -- Each count is that of places emptied: what becomes of every place of every port by every call, and the counts for each way in which a request ends
  pub counts : (st : Station) → Reached st → (c : Call) (o : Outcome) → Ensured st c o → begins c ≡ false → (n : ℕ) → is_port n ≡ true → EndsAt n c o.answer (port_for st n) (port_for o.station n)
  -- Demand 3, for every history: calls that the program made, in any order, with any arguments and any lent bytes, refused ones included; the first on a start, which a new station and one that a store restores are, each later one on the station that the call before it handed back or left
  pub starts : (r : Station) → new_reads.Learnt tt tt r tt → Start r
  pub restarts : (st : Station) (c : Call) (o : Outcome) → Ensured st c o → begins c ≡ true → Start o.station
  -- A call begins a new sequence exactly where it answers that it restored the station
  pub begun : (st : Station) (c : Call) (o : Outcome) → Ensured st c o → (begins c ≡ true) ↔ (o.answer ≡ restoring restored)
  -- With any number of accepted and refused reads in it: it is one sequence, or one, an accepted read, and what follows on the start that it gives
  pub sequences : (st : Station) → Start st → (ms : List Made) → History st ms → Sequences st ms
  pub reached : (st : Station) → Start st → (ms : List Made) → History st ms → Reached (station_after st ms)
  -- Every answer and the lent bytes after every call are those that the rules give, and so is the station at the end
  pub every_answer : (st : Station) (ms : List Made) → History st ms → made st ms ≡ transcript st (map call_of ms)
  pub final_station : (st : Station) (ms : List Made) → History st ms → station_after st ms ≡ run st (map call_of ms)
  -- For each port, strike out every call for another device or for none, and keep the ticks, every call for 255, and every accepted read, where a new sequence begins, one and the same for every port: which port a call is for is what document 01 says of its answer
  pub struck : (st : Station) (c : Call) (o : Outcome) → Ensured st c o → label_of st c ≡ sentence c o.answer
  pub left_in : (n : ℕ) (e : Entry) (es : List Entry) → Stays n e.label → remaining n (e ∷ es) ≡ e ∷ remaining n es
  pub begun_left_in : (n : ℕ) (e : Entry) (es : List Entry) → begins e.call ≡ true → remaining n (e ∷ es) ≡ e ∷ remaining n es
  pub struck_out : (n : ℕ) (e : Entry) (es : List Entry) → ¬ Stays n e.label → begins e.call ≡ false → remaining n (e ∷ es) ≡ remaining n es
  -- What remains, run from the same start: at its end the port holds exactly what it holds after the full run
  pub holds : (n : ℕ) → is_port n ≡ true → (st : Station) → Start st → (ms ns : List Made) → History st ms → History st ns → map call_of ns ≡ calls_of (remaining n (made st ms)) → view n (station_after st ms) ≡ view n (station_after st ns)
  -- Each call that remains gives the same answer and leaves the same lent bytes; of a tick's answer, that port's count is compared, and of a call for 255, where a device is compared, that device's drop count; where 255 is compared, the drop count is left out
  pub returns : (n : ℕ) → is_port n ≡ true → (st : Station) → Start st → (ms ns : List Made) → History st ms → History st ns → map call_of ns ≡ calls_of (remaining n (made st ms)) → compared n (remaining n (made st ms)) ≡ compared n (made st ns)
  -- What is compared: of a device's own call its answer and all lent bytes, of 255's all but the drop count, of a call for 255 for a device its drop count and all lent bytes, of an accepted read its answer and all lent bytes, of a tick that port's count
  pub compares_own : ComparesOwn
  pub compares_receiver : ComparesReceiver
  pub compares_drops : ComparesDrops
  pub compares_read : ComparesRead
  pub compares_count : (n : ℕ) (o q : Outcome) (xs ys : List ℕ) → o.answer ≡ ticked xs → q.answer ≡ ticked ys → compared_of n all (returned o) ≡ compared_of n all (returned q) → get_or xs (position_of n) 0 ≡ get_or ys (position_of n) 0
  -- So any two orders that keep, for each device, its own calls, the ticks, the calls for 255 and the accepted reads in one sequence end in the same station
  pub orders : (st : Station) → Start st → (ms ns : List Made) → History st ms → History st ns → ((n : ℕ) → is_device n ≡ true → calls_of (remaining n (made st ms)) ≡ calls_of (remaining n (made st ns))) → station_after st ms ≡ station_after st ns
  -- A history may be cut anywhere: its second part is a history from where the first one ends
  pub cut : (st : Station) (ms ns : List Made) → History st (ms ++ ns) → History st ms × History (station_after st ms) ns
  -- Over every sequence, up to the next accepted read, and for each port: requests accepted are those answered by reply, by error, expired, cancelled, dropped, and those that wait, counted from the answers given. Those that wait when a read is accepted are lost uncounted
  pub accounted : (n : ℕ) → is_port n ≡ true → (st : Station) → Start st → (ms : List Made) → History st ms → Unread (map call_of ms) → Accounted n (made st ms) (port_for (station_after st ms) n)
  -- A run of encoded calls by the program, `encoded::run_encoded`: where the bytes are calls and there is room for their answers, the final station, every lent byte and every row, which is one answer in ten bytes, are those of the rules' run; and where the station has seven ports and all that is lent are bytes, the rows read back as the answers
  pub runs : (κ κ' κ'' : List ℕ) (st : Station) (encoded : Bor (List ℕ)) (arena arena_after answers answers_after : MutBor (List ℕ)) (r : RunCalled) → run_reads.Learnt (κ, (κ', (κ'', tt))) (st, (encoded, (arena, (answers, tt)))) r (st, (encoded, (arena_after, (answers_after, tt)))) → (cs : List Call) → decode encoded.now arena.now ≡ calls cs → rows_size cs ≤ length answers.now → outcome_of r arena_after.now answers_after.now ≡ ran st cs answers.now
  pub rows : (κ κ' κ'' : List ℕ) (st : Station) (encoded : Bor (List ℕ)) (arena arena_after answers answers_after : MutBor (List ℕ)) (r : RunCalled) → run_reads.Learnt (κ, (κ', (κ'', tt))) (st, (encoded, (arena, (answers, tt)))) r (st, (encoded, (arena_after, (answers_after, tt)))) → length st.ports ≡ port_count → (cs : List Call) → decode encoded.now arena.now ≡ calls cs → rows_size cs ≤ length answers.now → Bytes encoded.now → Bytes arena.now → ReadsBack st cs answers_after.now
  -- What is gathered of the rules alone, of every station and of every list of calls: their cases, their refusals, what they end and change; and each port by itself, any two orders, and which calls have an encoding
  pub of_the_rules : Complete
  -- of the store: what reading and writing come to for every text and all ports, and that the texts that are accepted are exactly those that the writer writes for some station that calls reach
  pub of_stores : StoresKept
  pub of_texts : AllWritten
  pub of_runs : Demand3
