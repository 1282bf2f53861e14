-- The answers of a run fit their rows, where the calls are within the encoding's bounds; so the rows read back as the answers.
use Prim.Native.Nat.{ℕ, ◌+◌, ◌≤◌}
use Rattle.std.specs.Prelude.{◌≡◌, refl, not, eqb, ltb, take, drop}
use Rattle.std.proofs.Common.{◌∙◌, ap, subst, arith, take_at, drop_at}
use mathlib.Core.List.{List, [], ◌∷◌, ◌++◌, append_assoc}
use Rattle.std.proofs.Math.ListN.{length}
use Rattle.std.proofs.lemmas.List.{length-map}
use borrow.Author.Tests.{leb-true, le-leb, not-false}
use Rattle.report.proofs.ChoicesLaws.{by_case}
use Rattle.report.specs.Ports.{is_device, is_port}
use Rattle.report.specs.Reading as reading
use Rattle.report.specs.Reading.{Report, Read, read_rule}
use Rattle.frame.specs.Writing as writing
use Rattle.port.specs.Answers as answers
use Rattle.port.specs.Answers.{Result}
use Rattle.port.specs.Waiting as waiting
use Rattle.port.specs.declared.Port.{Port}
use Rattle.port.specs.declared.Request.{Request}
use Rattle.matching.specs.declared.Message.{Message}
use Rattle.matching.specs.Messages.{message_of}
use Rattle.hidpp.specs.HidppTaking.{take_hidpp}
use Rattle.hidpp.proofs.HidppTakingLaws.{of_each_answer}
use Rattle.serial.specs.Serials.{Given, no_serial, serial_of, given_by, serial_rule}
use Rattle.dj.specs.Padding.{is_clean}
use Rattle.dj.specs.DjTaking.{is_declared, is_paired_with, radio_rule, unpaired_rule, wpid_of, reports_of, paired_rule, link_rule, other_rule, take_dj}
use Rattle.request.specs.Requesting.{is_forbidden, RequestAt, request_by, request_at}
use Rattle.listing.specs.Listing.{listing_rule}
use Rattle.store.specs.Stores.{store_rule}
use Rattle.restore.specs.Restoring as restores
use Rattle.restore.specs.Restoring.{StoreRead, store_of, of_other, broken_at, read_store, restored_by, restore_ports}
use Rattle.keeping.proofs.LinesLaws.{line_bounds}
use Rattle.station.specs.declared.Station.{Station}
use Rattle.station.specs.Stations.{port_count, position_of, port_for}
use Rattle.station.specs.StationTaking.{TakeOutcome, stored_at, with_drops, also_at, take_by, take_rule}
use Rattle.station.specs.StationCalls.{RequestOutcome, request_rule, ended_on, tick_all, restore_rule}
use Rattle.sequence.specs.Steps.{Writer, switch, get_paired, led, list, store, Call, CallAnswer, taken, written, cancelled, ticked, restoring, step, returned_by}
use Rattle.sequence.specs.Steps as steps
use Rattle.sequence.proofs.IndependenceLaws.{Seven, seven_step}
use Rattle.encoded.specs.Decoding.{Decoded, calls, decode}
use Rattle.encoded.specs.Encoding.{InTwoBytes, InFourBytes, Bytes, Within, AllWithin}
use Rattle.encoded.proofs.WithinLaws.{byte_below, decoded_within}
use Rattle.encoded.specs.Rows.{row_size, encode_answer, decode_answer, FitsRow}
use Rattle.encoded.proofs.RowsLaws.{reads_back, row_length}
use Rattle.encoded.specs.EncodedRuns.{rows, AllFit, answers_in, ReadsBack, rows_size, EncodedOutcome, ran, encoded_by, encoded_rule}
use Rattle.encoded.specs.EncodedContracts.{RunCalled, outcome_of, EncodedPromise}

-- what an answer has to carry, by its kind
FitsTaken : answers.Answer → Type 0
FitsTaken (answers.notice (answers.paired port more wpid reports dropped)) = InTwoBytes wpid × InFourBytes reports
FitsTaken (answers.notice (answers.unpaired port dropped)) = Unit {0}
FitsTaken (answers.notice answers.empty_list) = Unit {0}
FitsTaken (answers.notice (answers.link port up)) = Unit {0}
FitsTaken (answers.notice (answers.other port kind)) = Unit {0}
FitsTaken (answers.refused number) = Unit {0}
FitsTaken (answers.reply dropped a) = Unit {0}
FitsTaken (answers.stray a) = Unit {0}
FitsTaken (answers.plain a) = Unit {0}
FitsTaken (answers.event a) = Unit {0}
FitsTaken (answers.failed a code kind) = Unit {0}
FitsTaken (answers.radio kind start size) = Unit {0}

FitsWritten : writing.WriteAnswer → Type 0
FitsWritten (writing.refused number) = Unit {0}
FitsWritten (writing.wrote n) = InTwoBytes n

FitsRestored : restores.RestoreAnswer → Type 0
FitsRestored (restores.refused number) = Unit {0}
FitsRestored (restores.refused_at number line) = 1 ≤ line
FitsRestored restores.restored = Unit {0}

FitsBy : CallAnswer → Type 0
FitsBy (taken a) = FitsTaken a
FitsBy (written a) = FitsWritten a
FitsBy (cancelled a) = Unit {0}
FitsBy (ticked counts) = length counts ≡ port_count
FitsBy (restoring a) = FitsRestored a

fits_by : (x : CallAnswer) → FitsBy x → FitsRow x
unfolding FitsBy FitsTaken FitsWritten FitsRestored
fits_by x f =
    record {
      paired = λ port more wpid reports dropped e. subst FitsBy e f;
      written = λ n e. subst FitsBy e f;
      counts = λ counts e. subst FitsBy e f;
      line = λ number line e. subst FitsBy e f;
    }

-- of a report of bytes
module _ (bytes : List ℕ) (b : Bytes bytes) where
  wpid_below : InTwoBytes (wpid_of bytes)
  wpid_below = omega (arith, byte_below bytes 4 b, byte_below bytes 5 b)

  reports_below : InFourBytes (reports_of bytes)
  reports_below = omega (arith, byte_below bytes 6 b, byte_below bytes 7 b, byte_below bytes 8 b, byte_below bytes 9 b)

-- a part of what a rule gives has the property
record Holds {A B : Type 0} (P : B → Type 0) (part : A → B) (x : A) : Type 0 where
  holds : P (part x)

abbrev FitsResult : Result → Type 0
FitsResult = Holds FitsTaken (λ (r : Result). r.answer)

-- no answer to a HID++ report carries a number of several bytes
hidpp_fits : (p : Port) (m : Message) → FitsResult (take_hidpp p m)
unfolding FitsTaken
hidpp_fits p m = record { holds = of_each_answer FitsTaken p m tt tt tt tt tt }

dj_fits : (p : Port) (r : Report) (bytes : List ℕ) → Bytes bytes → FitsResult (take_dj p r bytes)
unfolding FitsTaken take_dj radio_rule unpaired_rule paired_rule link_rule other_rule
dj_fits p r bytes b =
    by_case FitsResult (ltb r.byte2 0x40)
    (λ e. by_case FitsResult (not p.paired) (λ e. record { holds = tt })
    (λ e. by_case FitsResult (not (is_declared p.reports r.byte2)) (λ e. record { holds = tt })
    (λ e. by_case FitsResult (not (is_clean r.byte2 r.size bytes)) (λ e. record { holds = tt }) (λ e. record { holds = tt }))))
    (λ e. by_case FitsResult (eqb r.byte2 0x40) (λ e. record { holds = tt })
    (λ e. by_case FitsResult (eqb r.byte2 0x41)
    (λ e. by_case FitsResult (is_paired_with p (wpid_of bytes)) (λ e. record { holds = (wpid_below bytes b, reports_below bytes b) }) (λ e. record { holds = (wpid_below bytes b, reports_below bytes b) }))
    (λ e. by_case FitsResult (eqb r.byte2 0x42)
    (λ e. by_case FitsResult p.paired (λ e. record { holds = tt }) (λ e. record { holds = tt }))
    (λ e. record { holds = tt }))))

-- with another drop count a reply carries no more
drops_fit : (dropped : ℕ) (a : answers.Answer) → FitsTaken a → FitsTaken (with_drops dropped a)
unfolding FitsTaken
drops_fit dropped (answers.refused number) f = f
drops_fit dropped (answers.reply before a) f = tt
drops_fit dropped (answers.stray a) f = f
drops_fit dropped (answers.plain a) f = f
drops_fit dropped (answers.event a) f = f
drops_fit dropped (answers.failed a code kind) f = f
drops_fit dropped (answers.radio kind start size) f = f
drops_fit dropped (answers.notice n) f = f

also_fits : (st : Station) (g : Given) (o : TakeOutcome) → FitsTaken o.answer → FitsTaken (also_at st g o).answer
also_fits st no_serial o f = f
also_fits st (serial_of device number) o f =
    drops_fit (serial_rule (port_for st device) number).dropped o.answer f

take_fits : (st : Station) (bytes : List ℕ) → Bytes bytes → (r : Read) → FitsTaken (take_by r bytes st).answer
unfolding FitsTaken take_by
take_fits st bytes b (reading.refused number) = tt
take_fits st bytes b (reading.empty_list r) = tt
take_fits st bytes b (reading.hidpp r) =
    let p = port_for st r.device in
    also_fits st (given_by p r bytes) (stored_at st (position_of r.device) (take_hidpp p (message_of r bytes))) (hidpp_fits p (message_of r bytes)).holds
take_fits st bytes b (reading.dj r) = (dj_fits _ r bytes b).holds

abbrev FitsOutcome : writing.WriteOutcome → Type 0
FitsOutcome = Holds FitsWritten (λ (o : writing.WriteOutcome). o.answer)

abbrev FitsAt : RequestAt → Type 0
FitsAt = Holds FitsWritten (λ (o : RequestAt). o.answer)

abbrev FitsRequest : RequestOutcome → Type 0
FitsRequest = Holds FitsWritten (λ (o : RequestOutcome). o.answer)

-- what is written is no longer than the lent buffer
module _ (lent : List ℕ) (room : InTwoBytes (length lent)) where
  frame_fits : (frame : List ℕ) (offset : ℕ) → FitsOutcome (writing.frame_at frame offset lent)
  unfolding FitsWritten writing.frame_at
  frame_fits frame offset =
      by_case FitsOutcome (writing.fits_at (length frame) offset (length lent)) (λ e. record { holds = omega (arith, leb-true (offset + length frame) (length lent) e, room) }) (λ e. record { holds = tt })

  request_by_fits : (r : waiting.Room) (p : Port) (request : Request) (frame : List ℕ) (offset : ℕ) → InTwoBytes (length frame) → FitsAt (request_by r p request frame offset lent)
  unfolding FitsWritten request_by
  request_by_fits (waiting.Room.refused number) p request frame offset h = record { holds = tt }
  request_by_fits (waiting.at place) p request frame offset h = record { holds = h }

  request_at_fits : (p : Port) (device byte2 byte3 ticks : ℕ) (params : List ℕ) (offset : ℕ) → FitsAt (request_at p device byte2 byte3 ticks params offset lent)
  unfolding FitsWritten request_at
  request_at_fits p device byte2 byte3 ticks params offset =
      by_case FitsAt (is_forbidden byte2 byte3 ticks params) (λ e. record { holds = tt })
      (λ e. by_case FitsAt (not (writing.fits_at (length frame) offset (length lent))) (λ e. record { holds = tt })
      (λ e. request_by_fits _ p _ frame offset (omega (arith, leb-true (offset + length frame) (length lent) (not-false (writing.fits_at (length frame) offset (length lent)) e), room))))
    where
      frame : List ℕ
      frame = writing.request_frame device byte2 byte3 params

  request_fits : (st : Station) (device byte2 byte3 ticks : ℕ) (params : List ℕ) (offset : ℕ) → FitsRequest (request_rule st device byte2 byte3 ticks params offset lent)
  unfolding FitsWritten request_rule
  request_fits st device byte2 byte3 ticks params offset =
      by_case FitsRequest (not (is_port device)) (λ e. record { holds = tt }) (λ e. record { holds = (request_at_fits _ device byte2 byte3 ticks params offset).holds })

  writer_fits : (st : Station) (writer : Writer) (offset : ℕ) → FitsOutcome (steps.writer_rule st writer offset lent)
  unfolding FitsWritten writing.switch_rule writing.get_paired_rule writing.led_rule listing_rule store_rule
  writer_fits st (switch bits timeout) offset =
      by_case FitsOutcome (writing.has_reserved_bits bits) (λ e. record { holds = tt }) (λ e. frame_fits _ offset)
  writer_fits st get_paired offset = frame_fits _ offset
  writer_fits st (led device leds) offset =
      by_case FitsOutcome (not (is_device device)) (λ e. record { holds = tt }) (λ e. frame_fits _ offset)
  writer_fits st list offset = frame_fits _ offset
  writer_fits st store offset = frame_fits _ offset

-- the line of a refused restore is at least 1
restore_fits : (st : Station) (text : List ℕ) → FitsRestored (restore_rule st text).answer
unfolding FitsRestored restore_rule restore_ports
restore_fits st text = go (read_store text) refl
  where
    go : (x : StoreRead) → read_store text ≡ x → FitsRestored (restored_by st.ports x).answer
    go (store_of ports) e = tt
    go of_other e = tt
    go (broken_at line) e = (line_bounds text line e).0

-- each call
step_fits : (st : Station) (c : Call) → Seven st → Within c → FitsBy (step st c).answer
unfolding FitsBy step take_rule tick_all
step_fits st (steps.take bytes) s w = take_fits st bytes w.bytes (read_rule bytes)
step_fits st (steps.request device byte2 byte3 ticks params offset lent) s w =
    (request_fits lent w.room st device byte2 byte3 ticks params offset).holds
step_fits st (steps.cancel device byte2 byte3) s w = tt
step_fits st steps.tick s w = length-map st.ports ended_on ∙ s
step_fits st (steps.write (switch bits timeout) offset lent) s w = (writer_fits lent w.room st (switch bits timeout) offset).holds
step_fits st (steps.write get_paired offset lent) s w = (writer_fits lent w.room st get_paired offset).holds
step_fits st (steps.write (led device leds) offset lent) s w = (writer_fits lent w.room st (led device leds) offset).holds
step_fits st (steps.write list offset lent) s w = (writer_fits lent w.room st list offset).holds
step_fits st (steps.write store offset lent) s w = (writer_fits lent w.room st store offset).holds
step_fits st (steps.restore text) s w = restore_fits st text

pub all_fit : (st : Station) → Seven st → (cs : List Call) → AllWithin cs → AllFit (returned_by st cs)
unfolding returned_by AllWithin AllFit
all_fit st s [] w = _
all_fit st s (c ∷ cs) w =
    (fits_by (step st c).answer (step_fits st c s w.0), all_fit (step st c).station (seven_step c st s) cs w.1)

-- the rows of answers that fit, whatever comes after them
rows_read : (st : Station) (cs : List Call) (rest : List ℕ) → AllFit (returned_by st cs) → ReadsBack st cs (rows (returned_by st cs) ++ rest)
unfolding returned_by AllFit rows answers_in
rows_read st [] rest f = refl
rows_read st (c ∷ cs) rest f =
    let x = (step st c).answer in
    let after = (step st c).station in
    let behind = rows (returned_by after cs) ++ rest in
    ap (λ (l : List ℕ). decode_answer (take row_size l) ∷ answers_in (length cs) (drop row_size l)) (append_assoc (encode_answer x) (rows (returned_by after cs)) rest)
    ∙ ap (λ (l : List ℕ). decode_answer l ∷ answers_in (length cs) (drop row_size (encode_answer x ++ behind))) (take_at (encode_answer x) behind row_size (row_length x))
    ∙ ap (λ (l : List ℕ). decode_answer (encode_answer x) ∷ answers_in (length cs) l) (drop_at (encode_answer x) behind row_size (row_length x))
    ∙ ap (λ (a : CallAnswer). a ∷ answers_in (length cs) behind) (reads_back x f.0)
    ∙ ap (λ (others : List CallAnswer). x ∷ others) (rows_read after cs rest f.1)

-- so do those that a run leaves
pub run_reads_back : (st : Station) → Seven st → (cs : List Call) → AllWithin cs → (bytes : List ℕ) → ReadsBack st cs (ran st cs bytes).answers
unfolding ran
run_reads_back st s cs w bytes = rows_read st cs (drop (rows_size cs) bytes) (all_fit st s cs w)

-- and those that the program leaves
pub program_reads_back : (st : Station) → Seven st → (encoded arena answers : List ℕ) (r : RunCalled) (arena_after answers_after : List ℕ) → EncodedPromise st encoded arena answers r arena_after answers_after → (cs : List Call) → decode encoded arena ≡ calls cs → rows_size cs ≤ length answers → Bytes encoded → Bytes arena → ReadsBack st cs answers_after
unfolding encoded_rule encoded_by
program_reads_back st s encoded arena answers r arena_after answers_after kept cs decoded room p q =
    let outcome : outcome_of r arena_after answers_after ≡ ran st cs answers = kept ∙ ap (λ (d : Decoded). encoded_by d st arena answers) decoded ∙ simp (le-leb (rows_size cs) (length answers) room) in
    ap (λ (o : EncodedOutcome). answers_in (length cs) o.answers) outcome
    ∙ run_reads_back st s cs (decoded_within encoded arena p q cs decoded) answers
