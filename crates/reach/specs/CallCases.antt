-- Document 01, "Refusal numbers", "Writing", "Taking a HID++ report" and "Taking a DJ report", and document 02, Asks 1 to 3 and 5: which case a call falls into, and its whole outcome. Each case says all that it asks for, and so what the points before it left.
use Rattle.std.specs.Prelude.{ℕ, ◌≤◌, ◌<◌, ◌≡◌, ◌↔◌, true, false, List, length, Some, None}
use Rattle.report.specs.Refusals.{no_such_port, not_paired, not_declared, dirty_padding, forbidden, no_room, already_waiting, places_full, not_waiting, other_edition, broken_line}
use Rattle.report.specs.Ports.{is_port}
use Rattle.report.specs.Sizes.{software_id}
use Rattle.report.specs.Reading as reading
use Rattle.report.specs.Reading.{Report, read_rule}
use Rattle.frame.specs.Writing as writing
use Rattle.port.specs.declared.Port.{Port}
use Rattle.port.specs.Records.{place_count, made_fresh, request_in, with_pairing, with_serial, with_link, with_reports}
use Rattle.port.specs.Places.{is_empty, matches, first_at, count_waiting}
use Rattle.port.specs.Waiting as waiting
use Rattle.port.specs.Waiting.{waiting_at, ended_at}
use Rattle.port.specs.Answers.{Answer, refused, reply, stray, plain, event, failed, notice, unpaired, paired, empty_list, link, other, Result}
use Rattle.matching.specs.declared.Message.{Message}
use Rattle.matching.specs.Messages.{message_of}
use Rattle.matching.specs.Matching.{is_ping, answers, answered_at}
use Rattle.hidpp.specs.HidppRecords.{after_reply, after_error, after_event}
use Rattle.hidpp.specs.HidppTaking.{about, carried, is_error, named2, named3, code, error_fits, kind_of, is_major1, take_hidpp}
use Rattle.serial.specs.Serials.{SerialResult}
use Rattle.serial.specs.Giving.{Gives}
use Rattle.dj.specs.Dirty.{Dirty}
use Rattle.dj.specs.DjTaking.{is_declared, radio_answer, is_more, wpid_of, reports_of, is_paired_with, is_up}
use Rattle.request.specs.Requesting.{is_forbidden, waiting_request, RequestAt, refused_at, with_waiting, request_at}
use Rattle.store.specs.Stores.{Store}
use Rattle.restore.specs.Restoring.{restored, refused as restore_refused, refused_at as restore_refused_at}
use Rattle.keeping.specs.Lines.{OtherEdition, BrokenAt}
use Rattle.station.specs.declared.Station.{Station}
use Rattle.station.specs.Stations.{port_count, position_of, port_at, port_for, with_port}
use Rattle.station.specs.StationTaking.{stored_at}
use Rattle.station.specs.StationCalls.{requested_at, cancelled_at, tick_all}
use Rattle.sequence.specs.Steps.{Writer, Call, take, request, cancel, tick, write, restore, Outcome, take_step, request_step, cancel_step, tick_step, write_step, restore_step, writer_rule, step}

-- a request with these bytes 2 and 3 waits at the port
abbrev pub Waits : Port → ℕ → ℕ → Type 0
Waits p byte2 byte3 = (place : ℕ) × (matches byte2 byte3 (request_in p.places place) ≡ true)

abbrev pub gives : Answer → Port → Result
gives answer port = record { answer = answer; port = port }

-- a HID++ report at its port
module _ (p : Port) (m : Message) where
  abbrev pub byte2 : ℕ
  byte2 = m.byte2.0

  abbrev pub byte3 : ℕ
  byte3 = m.byte3

  -- an error names a request that waits, and fits it
  abbrev pub Names : Type 0
  Names = (error_fits m ≡ true) × Waits p (named2 m) (named3 m)

  -- a request waits that the report answers
  abbrev pub Answered : Type 0
  Answered = (place : ℕ) × (answers m (request_in p.places place) ≡ true)

  -- no error, and none waits with these bytes 2 and 3
  abbrev pub Unasked : Type 0
  Unasked = (is_error byte2 ≡ false) × (¬ Waits p byte2 byte3)

  -- 1. byte 2 is 0x8F or 0xFF, and the request that it names waits
  abbrev pub IsFailed : Type 0
  IsFailed = (is_error byte2 ≡ true) × Names

  -- 2. it answers a waiting request
  abbrev pub IsReply : Type 0
  IsReply = (is_error byte2 ≡ false) × Answered

  pub data IsStray : Type 0 where
    -- 1. byte 2 is 0x8F or 0xFF, and none that it fits waits
    unnamed : is_error byte2 ≡ true → ¬ Names → IsStray
    -- 2. a ping waits with these bytes 2 and 3, and none whose third parameter is the same
    other_ping : is_ping byte2 byte3 ≡ true → ¬ Answered → Waits p byte2 byte3 → IsStray
    -- 3. byte 2 is 0x80 to 0x83
    register : Unasked → 0x80 ≤ byte2 → byte2 ≤ 0x83 → IsStray
    -- never read (`register` of Complete)
    reserved : Unasked → 0x83 < byte2 → IsStray
    -- 4. byte 2 below 0x40, the version's major not 1, the software id not 0
    late : Unasked → byte2 < 0x40 → is_major1 p.version ≡ false → ¬ (software_id byte3 ≡ 0) → IsStray

  pub data IsPlain : Type 0 where
    -- 3. byte 2 is 0x40 to 0x7F
    notification : Unasked → 0x40 ≤ byte2 → byte2 ≤ 0x7F → IsPlain
    -- 4. byte 2 below 0x40, version major 1
    major1 : Unasked → byte2 < 0x40 → is_major1 p.version ≡ true → IsPlain

  pub data IsEvent : Type 0 where
    -- 4. byte 2 below 0x40, the version's major not 1, software id 0
    software0 : Unasked → byte2 < 0x40 → is_major1 p.version ≡ false → software_id byte3 ≡ 0 → IsEvent

  -- an error carries the request's bytes 2 and 3, with the code and which kind it was
  abbrev pub failed_by : Answer
  failed_by = failed (about m (named2 m) (named3 m)) (code m) (kind_of byte2)

  -- the place of the request that an error, and a reply, ends
  abbrev pub failed_place : ℕ
  failed_place = waiting_at p (named2 m) (named3 m)

  abbrev pub replied_place : ℕ
  replied_place = answered_at p m

  -- the port after the reply
  abbrev pub replied_port : Port
  replied_port = after_reply (ended_at p replied_place) m (request_in p.places replied_place)

  pub data HidppCase : Result → Type 0 where
    gives_failed : IsFailed → HidppCase (gives failed_by (after_error (ended_at p failed_place) byte2 (named2 m) (named3 m) (code m)))
    gives_reply : IsReply → HidppCase (gives (carried (reply 0) m) replied_port)
    gives_stray : IsStray → HidppCase (gives (carried stray m) p)
    gives_plain : IsPlain → HidppCase (gives (carried plain m) p)
    gives_event : IsEvent → HidppCase (gives (carried event m) (after_event p m))

-- a serial at its device's port
pub data SerialCase (p : Port) (number : ℕ) : SerialResult → Type 0 where
  -- a device that is not paired
  keeps_none : p.paired ≡ false → SerialCase p number (record { dropped = 0; port = p })
  -- the first that is known, and the same again
  first_serial : p.paired ≡ true → p.serial ≡ None → SerialCase p number (record { dropped = 0; port = with_serial p (Some number) })
  same_serial : p.paired ≡ true → p.serial ≡ Some number → SerialCase p number (record { dropped = 0; port = p })
  -- a different one
  other_serial : (known : ℕ) → p.paired ≡ true → p.serial ≡ Some known → ¬ (known ≡ number) → SerialCase p number (record {
    dropped = count_waiting p.places;
    port = with_serial (with_pairing (made_fresh p) p.wpid p.reports) (Some number);
  })

-- a DJ report at its port
module _ (p : Port) (r : Report) (bytes : List ℕ) where
  abbrev pub kind : ℕ
  kind = r.byte2

  abbrev pub paired_notice : ℕ → Answer
  paired_notice dropped = notice (paired r.device (is_more bytes) (wpid_of bytes) (reports_of bytes) dropped)

  -- 7, 8 and 17: a radio report, or 0x42
  pub data DjRefused : ℕ → Type 0 where
    radio_unpaired : kind < 0x40 → p.paired ≡ false → DjRefused not_paired
    radio_undeclared : kind < 0x40 → p.paired ≡ true → is_declared p.reports kind ≡ false → DjRefused not_declared
    radio_dirty : kind < 0x40 → p.paired ≡ true → is_declared p.reports kind ≡ true → Dirty kind bytes → DjRefused dirty_padding
    link_unpaired : kind ≡ 0x42 → p.paired ≡ false → DjRefused not_paired

  pub data DjCase : Result → Type 0 where
    dj_refused : {number : ℕ} → DjRefused number → DjCase (gives (refused number) p)
    -- a radio report: its payload
    radio_taken : kind < 0x40 → p.paired ≡ true → is_declared p.reports kind ≡ true → ¬ Dirty kind bytes → DjCase (gives (radio_answer kind r.size) (with_link p true))
    -- 0x40
    unpairs : kind ≡ 0x40 → DjCase (gives (notice (unpaired r.device (count_waiting p.places))) (made_fresh p))
    -- 0x41: paired with that WPID, or not
    paired_same : kind ≡ 0x41 → is_paired_with p (wpid_of bytes) ≡ true → DjCase (gives (paired_notice 0) (with_reports p (reports_of bytes)))
    paired_new : kind ≡ 0x41 → is_paired_with p (wpid_of bytes) ≡ false → DjCase (gives (paired_notice (count_waiting p.places)) (with_pairing (made_fresh p) (wpid_of bytes) (reports_of bytes)))
    -- 0x42: the link
    link_set : kind ≡ 0x42 → p.paired ≡ true → DjCase (gives (notice (link r.device (is_up bytes))) (with_link p (is_up bytes)))
    -- any other notification
    other_notice : 0x43 ≤ kind → DjCase (gives (notice (other r.device kind)) p)

-- a request at its port
module _ (p : Port) (device byte2 byte3 ticks : ℕ) (params : List ℕ) (offset : ℕ) (lent : List ℕ) where
  abbrev pub frame : List ℕ
  frame = writing.request_frame device byte2 byte3 params

  -- neither 9 nor 10 applies: the frame may be written
  pub record Writable : Type 0 where
    pub allowed : is_forbidden byte2 byte3 ticks params ≡ false
    pub room : writing.fits_at (length frame) offset (length lent) ≡ true

  pub data RequestRefused : ℕ → Type 0 where
    is9 : is_forbidden byte2 byte3 ticks params ≡ true → RequestRefused forbidden
    is10 : is_forbidden byte2 byte3 ticks params ≡ false → writing.fits_at (length frame) offset (length lent) ≡ false → RequestRefused no_room
    -- one waits with these bytes 2 and 3
    is11 : Writable → Waits p byte2 byte3 → RequestRefused already_waiting
    -- as many wait as the port has places
    is12 : Writable → ¬ Waits p byte2 byte3 → count_waiting p.places ≡ place_count → RequestRefused places_full

  pub data RequestCase : RequestAt → Type 0 where
    request_refused : {number : ℕ} → RequestRefused number → RequestCase (refused_at number p lent)
    -- the frame is written, and the request waits in the lowest empty place
    accepted : Writable → ¬ Waits p byte2 byte3 → count_waiting p.places < place_count → RequestCase (record {
      answer = writing.wrote (length frame);
      port = with_waiting p (first_at is_empty p.places) (waiting_request byte2 byte3 ticks params);
      lent = writing.pasted frame offset lent;
    })

-- a cancel at its port
pub data CancelCase (p : Port) (byte2 byte3 : ℕ) : waiting.CancelResult → Type 0 where
  -- none waits with these bytes 2 and 3
  refused13 : ¬ Waits p byte2 byte3 → CancelCase p byte2 byte3 (record { answer = waiting.CancelAnswer.refused not_waiting; port = p })
  cancel_done : Waits p byte2 byte3 → CancelCase p byte2 byte3 (record { answer = waiting.done; port = ended_at p (waiting_at p byte2 byte3) })

-- any call on any station: 1 to 6, by the bytes alone, and empty lists; 5; or at the port
pub data StepCase (st : Station) : Call → Outcome → Type 0 where
  unread : {bytes : List ℕ} {number : ℕ} → read_rule bytes ≡ reading.refused number → StepCase st (take bytes) (take_step bytes (record { answer = refused number; station = st }))
  list_empty : {bytes : List ℕ} {r : Report} → read_rule bytes ≡ reading.empty_list r → StepCase st (take bytes) (take_step bytes (record { answer = notice empty_list; station = st }))
  hidpp_at_port : {bytes : List ℕ} {r : Report} {x : Result} → read_rule bytes ≡ reading.hidpp r → ((device number : ℕ) → ¬ Gives (port_for st r.device) r bytes device number) → HidppCase (port_for st r.device) (message_of r bytes) x → StepCase st (take bytes) (take_step bytes (stored_at st (position_of r.device) x))
  -- a reply that gives a device's serial: at its port, and at that device's
  serial_at_port : {bytes : List ℕ} {r : Report} {device number : ℕ} {x : SerialResult} → read_rule bytes ≡ reading.hidpp r → Gives (port_for st r.device) r bytes device number → SerialCase (port_for st device) number x → StepCase st (take bytes) (take_step bytes (record {
    answer = carried (reply x.dropped) (message_of r bytes);
    station = with_port (with_port st (position_of r.device) (replied_port (port_for st r.device) (message_of r bytes))) (position_of device) x.port;
  }))
  dj_at_port : {bytes : List ℕ} {r : Report} {x : Result} → read_rule bytes ≡ reading.dj r → DjCase (port_for st r.device) r bytes x → StepCase st (take bytes) (take_step bytes (stored_at st (position_of r.device) x))
  request5 : {device byte2 byte3 ticks : ℕ} {params : List ℕ} {offset : ℕ} {lent : List ℕ} → is_port device ≡ false → StepCase st (request device byte2 byte3 ticks params offset lent) (request_step params (record { answer = writing.refused no_such_port; station = st; lent = lent }))
  request_at_port : {device byte2 byte3 ticks : ℕ} {params : List ℕ} {offset : ℕ} {lent : List ℕ} {x : RequestAt} → is_port device ≡ true → RequestCase (port_for st device) device byte2 byte3 ticks params offset lent x → StepCase st (request device byte2 byte3 ticks params offset lent) (request_step params (requested_at st (position_of device) x))
  cancel5 : {device byte2 byte3 : ℕ} → is_port device ≡ false → StepCase st (cancel device byte2 byte3) (cancel_step (record { answer = waiting.CancelAnswer.refused no_such_port; station = st }))
  cancel_at_port : {device byte2 byte3 : ℕ} {x : waiting.CancelResult} → is_port device ≡ true → CancelCase (port_for st device) byte2 byte3 x → StepCase st (cancel device byte2 byte3) (cancel_step (cancelled_at st (position_of device) x))
  tick_all_ports : StepCase st tick (tick_step (tick_all st))
  write_only : {writer : Writer} {offset : ℕ} {lent : List ℕ} → StepCase st (write writer offset lent) (write_step st (writer_rule st writer offset lent))
  -- a store: the station of its ports, whatever it was before; a text of another edition; and one whose line of this number is the first that breaks the rules
  restore_store : (text : List ℕ) (ports : List Port) → Store text ports → StepCase st (restore text) (restore_step text (record { answer = restored; station = record { ports = ports } }))
  restore_other : (text : List ℕ) → OtherEdition text → StepCase st (restore text) (restore_step text (record { answer = restore_refused other_edition; station = st }))
  restore_broken : (text : List ℕ) (line : ℕ) → BrokenAt text line → StepCase st (restore text) (restore_step text (record { answer = restore_refused_at broken_line line; station = st }))

-- the port has all its places, whatever they hold
abbrev pub Placed : Port → Type 0
Placed p = length p.places ≡ place_count

-- so has each of the station's ports
abbrev pub AllPlaced : Station → Type 0
AllPlaced st = (position : ℕ) → position < port_count → Placed (port_at st position)

-- the rules give the outcome of one case, and of one alone
abbrev pub ByCases : Station → Call → Type 0
ByCases st c = (o : Outcome) → (step st c ≡ o) ↔ StepCase st c o

-- when the rule for a HID++ report gives each of its answers
pub record HidppAnswers (p : Port) (m : Message) : Type 0 where
  pub when_failed : ((take_hidpp p m).answer ≡ failed_by p m) ↔ IsFailed p m
  pub when_reply : ((take_hidpp p m).answer ≡ carried (reply 0) m) ↔ IsReply p m
  pub when_stray : ((take_hidpp p m).answer ≡ carried stray m) ↔ IsStray p m
  pub when_plain : ((take_hidpp p m).answer ≡ carried plain m) ↔ IsPlain p m
  pub when_event : ((take_hidpp p m).answer ≡ carried event m) ↔ IsEvent p m

-- when a request is refused, with each number
abbrev pub RequestAnswers : Port → ℕ → ℕ → ℕ → ℕ → List ℕ → ℕ → List ℕ → Type 0
RequestAnswers p device byte2 byte3 ticks params offset lent =
    (number : ℕ) → ((request_at p device byte2 byte3 ticks params offset lent).answer ≡ writing.refused number) ↔ RequestRefused p device byte2 byte3 ticks params offset lent number

-- when a cancel is refused with 13
abbrev pub CancelAnswers : Port → ℕ → ℕ → Type 0
CancelAnswers p byte2 byte3 =
    ((waiting.cancel_at p byte2 byte3).answer ≡ waiting.CancelAnswer.refused not_waiting) ↔ (¬ Waits p byte2 byte3)
