-- Demand 2, in its own words, with document 02, Asks 1 and 2: which request a report that is taken completes, and which requests a DJ report, or another serial, drops.
use Rattle.std.specs.Prelude.{ℕ, ◌≡◌, ◌↔◌, Bool, true, false, cond, not, ◌&&◌, ◌||◌, List, eqb, Some}
use Rattle.report.specs.Ports.{is_port}
use Rattle.report.specs.Sizes.{byte, hidpp_start, function, is_feature}
use Rattle.report.specs.Reading as reading
use Rattle.report.specs.Reading.{Read, report_from, read_rule}
use Rattle.port.specs.declared.Port.{Port}
use Rattle.port.specs.declared.Request.{Request}
use Rattle.port.specs.Records.{empty_place, request_in}
use Rattle.port.specs.Places.{is_empty, matches}
use Rattle.port.specs.Answers.{Answer, refused, reply, stray, plain, event, failed, radio, notice}
use Rattle.matching.specs.Messages.{message_of}
use Rattle.matching.specs.Matching.{answers}
use Rattle.matching.specs.Answering.{Answers}
use Rattle.hidpp.specs.HidppTaking.{carried, is_error}
use Rattle.serial.specs.Serials.{Given, no_serial, serial_of, given_by, is_another, SerialResult}
use Rattle.serial.specs.Giving.{Gives}
use Rattle.dj.specs.DjTaking.{wpid_of, is_paired_with}
use Rattle.station.specs.declared.Station.{Station}
use Rattle.station.specs.Stations.{port_for}
use Rattle.sequence.specs.Remaining.{taken_drops}
use Rattle.reach.specs.CallCases.{Waits, SerialCase}

-- the answer says that a request is completed by a reply, and by an error
abbrev pub is_reply : Answer → Bool
is_reply (refused number) = false
is_reply (reply dropped a) = true
is_reply (stray a) = false
is_reply (plain a) = false
is_reply (event a) = false
is_reply (failed a code kind) = false
is_reply (radio kind start size) = false
is_reply (notice n) = false

abbrev pub is_failure : Answer → Bool
is_failure (refused number) = false
is_failure (reply dropped a) = false
is_failure (stray a) = false
is_failure (plain a) = false
is_failure (event a) = false
is_failure (failed a code kind) = true
is_failure (radio kind start size) = false
is_failure (notice n) = false

-- a HID++ report that none of 1 to 6 refuses
abbrev pub is_hidpp_read : Read → Bool
is_hidpp_read (reading.refused number) = false
is_hidpp_read (reading.hidpp r) = true
is_hidpp_read (reading.dj r) = false
is_hidpp_read (reading.empty_list r) = false

-- an error of kind 0x8F fits every request, one of kind 0xFF those with byte 2 below 0x40; the two bytes that it names are its bytes 3 and 4
abbrev pub is_fitting : List ℕ → Bool
is_fitting bytes = eqb (byte bytes 2) 0x8F || is_feature (byte bytes 3)

-- the report is no error, and one waits on the device that byte 1 names that it answers: with the same bytes 2 and 3 and, of a ping, the same third parameter
abbrev pub Replies : Station → List ℕ → Type 0
Replies st bytes =
    (is_hidpp_read (read_rule bytes) ≡ true) × ((is_error (byte bytes 2) ≡ false) × ((place : ℕ) × Answers bytes (request_in (port_for st (byte bytes 1)).places place)))

-- a ping waits there with the same bytes 2 and 3, and its third parameter is not that of the report
pub record OtherPing (st : Station) (bytes : List ℕ) : Type 0 where
  pub read : is_hidpp_read (read_rule bytes) ≡ true
  pub byte2 : byte bytes 2 ≡ 0
  pub function1 : function (byte bytes 3) ≡ 1
  pub place : ℕ
  pub waits : matches (byte bytes 2) (byte bytes 3) (request_in (port_for st (byte bytes 1)).places place) ≡ true
  pub differs : ¬ (byte bytes 6 ≡ (request_in (port_for st (byte bytes 1)).places place).first.2)

-- the report is an error, one waits there with the two bytes that it names, and the kind fits it
abbrev pub Fails : Station → List ℕ → Type 0
Fails st bytes =
    (is_hidpp_read (read_rule bytes) ≡ true) × ((is_error (byte bytes 2) ≡ true) × ((is_fitting bytes ≡ true) × Waits (port_for st (byte bytes 1)) (byte bytes 3) (byte bytes 4)))

-- a DJ report that makes the port fresh: 0x40, and 0x41 with another WPID or for a device that is not paired
abbrev pub makes_fresh : Port → ℕ → List ℕ → Bool
makes_fresh p kind bytes = eqb kind 0x40 || (eqb kind 0x41 && not (is_paired_with p (wpid_of bytes)))

-- a HID++ report ends the request that it answers, on the device that byte 1 names
abbrev pub answers_request : List ℕ → ℕ → Request → Bool
answers_request bytes n r =
    eqb (byte bytes 1) n && cond (is_error (byte bytes 2)) (is_fitting bytes && matches (byte bytes 3) (byte bytes 4) r) (answers (message_of (report_from hidpp_start bytes) bytes) r)

-- a serial that differs from the one that is known of its device, which is paired
abbrev pub swaps : ℕ → Port → Given → Bool
swaps n p no_serial = false
swaps n p (serial_of device number) = eqb device n && (p.paired && is_another p.serial number)

-- whether a report that comes to the port w ends this request, which waits on the port p of the number n: a HID++ report the one that it answers, and all on a device that has another serial now; a DJ report none, or all of them
abbrev pub read_ends : Port → Read → List ℕ → ℕ → Port → Request → Bool
read_ends w (reading.refused number) bytes n p r = false
read_ends w (reading.hidpp x) bytes n p r =
    answers_request bytes n r || (swaps n p (given_by w x bytes) && not (is_empty r))
read_ends w (reading.dj x) bytes n p r =
    eqb (byte bytes 1) n && (makes_fresh p (byte bytes 2) bytes && not (is_empty r))
read_ends w (reading.empty_list x) bytes n p r = false

abbrev pub ends_in : Station → List ℕ → ℕ → ℕ → Bool
ends_in st bytes n place =
    read_ends (port_for st (byte bytes 1)) (read_rule bytes) bytes n (port_for st n) (request_in (port_for st n).places place)

-- a report gives another serial of the device n, which is paired and had one that differs
pub record Swaps (st : Station) (bytes : List ℕ) (n : ℕ) : Type 0 where
  pub known : ℕ
  pub number : ℕ
  pub given : Gives (port_for st 255) (report_from hidpp_start bytes) bytes n number
  pub paired : (port_for st n).paired ≡ true
  pub before : (port_for st n).serial ≡ Some known
  pub differs : ¬ (known ≡ number)

-- at its device's port a serial does what its case says, and the answer has the number of requests that it drops
pub record Told (p next : Port) (number : ℕ) (answer : Answer) : Type 0 where
  pub result : SerialResult
  pub so : SerialCase p number result
  pub port : next ≡ result.port
  pub drops : taken_drops answer ≡ result.dropped

-- of taking these bytes on this station: the answer, and the next station
pub record Completion (st : Station) (bytes : List ℕ) (answer : Answer) (next : Station) : Type 0 where
  -- a reply completes a request exactly then; an error, exactly then
  pub replies : (is_reply answer ≡ true) ↔ Replies st bytes
  pub fails : (is_failure answer ≡ true) ↔ Fails st bytes
  -- where a ping waits and that byte differs the report is stray, and changes nothing
  pub other_ping_law : OtherPing st bytes → (answer ≡ carried stray (message_of (report_from hidpp_start bytes) bytes)) × (next ≡ st)
  -- that one is ended, with those that are dropped, and no other place of any port changes
  pub ends : (n : ℕ) → is_port n ≡ true → (place : ℕ) → request_in (port_for next n).places place ≡ cond (ends_in st bytes n place) empty_place (request_in (port_for st n).places place)
  -- a HID++ report ends one at most on the port that it names
  pub one : is_hidpp_read (read_rule bytes) ≡ true → (i j : ℕ) → ends_in st bytes (byte bytes 1) i ≡ true → ends_in st bytes (byte bytes 1) j ≡ true → i ≡ j
  -- a serial that it gives is told to its device
  pub told : is_hidpp_read (read_rule bytes) ≡ true → (n number : ℕ) → Gives (port_for st 255) (report_from hidpp_start bytes) bytes n number → Told (port_for st n) (port_for next n) number answer
  -- an answer to a report that gives none drops none
  pub untold : ((n number : ℕ) → ¬ Gives (port_for st 255) (report_from hidpp_start bytes) bytes n number) → taken_drops answer ≡ 0
  -- on another port it ends all that wait where it gives another serial of that device, and none else
  pub beside : is_hidpp_read (read_rule bytes) ≡ true → (n : ℕ) → is_port n ≡ true → ¬ (byte bytes 1 ≡ n) → (i : ℕ) → (ends_in st bytes n i ≡ true) ↔ (Swaps st bytes n × (is_empty (request_in (port_for st n).places i) ≡ false))
