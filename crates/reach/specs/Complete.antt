-- Document 01, with document 02, Asks 1 to 5, gathered, of the rules: what holds on every station that calls reach; that the cases of a call are complete and exclude each other; when each refusal is given; what a search gives, and to which place a call comes by it; what a call ends and changes; and that a refused call changes nothing.
use Rattle.std.specs.Prelude.{ℕ, ◌≤◌, ◌≡◌, Bool, true, false, List, Option}
use Rattle.report.specs.Ports.{is_port}
use Rattle.report.specs.Reading as reading
use Rattle.report.specs.Reading.{Report, read_rule}
use Rattle.port.specs.declared.Port.{Port}
use Rattle.port.specs.declared.Request.{Request}
use Rattle.port.specs.Searching.{SearchesExactly, FindsExactly}
use Rattle.matching.specs.declared.Message.{Message}
use Rattle.hidpp.specs.HidppTaking.{is_error}
use Rattle.station.specs.declared.Station.{Station}
use Rattle.station.specs.Stations.{port_for}
use Rattle.station.specs.StationTaking.{take_rule}
use Rattle.sequence.specs.Starts.{Start}
use Rattle.sequence.specs.Steps.{Call, begins, step, run}
use Rattle.sequence.specs.Sequences.{Unread}
use Rattle.sequence.specs.Transcripts.{transcript}
use Rattle.sequence.specs.Sentence.{ByAnswer}
use Rattle.sequence.specs.Refused.{is_refusal, Unchanged}
use Rattle.reach.specs.Sound.{Reached}
use Rattle.reach.specs.CallCases.{Placed, AllPlaced, ByCases, HidppAnswers, RequestAnswers, CancelAnswers}
use Rattle.reach.specs.RefusalTable.{ByTheTable}
use Rattle.reach.specs.LowestPlaces.{LowestPlaces}
use Rattle.reach.specs.Ends.{EndsAt, Accounted}
use Rattle.reach.specs.Fields.{ChangesListed}
use Rattle.reach.specs.Completion.{Completion}

pub record Complete : Type 0 where
  -- every station that calls reach: waiting requests differ in bytes 2 and 3, and their byte 2 is 0x00 to 0x3F or 0x80 to 0x83; port 255 is not paired, no serial is known of what is not paired, indexes are at most 63, at most 255 ticks are left, an empty place is as fresh, and no port, place or index is missing
  pub reached : (st : Station) → Start st → (cs : List Call) → Reached (run st cs)
  -- any call on any station whose ports have their places: one outcome, of one case; a refusal with each number exactly when its row of the table holds
  pub cases : (st : Station) → AllPlaced st → (c : Call) → ByCases st c
  pub refusals : (st : Station) → AllPlaced st → (c : Call) → ByTheTable st c (step st c).answer
  -- exactly when each answer is given to a HID++ report, a request is refused with each number (11 and 12 by the requests that wait), and a cancel with 13
  pub hidpp : (p : Port) → Placed p → (m : Message) → HidppAnswers p m
  pub request : (p : Port) → Placed p → (device byte2 byte3 ticks : ℕ) (params : List ℕ) (offset : ℕ) (lent : List ℕ) → RequestAnswers p device byte2 byte3 ticks params offset lent
  pub cancel : (p : Port) → Placed p → (byte2 byte3 : ℕ) → CancelAnswers p byte2 byte3
  -- on any places, two equal ones too: a search gives the lowest that matches, or none exactly when none does; and each of these comes to that place
  pub searches : (test : Request → Bool) (places : List Request) (found : ℕ) → SearchesExactly test places found
  -- the same of what the program's searches find, which is a place or nothing
  pub finds : (test : Request → Bool) (places : List Request) (found : Option ℕ) → FindsExactly test places found
  pub lowest : (p : Port) → Placed p → LowestPlaces p
  -- what is read: point 3's byte 2 of 0x80 or above is 0x80 to 0x83
  pub register : (bytes : List ℕ) (r : Report) → read_rule bytes ≡ reading.hidpp r → is_error r.byte2 ≡ false → r.byte2 ≤ 0xFF → 0x80 ≤ r.byte2 → r.byte2 ≤ 0x83
  -- a refused call changes nothing, and which port a call is for is what document 01 says of its answer: on any station
  pub refused : (st : Station) (c : Call) → is_refusal (step st c).answer ≡ true → Unchanged st c (step st c)
  pub named : (st : Station) (c : Call) → ByAnswer st c
  -- on every station that calls reach, of every call that begins no new sequence and each port: what becomes of each place, as the answer counts it; which fields change; and which request a report completes
  pub ends : (st : Station) → Reached st → (c : Call) → begins c ≡ false → (n : ℕ) → is_port n ≡ true → EndsAt n c (step st c).answer (port_for st n) (port_for (step st c).station n)
  pub changes : (st : Station) → Reached st → (c : Call) → begins c ≡ false → (n : ℕ) → is_port n ≡ true → ChangesListed n c (step st c).answer (port_for st 255) (port_for st n) (port_for (step st c).station n)
  pub completes : (st : Station) → Reached st → (bytes : List ℕ) → Completion st bytes (take_rule st bytes).answer (take_rule st bytes).station
  -- over all of a run, from its start up to the next accepted read: what was accepted on a port has ended in one of the ways, or waits
  pub accounted : (n : ℕ) → is_port n ≡ true → (st : Station) → Start st → (cs : List Call) → Unread cs → Accounted n (transcript st cs) (port_for (run st cs) n)
