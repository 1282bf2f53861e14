-- Document 01, "What the console part does" and "Sequences of calls", and document 02, Ask 3 (store and restore): the table of calls, one step of the rules, and their run.
use Rattle.std.specs.Prelude.{ℕ, Bool, true, false, cond, List, [], ◌∷◌}
use Rattle.report.specs.Ports.{receiver, is_device, is_port}
use Rattle.report.specs.Reading.{read_rule}
use Rattle.frame.specs.Writing as writing
use Rattle.port.specs.Answers as answers
use Rattle.port.specs.Waiting as waiting
use Rattle.station.specs.declared.Station.{Station}
use Rattle.station.specs.StationTaking.{TakeOutcome, take_rule}
use Rattle.station.specs.StationCalls.{RequestOutcome, request_rule, CancelOutcome, cancel_rule, TickOutcome, tick_all, RestoreOutcome, restore_rule}
use Rattle.listing.specs.Listing.{listing_rule}
use Rattle.store.specs.Stores.{store_rule}
use Rattle.restore.specs.Restoring.{RestoreAnswer, StoreRead, store_of, of_other, broken_at, read_store}
use Rattle.sequence.specs.Targets.{Target, none, one, all, read_target}

-- the calls that write a frame, the listing or the store and touch no record, each with its own arguments
pub data Writer : Type 0 where
  switch : (bits timeout : ℕ) → Writer
  get_paired : Writer
  led : (device leds : ℕ) → Writer
  list : Writer
  store : Writer

-- a call with all its arguments and lent bytes
pub data Call : Type 0 where
  take : (bytes : List ℕ) → Call
  request : (device byte2 byte3 ticks : ℕ) (params : List ℕ) (offset : ℕ) (lent : List ℕ) → Call
  cancel : (device byte2 byte3 : ℕ) → Call
  tick : Call
  write : (writer : Writer) (offset : ℕ) (lent : List ℕ) → Call
  restore : (text : List ℕ) → Call

-- the answer or refusal number of a call
pub data CallAnswer : Type 0 where
  taken : answers.Answer → CallAnswer
  written : writing.WriteAnswer → CallAnswer
  cancelled : waiting.CancelAnswer → CallAnswer
  ticked : (counts : List ℕ) → CallAnswer
  restoring : RestoreAnswer → CallAnswer

-- what a step gives: the answer, every lent byte afterwards (those lent to be read, and the buffer lent to be written), and the next station
pub record Outcome : Type 0 where
  pub answer : CallAnswer
  pub read : List ℕ
  pub lent : List ℕ
  pub station : Station

abbrev pub take_step : List ℕ → TakeOutcome → Outcome
take_step bytes o = record { answer = taken o.answer; read = bytes; lent = []; station = o.station }

abbrev pub request_step : List ℕ → RequestOutcome → Outcome
request_step params o =
    record { answer = written o.answer; read = params; lent = o.lent; station = o.station }

abbrev pub cancel_step : CancelOutcome → Outcome
cancel_step o = record { answer = cancelled o.answer; read = []; lent = []; station = o.station }

abbrev pub tick_step : TickOutcome → Outcome
tick_step o = record { answer = ticked o.ended; read = []; lent = []; station = o.station }

abbrev pub write_step : Station → writing.WriteOutcome → Outcome
write_step st o = record { answer = written o.answer; read = []; lent = o.lent; station = st }

abbrev pub restore_step : List ℕ → RestoreOutcome → Outcome
restore_step text o = record { answer = restoring o.answer; read = text; lent = []; station = o.station }

-- a writer: which port it is for, and what it writes. Switch and get-paired are for 255; the listing and the store alone look at the station, and are for none
pub record WriterRow : Type 0 where
  pub target : Target
  pub rule : Station → (offset : ℕ) → (lent : List ℕ) → writing.WriteOutcome

abbrev pub writer_row : Writer → WriterRow
writer_row (switch bits timeout) =
    record { target = one receiver; rule = λ st offset lent. writing.switch_rule bits timeout offset lent }
writer_row get_paired = record { target = one receiver; rule = λ st offset lent. writing.get_paired_rule offset lent }
writer_row (led device leds) =
    record { target = cond (is_device device) (one device) none; rule = λ st offset lent. writing.led_rule device leds offset lent }
writer_row list = record { target = none; rule = λ st offset lent. listing_rule st.ports offset lent }
writer_row store = record { target = none; rule = λ st offset lent. store_rule st.ports offset lent }

abbrev pub writer_rule : Station → Writer → ℕ → List ℕ → writing.WriteOutcome
writer_rule st writer offset lent = (writer_row writer).rule st offset lent

-- a call: the bytes that it lends to be read, the buffer that it lends to be written, which port it is for, and its outcome. The call alone decides which port; those refused with 5 are for none
pub record CallRow : Type 0 where
  pub read : List ℕ
  pub lent : List ℕ
  pub target : Target
  pub outcome : Station → Outcome

-- the table of calls
abbrev pub call_row : Call → CallRow
call_row (take bytes) =
    record { read = bytes; lent = []; target = read_target (read_rule bytes); outcome = λ st. take_step bytes (take_rule st bytes) }
call_row (request device byte2 byte3 ticks params offset lent) =
    record { read = params; lent = lent; target = cond (is_port device) (one device) none; outcome = λ st. request_step params (request_rule st device byte2 byte3 ticks params offset lent) }
call_row (cancel device byte2 byte3) =
    record { read = []; lent = []; target = cond (is_port device) (one device) none; outcome = λ st. cancel_step (cancel_rule st device byte2 byte3) }
call_row tick = record { read = []; lent = []; target = all; outcome = λ st. tick_step (tick_all st) }
call_row (write writer offset lent) =
    record { read = []; lent = lent; target = (writer_row writer).target; outcome = λ st. write_step st (writer_rule st writer offset lent) }
call_row (restore text) =
    record { read = text; lent = []; target = none; outcome = λ st. restore_step text (restore_rule st text) }

abbrev pub read_of : Call → List ℕ
read_of c = (call_row c).read

abbrev pub lent_of : Call → List ℕ
lent_of c = (call_row c).lent

unfoldable pub target : Call → Target
target c = (call_row c).target

-- the label of a call in a run: which port it is for. It may go by the station that the call is made on; today the call alone decides
abbrev pub label_of : Station → Call → Target
label_of st c = target c

unfoldable pub step : Station → Call → Outcome
step st c = (call_row c).outcome st

-- whether a text is a store
abbrev pub is_store : StoreRead → Bool
is_store (store_of ports) = true
is_store of_other = false
is_store (broken_at line) = false

-- a read that is accepted begins a new sequence, on the station that it restores. The text alone decides
unfoldable pub begins : Call → Bool
begins (take bytes) = false
begins (request device byte2 byte3 ticks params offset lent) = false
begins (cancel device byte2 byte3) = false
begins tick = false
begins (write writer offset lent) = false
begins (restore text) = is_store (read_store text)

-- one step after another: the final station
unfoldable pub run : Station → List Call → Station
run st [] = st
run st (c ∷ cs) = run (step st c).station cs

-- what a call returns to its caller: the answer, and every lent byte afterwards
pub record Returned : Type 0 where
  pub answer : CallAnswer
  pub read : List ℕ
  pub lent : List ℕ

abbrev pub returned : Outcome → Returned
returned o = record { answer = o.answer; read = o.read; lent = o.lent }

-- what each call of the run returns
unfoldable pub returned_by : Station → List Call → List Returned
returned_by st [] = []
returned_by st (c ∷ cs) = returned (step st c) ∷ returned_by (step st c).station cs
