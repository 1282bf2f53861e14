-- Document 01, "Writing", "Taking a HID++ report" and "Taking a DJ report", and document 02, Asks 1 and 3: what a call that begins no new sequence makes of each place of a port, and what its answer says of the requests that ended. Each count is that of places emptied.
use Rattle.std.specs.Prelude.{ℕ, ◌+◌, ◌-◌, ◌<◌, ◌≡◌, Bool, true, false, cond, not, ◌&&◌, List, [], ◌∷◌, get_or, eqb}
use Rattle.report.specs.Sizes.{byte}
use Rattle.frame.specs.Writing as writing
use Rattle.port.specs.declared.Port.{Port}
use Rattle.port.specs.declared.Request.{Request}
use Rattle.port.specs.Records.{empty_place, request_in}
use Rattle.port.specs.Places.{is_empty, matches, sum_over, count_waiting}
use Rattle.port.specs.Ticks.{with_ticks}
use Rattle.port.specs.Waiting as waiting
use Rattle.port.specs.Answers.{Answer, refused, reply, stray, plain, event, failed, radio, notice, Notice, unpaired, paired, empty_list, link, other}
use Rattle.serial.specs.Serials.{parameter_for}
use Rattle.request.specs.Requesting.{waiting_request}
use Rattle.station.specs.Stations.{position_of}
use Rattle.sequence.specs.Steps.{Call, take, request, cancel, tick, write, restore, CallAnswer, taken, written, cancelled, ticked, restoring}
use Rattle.sequence.specs.Transcripts.{Entry}

-- the ways in which a waiting request ends
pub data Way : Type 0 where
  by_reply by_error by_expiry by_cancel by_drop : Way

abbrev pub way_number : Way → ℕ
way_number by_reply = 0
way_number by_error = 1
way_number by_expiry = 2
way_number by_cancel = 3
way_number by_drop = 4

abbrev pub is_way : Way → Way → Bool
is_way w v = eqb (way_number w) (way_number v)

-- what an answer says of requests that ended on a port
pub data Ending : Type 0 where
  nothing : Ending
  -- the one with these bytes 2 and 3 on this port, in this way
  one : (way : Way) (port byte2 byte3 : ℕ) → Ending
  -- all that waited on this port, by their number
  dropped : (port count : ℕ) → Ending
  -- those with one tick left: a count for each port
  expired : (counts : List ℕ) → Ending

abbrev pub notice_ending : Notice → Ending
notice_ending (unpaired port count) = dropped port count
notice_ending (paired port more wpid reports count) = dropped port count
notice_ending empty_list = nothing
notice_ending (link port up) = nothing
notice_ending (other port kind) = nothing

-- a reply ends one request on its own port; on the device whose parameter is the report's first one it drops as many as it says
abbrev pub take_ending : ℕ → List ℕ → Answer → Ending
take_ending n bytes (refused number) = nothing
take_ending n bytes (reply count a) =
    cond (eqb a.port n) (one by_reply a.port a.byte2 a.byte3)
    (cond (eqb (byte bytes 4) (parameter_for n)) (dropped n count) nothing)
take_ending n bytes (stray a) = nothing
take_ending n bytes (plain a) = nothing
take_ending n bytes (event a) = nothing
take_ending n bytes (failed a code kind) = one by_error a.port a.byte2 a.byte3
take_ending n bytes (radio kind start size) = nothing
take_ending n bytes (notice x) = notice_ending x

abbrev pub taken_ending : ℕ → Call → Answer → Ending
taken_ending n (take bytes) a = take_ending n bytes a
taken_ending n (request device byte2 byte3 ticks params offset lent) a = nothing
taken_ending n (cancel device byte2 byte3) a = nothing
taken_ending n tick a = nothing
taken_ending n (write writer offset lent) a = nothing
taken_ending n (restore text) a = nothing

-- a cancel answers only that it was done: which request it ended, the call says
abbrev pub cancel_ending : ℕ → ℕ → ℕ → waiting.CancelAnswer → Ending
cancel_ending device byte2 byte3 (waiting.CancelAnswer.refused number) = nothing
cancel_ending device byte2 byte3 waiting.done = one by_cancel device byte2 byte3

abbrev pub cancelled_ending : Call → waiting.CancelAnswer → Ending
cancelled_ending (take bytes) a = nothing
cancelled_ending (request device byte2 byte3 ticks params offset lent) a = nothing
cancelled_ending (cancel device byte2 byte3) a = cancel_ending device byte2 byte3 a
cancelled_ending tick a = nothing
cancelled_ending (write writer offset lent) a = nothing
cancelled_ending (restore text) a = nothing

-- what a call's answer says of the requests of the port of a number
abbrev pub ending_of : ℕ → Call → CallAnswer → Ending
ending_of n c (taken a) = taken_ending n c a
ending_of n c (written a) = nothing
ending_of n c (cancelled a) = cancelled_ending c a
ending_of n c (ticked counts) = expired counts
ending_of n c (restoring a) = nothing

-- whether it ends this request, which waits on the port of a number, in this way
abbrev pub ends_by : Way → ℕ → Ending → Request → Bool
ends_by w n nothing r = false
ends_by w n (one way port byte2 byte3) r = eqb port n && (is_way w way && matches byte2 byte3 r)
ends_by w n (dropped port count) r = eqb port n && (is_way w by_drop && (not (is_empty r) && not (eqb count 0)))
ends_by w n (expired counts) r = is_way w by_expiry && eqb r.ticks 1

abbrev pub one_if : Bool → ℕ
one_if b = cond b 1 0

-- how many it ends on that port in that way
abbrev pub ended_by : Way → ℕ → Ending → ℕ
ended_by w n nothing = 0
ended_by w n (one way port byte2 byte3) = one_if (eqb port n && is_way w way)
ended_by w n (dropped port count) = cond (eqb port n && is_way w by_drop) count 0
ended_by w n (expired counts) = cond (is_way w by_expiry) (get_or counts (position_of n) 0) 0

-- in any way
abbrev pub ended_in_all : ℕ → Ending → ℕ
ended_in_all n e =
    ended_by by_reply n e + (ended_by by_error n e + (ended_by by_expiry n e + (ended_by by_cancel n e + ended_by by_drop n e)))

-- how many requests it begins on that port: one whose frame is written waits
abbrev pub wrote : writing.WriteAnswer → Bool
wrote (writing.refused number) = false
wrote (writing.wrote n) = true

abbrev pub is_written : CallAnswer → Bool
is_written (taken a) = false
is_written (written a) = wrote a
is_written (cancelled a) = false
is_written (ticked counts) = false
is_written (restoring a) = false

abbrev pub begun_on : ℕ → Call → CallAnswer → ℕ
begun_on n (take bytes) a = 0
begun_on n (request device byte2 byte3 ticks params offset lent) a = one_if (eqb device n && is_written a)
begun_on n (cancel device byte2 byte3) a = 0
begun_on n tick a = 0
begun_on n (write writer offset lent) a = 0
begun_on n (restore text) a = 0

abbrev pub is_tick : Call → Bool
is_tick (take bytes) = false
is_tick (request device byte2 byte3 ticks params offset lent) = false
is_tick (cancel device byte2 byte3) = false
is_tick tick = true
is_tick (write writer offset lent) = false
is_tick (restore text) = false

-- what a call with its answer makes of one place of the port of a number: it stays, unless a request waits there and the call is a tick; is lowered by a tick, is filled by this very request, or is emptied in one of the ways
pub data Fate (n : ℕ) (c : Call) (a : CallAnswer) (before after : Request) : Type 0 where
  stays : ((w : Way) → ends_by w n (ending_of n c a) before ≡ false) → (is_tick c && not (is_empty before)) ≡ false → after ≡ before → Fate n c a before after
  lowered : c ≡ tick → 1 < before.ticks → after ≡ with_ticks before (before.ticks - 1) → Fate n c a before after
  filled : (byte2 byte3 ticks : ℕ) (params : List ℕ) (offset : ℕ) (lent : List ℕ) → c ≡ request n byte2 byte3 ticks params offset lent → is_written a ≡ true → is_empty before ≡ true → after ≡ waiting_request byte2 byte3 ticks params → Fate n c a before after
  emptied : (w : Way) → ends_by w n (ending_of n c a) before ≡ true → is_empty before ≡ false → after ≡ empty_place → Fate n c a before after

-- the requests that wait on a port
abbrev pub waiting_on : Port → ℕ
waiting_on p = count_waiting p.places

-- from the port p to the port q, by a call with its answer
pub record EndsAt (n : ℕ) (c : Call) (a : CallAnswer) (p q : Port) : Type 0 where
  -- each place
  pub fate : (place : ℕ) → Fate n c a (request_in p.places place) (request_in q.places place)
  -- for each way, as many places are emptied in it as the answer says
  pub counted : (w : Way) → sum_over (λ r. one_if (ends_by w n (ending_of n c a) r)) p.places ≡ ended_by w n (ending_of n c a)
  -- what waited or begins waits or ends
  pub balance : waiting_on q + ended_in_all n (ending_of n c a) ≡ waiting_on p + begun_on n c a

-- over a transcript, from the answers given: how many requests ended on the port of a number in each way, and how many began
unfoldable pub ended_in : Way → ℕ → List Entry → ℕ
ended_in w n [] = 0
ended_in w n (e ∷ es) = ended_by w n (ending_of n e.call e.result.answer) + ended_in w n es

unfoldable pub begun_in : ℕ → List Entry → ℕ
begun_in n [] = 0
begun_in n (e ∷ es) = begun_on n e.call e.result.answer + begun_in n es

-- requests accepted on a port equal those answered by reply, by error, expired, cancelled, dropped, plus those that wait
abbrev pub Accounted : ℕ → List Entry → Port → Type 0
Accounted n es p =
    begun_in n es ≡ ended_in by_reply n es + (ended_in by_error n es + (ended_in by_expiry n es + (ended_in by_cancel n es + (ended_in by_drop n es + waiting_on p))))
