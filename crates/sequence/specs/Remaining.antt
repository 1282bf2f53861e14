-- Document 01, "Sequences of calls", and document 02, Asks 1 and 3: striking out, and what is compared.
use Rattle.std.specs.Prelude.{ℕ, Bool, cond, ◌||◌, List, [], ◌∷◌, map, get_or, eqb}
use Rattle.report.specs.Ports.{receiver}
use Rattle.report.specs.Sizes.{byte}
use Rattle.port.specs.Answers as answers
use Rattle.port.specs.declared.Port.{Port}
use Rattle.station.specs.declared.Station.{Station}
use Rattle.station.specs.Stations.{position_of, port_for}
use Rattle.station.specs.StationTaking.{with_drops}
use Rattle.serial.specs.Serials.{parameter_for}
use Rattle.sequence.specs.Steps.{CallAnswer, taken, written, cancelled, ticked, restoring, Returned, begins}
use Rattle.sequence.specs.Targets.{Target, none, one, all, is_for}
use Rattle.sequence.specs.Transcripts.{Entry}

-- what is compared of a station for the port of a number: what is held for it
abbrev pub View : Type 0
View = Port

abbrev pub view : ℕ → Station → View
view n st = port_for st n

-- whether a call is left for the port of a number: where it stays for it, or begins a new sequence
abbrev pub is_left : ℕ → Entry → Bool
is_left n e = begins e.call || is_for n e.label

-- strike out every call for another device or for none; keep the ticks, and the calls for 255. A sequence ends where an accepted read begins the next one, so that read is kept as well
unfoldable pub remaining : ℕ → List Entry → List Entry
remaining n [] = []
remaining n (e ∷ es) = cond (is_left n e) (e ∷ remaining n es) (remaining n es)

-- a port's count in the answer to a tick
abbrev pub count_for : ℕ → CallAnswer → ℕ
count_for n (taken a) = 0
count_for n (written a) = 0
count_for n (cancelled a) = 0
count_for n (ticked counts) = get_or counts (position_of n) 0
count_for n (restoring a) = 0

-- the drop count of a reply
abbrev pub taken_drops : answers.Answer → ℕ
taken_drops (answers.refused number) = 0
taken_drops (answers.reply dropped a) = dropped
taken_drops (answers.stray a) = 0
taken_drops (answers.plain a) = 0
taken_drops (answers.event a) = 0
taken_drops (answers.failed a code kind) = 0
taken_drops (answers.radio kind start size) = 0
taken_drops (answers.notice n) = 0

abbrev pub drops_in : CallAnswer → ℕ
drops_in (taken a) = taken_drops a
drops_in (written a) = 0
drops_in (cancelled a) = 0
drops_in (ticked counts) = 0
drops_in (restoring a) = 0

-- a device's drop count: the one whose number the report's own first parameter gives has it, every other device has 0
abbrev pub drops_for : ℕ → Returned → ℕ
drops_for n r = cond (eqb (byte r.read 4) (parameter_for n)) (drops_in r.answer) 0

-- an answer with this drop count, where it is a reply
abbrev pub with_drops_in : ℕ → CallAnswer → CallAnswer
with_drops_in dropped (taken a) = taken (with_drops dropped a)
with_drops_in dropped (written a) = written a
with_drops_in dropped (cancelled a) = cancelled a
with_drops_in dropped (ticked counts) = ticked counts
with_drops_in dropped (restoring a) = restoring a

-- what is compared of a call: of a port's own, its answer and every lent byte; of a call for all, which is a tick, that port's count; of a call for 255 where a device is compared, that device's drop count and every lent byte; of a call for none, which is left where it begins a new sequence, its answer and every lent byte
pub data Compared : Type 0 where
  whole : Returned → Compared
  count : ℕ → Compared
  drops : (dropped : ℕ) (read lent : List ℕ) → Compared

-- of 255's own calls the drop count is left out
abbrev pub own_returned : ℕ → Returned → Returned
own_returned n r =
    cond (eqb n receiver) (record { answer = with_drops_in 0 r.answer; read = r.read; lent = r.lent }) r

abbrev pub compared_of : ℕ → Target → Returned → Compared
compared_of n none r = whole r
compared_of n (one number) r =
    cond (eqb number n) (whole (own_returned n r)) (drops (drops_for n r) r.read r.lent)
compared_of n all r = count (count_for n r.answer)

abbrev pub compared : ℕ → List Entry → List Compared
compared n es = map (λ (e : Entry). compared_of n e.label e.result) es
