-- The benchmark's calls on one station, one after the other.
use Rattle.std.specs.Prelude.{ℕ, zero, suc, ◌+◌, ◌*◌, ◌/◌, ◌%◌, ◌^◌, cond, List, length, take, drop, ◌==◌}
use Rattle.report.specs.Sizes.{byte}
use Rattle.frame.specs.Writing as writing
use Rattle.listing.specs.Listing.{listing_rule}
use Rattle.store.specs.Stores.{store_rule}
use Rattle.station.specs.declared.Station.{Station}
use Rattle.station.specs.Stations.{fresh_station}
use Rattle.station.specs.StationTaking.{TakeOutcome, take_rule}
use Rattle.station.specs.StationCalls.{RequestOutcome, request_rule, CancelOutcome, cancel_rule, TickOutcome, tick_all, RestoreOutcome, restore_rule}
use Rattle.measure.specs.Weights.{take_weight, write_weight, cancel_weight, tick_weight, restore_weight}

-- the head of a call: its kind, the number of lent bytes, device, byte 2, byte 3, ticks, and two that count for nothing
abbrev pub call_head_size : ℕ
call_head_size = 8

-- then the lent bytes, fewer than this
abbrev pub room_size : ℕ
room_size = 64

abbrev pub call_size : ℕ
call_size = 72

-- a byte of the call that begins at an offset
abbrev pub call_byte : List ℕ → ℕ → ℕ → ℕ
call_byte calls at k = byte calls (at + k)

abbrev pub lent_at : List ℕ → ℕ → List ℕ
lent_at calls at = take (call_byte calls at 1 % room_size) (drop (at + call_head_size) calls)

-- where the calls have come to: the answers' sum, the station, and the buffer
pub record Course : Type 0 where
  pub sum : ℕ
  pub station : Station
  pub lent : List ℕ

abbrev pub added : ℕ → ℕ → ℕ
added sum weight = (sum + weight) % 2 ^ 64

abbrev pub measured_take : Course → TakeOutcome → Course
measured_take c o = record { sum = added c.sum (take_weight o.answer); station = o.station; lent = c.lent }

abbrev pub measured_request : Course → RequestOutcome → Course
measured_request c o = record { sum = added c.sum (write_weight o.answer); station = o.station; lent = o.lent }

abbrev pub measured_cancel : Course → CancelOutcome → Course
measured_cancel c o = record { sum = added c.sum (cancel_weight o.answer); station = o.station; lent = c.lent }

abbrev pub measured_tick : Course → TickOutcome → Course
measured_tick c o = record { sum = added c.sum (tick_weight o.ended); station = o.station; lent = c.lent }

-- a listing, or a store
abbrev pub measured_text : Course → writing.WriteOutcome → Course
measured_text c o = record { sum = added c.sum (write_weight o.answer); station = c.station; lent = o.lent }

abbrev pub measured_restore : Course → RestoreOutcome → Course
measured_restore c o = record { sum = added c.sum (restore_weight o.answer); station = o.station; lent = c.lent }

-- 0 take, 1 request, 2 cancel, 3 tick, 5 store, 6 restore, any other the listing; requests, stores and listings are written at offset 0, and a restore reads the whole text
unfoldable pub measured_call : Course → List ℕ → List ℕ → ℕ → Course
measured_call c calls text at =
    cond (byte calls at == 0) (measured_take c (take_rule c.station (lent_at calls at)))
    (cond (byte calls at == 1)
    (measured_request c (request_rule c.station (call_byte calls at 2) (call_byte calls at 3) (call_byte calls at 4) (call_byte calls at 5) (lent_at calls at) 0 c.lent))
    (cond (byte calls at == 2)
    (measured_cancel c (cancel_rule c.station (call_byte calls at 2) (call_byte calls at 3) (call_byte calls at 4)))
    (cond (byte calls at == 3) (measured_tick c (tick_all c.station))
    (cond (byte calls at == 5) (measured_text c (store_rule c.station.ports 0 c.lent))
    (cond (byte calls at == 6) (measured_restore c (restore_rule c.station text))
    (measured_text c (listing_rule c.station.ports 0 c.lent)))))))

-- after this number of calls
unfoldable pub after : List ℕ → List ℕ → List ℕ → ℕ → Course
after calls text lent zero = record { sum = 0; station = fresh_station; lent = lent }
after calls text lent (suc i) = measured_call (after calls text lent i) calls text (call_size * i)

-- what is measured: the sum and the buffer
pub record Measured : Type 0 where
  pub sum : ℕ
  pub lent : List ℕ

abbrev pub measured_in : Course → Measured
measured_in c = record { sum = c.sum; lent = c.lent }

-- every whole call
abbrev pub measured : List ℕ → List ℕ → List ℕ → Measured
measured calls text lent = measured_in (after calls text lent (length calls / call_size))

-- the program's result, in these terms
abbrev pub measured_by : ℕ → List ℕ → Measured
measured_by sum lent = record { sum = sum; lent = lent }
