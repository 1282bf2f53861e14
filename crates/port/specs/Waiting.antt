-- Document 01, "Writing" and "Taking a HID++ report": the waiting requests of one port.
use Rattle.std.specs.Prelude.{ℕ, Bool, cond, List, set, leb, ltb}
use Rattle.report.specs.Refusals.{already_waiting, places_full, not_waiting}
use Rattle.port.specs.declared.Port.{Port}
use Rattle.port.specs.declared.Request.{Request}
use Rattle.port.specs.Records.{place_count, empty_place, with_places}
use Rattle.port.specs.Places.{matches, first_at, is_empty, count_waiting}

-- the place where a request with these bytes 2 and 3 waits; place_count where none does
abbrev pub waiting_at : Port → ℕ → ℕ → ℕ
waiting_at p byte2 byte3 = first_at (matches byte2 byte3) p.places

abbrev pub is_found : ℕ → Bool
is_found place = ltb place place_count

-- the request of a place ends: the place is emptied
unfoldable pub ended_at : Port → ℕ → Port
ended_at p place = with_places p (set p.places place empty_place)

-- as many requests wait as the port has places
abbrev pub is_full : List Request → Bool
is_full places = leb place_count (count_waiting places)

-- where a request may wait, or a refusal
pub data Room : Type 0 where
  refused : ℕ → Room
  at : ℕ → Room

-- 11, 12, or the lowest empty place
unfoldable pub room_for : List Request → ℕ → ℕ → Room
room_for places byte2 byte3 =
    cond (is_found (first_at (matches byte2 byte3) places)) (refused already_waiting)
    (cond (is_full places) (refused places_full) (at (first_at is_empty places)))

-- what cancel answers
pub data CancelAnswer : Type 0 where
  refused : ℕ → CancelAnswer
  done : CancelAnswer

pub record CancelResult : Type 0 where
  pub answer : CancelAnswer
  pub port : Port

-- 13, or that request's place is emptied
unfoldable pub cancel_at : Port → ℕ → ℕ → CancelResult
cancel_at p byte2 byte3 =
    cond (is_found (waiting_at p byte2 byte3))
    (record { answer = done; port = ended_at p (waiting_at p byte2 byte3) })
    (record { answer = CancelAnswer.refused not_waiting; port = p })
