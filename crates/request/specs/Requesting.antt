-- Document 01, "Number 9" and "Writing": a request at its port.
use Rattle.std.specs.Prelude.{ℕ, Bool, cond, not, ◌||◌, List, length, set}
use Rattle.report.specs.Refusals.{forbidden, no_room}
use Rattle.report.specs.Ports.{in_range}
use Rattle.report.specs.Sizes.{byte}
use Rattle.frame.specs.Forbidden.{is_forbidden_frame}
use Rattle.frame.specs.Writing as writing
use Rattle.port.specs.declared.Port.{Port}
use Rattle.port.specs.declared.Request.{Request}
use Rattle.port.specs.Records.{with_places}
use Rattle.port.specs.Waiting as waiting

-- the most ticks that a request may wait
abbrev pub max_ticks : ℕ
max_ticks = 255

-- Number 9: a forbidden frame, or ticks that are not 1 to 255
abbrev pub is_forbidden : ℕ → ℕ → ℕ → List ℕ → Bool
is_forbidden byte2 byte3 ticks params = is_forbidden_frame byte2 byte3 params || not (in_range 1 ticks max_ticks)

-- bytes 2 and 3, the first three parameters and the ticks left
unfoldable pub waiting_request : ℕ → ℕ → ℕ → List ℕ → Request
waiting_request byte2 byte3 ticks params =
    record {
      byte2 = record { 0 = byte2 };
      byte3 = byte3;
      first = record { 0 = byte params 0; 1 = byte params 1; 2 = byte params 2 };
      ticks = ticks;
    }

-- what a request gives at its port: its answer, the port after it, and the lent buffer after it
pub record RequestAt : Type 0 where
  pub answer : writing.WriteAnswer
  pub port : Port
  pub lent : List ℕ

-- a refusal leaves the port and the buffer as they were
abbrev pub refused_at : ℕ → Port → List ℕ → RequestAt
refused_at number p lent = record { answer = writing.refused number; port = p; lent = lent }

-- the port with this request in a place
abbrev pub with_waiting : Port → ℕ → Request → Port
with_waiting p place request = with_places p (set p.places place request)

-- 11, 12, or the frame is written and the request waits in the lowest empty place
unfoldable pub request_by : waiting.Room → Port → Request → List ℕ → ℕ → List ℕ → RequestAt
request_by (waiting.refused number) p request frame offset lent = refused_at number p lent
request_by (waiting.at place) p request frame offset lent =
    record {
      answer = writing.wrote (length frame);
      port = with_waiting p place request;
      lent = writing.pasted frame offset lent;
    }

-- 9, 10, 11, 12
unfoldable pub request_at : Port → ℕ → ℕ → ℕ → ℕ → List ℕ → ℕ → List ℕ → RequestAt
request_at p device byte2 byte3 ticks params offset lent =
    cond (is_forbidden byte2 byte3 ticks params) (refused_at forbidden p lent)
    (cond (not (writing.fits_at (length (writing.request_frame device byte2 byte3 params)) offset (length lent)))
    (refused_at no_room p lent)
    (request_by (waiting.room_for p.places byte2 byte3) p (waiting_request byte2 byte3 ticks params)
    (writing.request_frame device byte2 byte3 params) offset lent))
