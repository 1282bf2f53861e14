-- Document 01, "Taking a HID++ report", point 2, with document 02, Ask 2: which waiting request a reply answers.
use Rattle.std.specs.Prelude.{ℕ, Bool, not, ◌&&◌, ◌||◌, eqb}
use Rattle.report.specs.Sizes.{function}
use Rattle.port.specs.declared.Port.{Port}
use Rattle.port.specs.declared.Request.{Request}
use Rattle.port.specs.Places.{matches, first_at}
use Rattle.port.specs.Waiting.{waiting_at, is_found}
use Rattle.matching.specs.declared.Message.{Message}

-- byte 2 = 0, function 1: the version is asked
abbrev pub is_ping : ℕ → ℕ → Bool
is_ping byte2 byte3 = eqb byte2 0 && eqb (function byte3) 1

-- the request waits with the report's bytes 2 and 3; of a ping the third parameter is the same too
abbrev pub answers : Message → Request → Bool
answers m r =
    matches m.byte2.0 m.byte3 r && (not (is_ping m.byte2.0 m.byte3) || eqb m.first.2 r.first.2)

-- the lowest place whose request the report answers; the number of places where it answers none
abbrev pub answered_at : Port → Message → ℕ
answered_at p m = first_at (answers m) p.places

-- a ping with the report's bytes 2 and 3 waits
abbrev pub ping_waits : Port → Message → Bool
ping_waits p m = is_ping m.byte2.0 m.byte3 && is_found (waiting_at p m.byte2.0 m.byte3)
