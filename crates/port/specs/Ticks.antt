-- Document 01, "Writing": a tick, on the places of one port.
use Rattle.std.specs.Prelude.{ℕ, ◌-◌, List, map, cond, eqb}
use Rattle.port.specs.declared.Request.{Request}
use Rattle.port.specs.Records.{empty_place}
use Rattle.port.specs.Places.{is_empty, sum_over}

abbrev pub with_ticks : Request → ℕ → Request
with_ticks r ticks = record { byte2 = r.byte2; byte3 = r.byte3; first = r.first; ticks = ticks }

-- an empty place stays as it is; a request with a count of 1 ends; any other count is lowered by one
unfoldable pub after_tick : Request → Request
after_tick r = cond (is_empty r) r (cond (eqb r.ticks 1) empty_place (with_ticks r (r.ticks - 1)))

abbrev pub one_if_ending : Request → ℕ
one_if_ending r = cond (eqb r.ticks 1) 1 0

-- the places after one tick, and the number of requests that it ended
pub record Ticked : Type 0 where
  pub places : List Request
  pub ended : ℕ

unfoldable pub tick_rule : List Request → Ticked
tick_rule places = record { places = map after_tick places; ended = sum_over one_if_ending places }
