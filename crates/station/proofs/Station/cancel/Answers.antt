-- `station::Station::cancel` meets its contract.
use mathlib.Core.Path.{sym, ◌∙◌}
use Rattle.station.specs.StationCalls.{cancel_rule}
use Rattle.station.proofs.StationCallsLaws.{cancelled_at_law}
use Rattle.station.proofs.Station.cancel.Goals as goal

pub returns-then-not-is_port : goal.returns-then-not-is_port
unfolding cancel_rule
returns-then-not-is_port c = record {
  outcome = simp (sym c.is_port.ensures.named ∙ c.if-not-is_port.true);
}

pub returns : goal.returns
returns c = record {
  outcome = cancelled_at_law _ _ _ _ c.cancel-cancelled.result (sym c.is_port.ensures.named ∙ c.if-not-is_port.false) c.position_of-position.ensures.position c.cancel-cancelled.ensures.cancelled;
}
