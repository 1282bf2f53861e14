-- `matching::has_ping` meets its contract.
use Rattle.std.proofs.Common.{sym, ◌∙◌, arith}
use Rattle.port.specs.Places.{matches}
use Rattle.port.proofs.WaitingLaws.{some_found}
use Rattle.matching.proofs.has_ping.Goals as goal

pub returns-then-is_ping : goal.returns-then-is_ping
returns-then-is_ping c = record {
  waits = simp (sym c.is_ping.ensures.ping ∙ c.if-is_ping.true) (c.is_some.ensures ∙ some_found (matches c.args.m.byte2.0 c.args.m.byte3) c.args.port.places (omega arith) c.first_match.ensures.lowest);
}
