-- `hidpp::is_held` meets its contract.
use Rattle.std.proofs.Common.{arith, sym, eq-eqb, ne_eqb}
use Rattle.hidpp.proofs.FoundLaws.{slot_some, slot_none, some_held, none_held}
use Rattle.hidpp.proofs.is_held.Goals as goal

pub returns-in_default : goal.returns-in_default
returns-in_default c =
    none_held c.args.port c.args.feature c.args.index.0 (omega (arith, slot_none c.args.feature c.in_default.ensures))

pub returns-then-held-ne0 : goal.returns-then-held-ne0
returns-then-held-ne0 c =
    let held = some_held c.args.port c.args.feature c.args.index.0 ((slot_some c.args.feature c.in-Some.ensures).0) c.feature_at-held.ensures.found in
    simp (sym held, ne_eqb _ _ c.if-held-ne0.true) c.eq.ensures

pub returns-else-held-ne0 : goal.returns-else-held-ne0
returns-else-held-ne0 c =
    let held = some_held c.args.port c.args.feature c.args.index.0 ((slot_some c.args.feature c.in-Some.ensures).0) c.feature_at-held.ensures.found in
    simp (sym held, eq-eqb _ _ c.if-held-ne0.false)
