-- `report::read` meets its contract: each way out has the tests that led there.
use Rattle.std.proofs.Common.{sym, ◌∙◌, eq-eqb, ne_eqb}
use Rattle.report.specs.Reading.{read_rule}
use Rattle.report.proofs.SizesLaws.{found_sized, none_unsized}
use Rattle.report.proofs.read.Goals as goal

pub returns-in_default : goal.returns-in_default
unfolding read_rule
returns-in_default c = record {
  reading = simp (sym c.is_empty.ensures ∙ c.if-is_empty.false, none_unsized _ c.in_default.ensures.length);
}

pub returns-then-bytes-from : goal.returns-then-bytes-from
unfolding read_rule
returns-then-bytes-from c =
    let known = found_sized _ _ c.in-Some.ensures.length in
    record { reading = simp (sym c.is_empty.ensures ∙ c.if-is_empty.false, known.0, ne_eqb _ _ (λ z. c.if-bytes-from.true (z ∙ sym (c.from.ensures ∙ known.1.0)))) }

pub read_sized-requires-clause-long : goal.read_sized-requires-clause-long
read_sized-requires-clause-long c = (found_sized _ _ c.in-Some.ensures.length).1.1

pub returns : goal.returns
unfolding read_rule
returns c =
    let known = found_sized _ _ c.in-Some.ensures.length in
    record { reading = simp (sym c.is_empty.ensures ∙ c.if-is_empty.false, known.0, eq-eqb _ _ (c.if-bytes-from.false ∙ (c.from.ensures ∙ known.1.0))) c.read_sized.ensures }
