-- `report::radio::payload_length` meets its contract: the table lists the rule's values, and past its end the rule has 0.
use Rattle.std.proofs.Common.{◌∙◌, ap, sym, eq-eqb, ne_eqb}
use Rattle.report.specs.Radio.{radio_types, table_length, payload_length}
use Rattle.report.proofs.RadioLaws.{past_table}
use Rattle.report.proofs.TableLaws.{listed_or}
use Rattle.report.proofs.radio.payload_length.Goals as goal

pub returns-then-length-eq0 : goal.returns-then-length-eq0
unfolding payload_length table_length
returns-then-length-eq0 c = record {
  length = let e = ap table_length (sym c.from.ensures) ∙ sym (listed_or table_length radio_types c.from.result (past_table c.from.result)) in
      simp (eq-eqb _ _ (e ∙ sym c.byte_at-length.ensures.byte ∙ c.if-length-eq0.true));
}

pub returns-else-length-eq0 : goal.returns-else-length-eq0
unfolding payload_length table_length
returns-else-length-eq0 c = record {
  length = let e = c.byte_at-length.ensures.byte ∙ listed_or table_length radio_types c.from.result (past_table c.from.result) ∙ ap table_length c.from.ensures in
      simp (ne_eqb _ _ (λ z. c.if-length-eq0.false (e ∙ z))) e;
}
