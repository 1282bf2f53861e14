-- Laws of the table of radio payload lengths.
use Rattle.std.specs.Prelude.{ℕ, ◌≤◌, ◌≡◌}
use Rattle.std.proofs.Common.{ne_eqb, arith}
use Rattle.report.specs.Radio.{radio_types, table_length}

-- past the table every type has all that follows
pub past_table : (kind : ℕ) → radio_types ≤ kind → table_length kind ≡ 0
unfolding table_length
past_table kind h =
    simp (ne_eqb kind 1 (omega arith), ne_eqb kind 2 (omega arith), ne_eqb kind 3 (omega arith), ne_eqb kind 4 (omega arith), ne_eqb kind 8 (omega arith), ne_eqb kind 14 (omega arith))
