-- `store::write_store` meets its contract: the array has room for every store.
use native.Mathlib.Omega.{arith}
use Rattle.text.specs.Words.{digit, decimal, decimal_in}
use Rattle.store.specs.Stores.{edition_line, store_text, store_rule}
use Rattle.store.proofs.write_store.Goals as goal

pub returns : goal.returns
unfolding store_rule store_text edition_line decimal decimal_in digit
returns c = record {
  written = c.write_paired.ensures.written (omega arith);
}
