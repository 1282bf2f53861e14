-- `text::Out::small` meets its contract.
use native.Mathlib.Omega.{arith}
use Rattle.text.proofs.PutDigitsLaws.{in_digits}
use Rattle.text.proofs.Out.small.Goals as goal

pub returns : goal.returns
returns c = record {
  put = record { puts = in_digits 2 _ (omega arith) c.decimal.ensures.put.puts; same = c.decimal.ensures.put.same };
}
