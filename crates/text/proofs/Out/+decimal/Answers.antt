-- `text::Out::decimal` meets its contract, by the number: the digits before the last, then the last.
use mathlib.Core.Path.{◌∙◌}
use native.Mathlib.Omega.{arith}
use Rattle.text.proofs.PutDigitsLaws.{decimal_last_put, decimal_put}
use Rattle.text.proofs.Out.+decimal.Goals as goal

pub returns-then-n-lt10 : goal.returns-then-n-lt10
returns-then-n-lt10 t c = record {
  put = record {
    puts = decimal_last_put _ _ 19 c.args.n (omega arith) c.if-n-lt10.true c.digit.ensures.puts;
    same = c.digit.ensures.same;
  };
}

pub returns-else-n-lt10 : goal.returns-else-n-lt10
returns-else-n-lt10 t c = record {
  put = record {
    puts = decimal_put _ _ 19 c.args.n (omega arith) c.if-n-lt10.false c.decimal.ensures.put.puts c.digit-else-n-lt10.ensures.puts;
    same = c.decimal.ensures.put.same ∙ c.digit-else-n-lt10.ensures.same;
  };
}
