-- `text::Out::hex` meets its contract, by the width: the digits before the last, then the last.
use mathlib.Core.Path.{refl, ◌∙◌}
use native.Mathlib.Omega.{arith}
use Rattle.text.proofs.PutDigitsLaws.{hex_none_put, hex_put}
use Rattle.text.proofs.Out.+hex.Goals as goal

pub returns-then-width-gt0 : goal.returns-then-width-gt0
returns-then-width-gt0 t c = record {
  put = record {
    puts = hex_put _ _ _ _ c.if-width-gt0.true c.hex.ensures.put.puts c.digit.ensures.puts;
    same = c.hex.ensures.put.same ∙ c.digit.ensures.same;
  };
}

pub returns-else-width-gt0 : goal.returns-else-width-gt0
returns-else-width-gt0 t c = record {
  put = record { puts = hex_none_put _ _ _ _ (omega arith); same = refl };
}
