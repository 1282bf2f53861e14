-- `text::Out::byte` meets its contract.
use mathlib.Core.Path.{refl}
use native.Mathlib.Omega.{arith}
use Rattle.text.proofs.PuttingLaws.{one_byte, past_end}
use Rattle.text.proofs.Out.byte.Goals as goal

pub returns-then-self : goal.returns-then-self
returns-then-self c = record {
  put = record { puts = record { put = one_byte _ _ _ c.if-self.true; short = omega arith }; same = refl };
}

pub returns-else-self : goal.returns-else-self
returns-else-self c = record {
  put = record { puts = record { put = past_end _ _ _ c.if-self.false; short = omega arith }; same = refl };
}
