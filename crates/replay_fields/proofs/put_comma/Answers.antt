-- `replay_fields::put_comma` meets its contract.
use mathlib.Core.Path.{refl}
use native.Mathlib.Omega.{arith}
use Rattle.replay_fields.proofs.PartsLaws.{no_comma, a_comma}
use Rattle.replay_fields.proofs.put_comma.Goals as goal

pub returns-then-i-gt0 : goal.returns-then-i-gt0
returns-then-i-gt0 c = record {
  put = record { puts = a_comma _ _ _ (λ none. omega arith) c.byte.ensures.put.puts; same = c.byte.ensures.put.same };
}

pub returns-else-i-gt0 : goal.returns-else-i-gt0
returns-else-i-gt0 c = record {
  put = record { puts = no_comma _ _ _ (omega arith); same = refl };
}
