-- `replay_line::values::digits` meets its contract: the digits before c came to n.
use Rattle.std.specs.Prelude.{◌≡◌, ◌≤◌, drop}
use Rattle.replay_line.specs.LineValues.{greatest, digits_after}
use Rattle.replay_line.proofs.values.digits.Given as goal

abbrev pub invariant-loop-c : goal.invariant-loop-c
invariant-loop-c l = (l.n ≤ greatest) × (digits_after 0 l.text ≡ digits_after l.n (drop l.c-index l.text))
