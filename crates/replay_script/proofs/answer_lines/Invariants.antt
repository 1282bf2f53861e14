-- `replay_script::answer_lines` meets its contract. Each turn answers one line; what is left comes to the rest of what the rule gives.
use Rattle.std.proofs.Common.{◌-◌, length}
use Rattle.replay_script.proofs.ShareLaws.{Answering}
use Rattle.replay_script.proofs.answer_lines.Given as goal

abbrev pub invariant-loop-end : goal.invariant-loop-end
invariant-loop-end l = Answering l.text l.initial.output l.initial.run l.output l.run

abbrev pub decreases-loop-end : goal.decreases-loop-end
decreases-loop-end l = length l.text - l.run.used
