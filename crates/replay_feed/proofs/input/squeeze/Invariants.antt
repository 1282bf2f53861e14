-- `replay_feed::input::squeeze` meets its contract.
use Rattle.replay_feed.proofs.SqueezeLaws.{Squeezing}
use Rattle.replay_feed.proofs.input.squeeze.Given as goal

abbrev pub invariant-loop-i : goal.invariant-loop-i
invariant-loop-i l = Squeezing l.initial.buffer l.buffer l.size l.kept l.i l.after
