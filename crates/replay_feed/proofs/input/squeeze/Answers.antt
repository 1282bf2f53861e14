-- `replay_feed::input::squeeze` meets its contract.
use Rattle.std.proofs.Common.{sym, ◌∙◌, true, false}
use Rattle.replay_feed.proofs.SqueezeLaws.{squeeze_more}
use Rattle.replay_feed.proofs.input.squeeze.Goals.{then-not-is_spare, else-not-is_spare}
use Rattle.replay_feed.proofs.input.squeeze.Goals as goal

pub loop-i-preserved : goal.loop-i-preserved
loop-i-preserved c =
    elim c.if-not-is_spare.branch [
      | then-not-is_spare w ↦ squeeze_more c.loop-i.invariant c.requires c.loop-i-test.true false (sym w.if-not-is_spare.true ∙ c.is_spare.ensures) w.buffer-is w.kept-is
      | else-not-is_spare w ↦ squeeze_more c.loop-i.invariant c.requires c.loop-i-test.true true (sym w.if-not-is_spare.false ∙ c.is_spare.ensures) w.buffer-is w.kept-is
    ]
