-- `replay_feed::feed::feed` meets its contract.
use Rattle.std.proofs.lemmas.Bool.{not-false}
use Rattle.std.proofs.Common.{rules}
use Rattle.replay_feed.proofs.FeedLaws.{resumes}
use Rattle.replay_feed.proofs.feed.feed.Goals as goal

pub returns-clause-turned : goal.returns-clause-turned
returns-clause-turned c = resumes c.args.state c.args.buffer.now c.args.count _ c.requires.ordered c.requires.count (not-false _ c.if-not-state.false) c.in-Some.ensures.found c.move_down-size.ensures.moves (search rules) c.proceed-2.ensures.turned
