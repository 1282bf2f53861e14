-- `replay_script::answer` meets its contract.
use Rattle.replay_script.proofs.ShareLaws.{adds}
use Rattle.replay_script.proofs.answer.Goals as goal

pub returns : goal.returns
returns c = adds c.args.run c.args.line.now c.args.output.now c.answer_line-answered.result _ c.answer_line-answered.new.buffer c.requires c.answer_line-answered.ensures.answer c.answer_line-answered.ensures.within c.unwrap_or.ensures
