-- `replay_taken::put_about` meets its contract: the five fields, one after another.
use Rattle.text.proofs.PuttingLaws.{then_out}
use Rattle.replay_taken.specs.TakenLines.{about_text}
use Rattle.replay_taken.proofs.put_about.Goals as goal

pub returns : goal.returns
unfolding about_text
returns c =
    then_out c.word.ensures.put (then_out c.small.ensures.put (then_out c.word-2.ensures.put (then_out c.put_code.ensures.put (then_out c.word-3.ensures.put (then_out c.put_code-2.ensures.put (then_out c.word-4.ensures.put (then_out c.small-2.ensures.put (then_out c.word-5.ensures.put c.small-3.ensures.put))))))))
