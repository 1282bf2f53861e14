-- `replay_taken::put_notice` meets its contract: a line for each notice.
use Rattle.text.proofs.PuttingLaws.{then_out}
use Rattle.replay_fields.proofs.PartsLaws.{answer_out}
use Rattle.replay_taken.specs.TakenLines.{notice_text}
use Rattle.replay_taken.proofs.put_notice.Goals as goal

pub returns-in-Unpaired : goal.returns-in-Unpaired
unfolding notice_text
returns-in-Unpaired c =
    rw c.in-Unpaired.is (answer_out tt (then_out c.word.ensures.put (then_out c.small.ensures.put (then_out c.put_dropped.ensures c.byte.ensures.put))))

pub returns-in-Paired : goal.returns-in-Paired
unfolding notice_text
returns-in-Paired c =
    rw c.in-Paired.is (answer_out tt (then_out c.word-in-Paired.ensures.put (then_out c.small-in-Paired.ensures.put (then_out c.word-in-Paired-2.ensures.put (then_out c.put_flag.ensures.put (then_out c.word-in-Paired-3.ensures.put (then_out c.hex.ensures.put (then_out c.word-in-Paired-4.ensures.put (then_out c.hex-in-Paired.ensures.put (then_out c.put_dropped-in-Paired.ensures c.byte-in-Paired.ensures.put))))))))))

pub returns-in-EmptyList : goal.returns-in-EmptyList
unfolding notice_text
returns-in-EmptyList c = rw c.in-EmptyList.is (answer_out tt c.word-in-EmptyList.ensures.put)

pub returns-in-Link : goal.returns-in-Link
unfolding notice_text
returns-in-Link c =
    rw c.in-Link.is (answer_out tt (then_out c.word-in-Link.ensures.put (then_out c.small-in-Link.ensures.put (then_out c.byte-in-Link.ensures.put (then_out c.link.ensures.put c.byte-in-Link-2.ensures.put)))))

pub returns-in-Other : goal.returns-in-Other
unfolding notice_text
returns-in-Other c =
    rw c.in-Other.is (answer_out tt (then_out c.word-in-Other.ensures.put (then_out c.small-in-Other.ensures.put (then_out c.word-in-Other-2.ensures.put (then_out c.put_code.ensures.put c.byte-in-Other.ensures.put)))))
