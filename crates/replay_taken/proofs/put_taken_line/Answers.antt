-- `replay_taken::put_taken_line` meets its contract: a line for each answer.
use Rattle.std.specs.Prelude.{[]}
use Rattle.std.proofs.Common.{rules}
use Rattle.text.proofs.PuttingLaws.{nothing_out, then_out}
use Rattle.replay_fields.proofs.PartsLaws.{answer_out}
use Rattle.replay_taken.specs.TakenLines.{taken_text}
use Rattle.replay_taken.proofs.put_taken_line.Goals as goal

pub returns-in-Reply : goal.returns-in-Reply
returns-in-Reply c = rw c.in-Reply.is c.put_reply.ensures

pub returns-in-Stray : goal.returns-in-Stray
unfolding taken_text
returns-in-Stray c =
    rw c.in-Stray.is (answer_out tt (c.put_carried.ensures [] 0 (λ o o₁ put. search (rules, nothing_out))))

pub returns-in-Plain : goal.returns-in-Plain
unfolding taken_text
returns-in-Plain c =
    rw c.in-Plain.is (answer_out tt (c.put_carried-in-Plain.ensures [] 0 (λ o o₁ put. search (rules, nothing_out))))

pub returns-in-Event : goal.returns-in-Event
unfolding taken_text
returns-in-Event c =
    rw c.in-Event.is (answer_out tt (c.put_carried-in-Event.ensures [] 0 (λ o o₁ put. search (rules, nothing_out))))

pub returns-in-Failed : goal.returns-in-Failed
returns-in-Failed c = rw c.in-Failed.is c.put_failed.ensures

pub returns-in-Radio : goal.returns-in-Radio
unfolding taken_text
returns-in-Radio c =
    rw c.in-Radio.is (answer_out tt (then_out c.word.ensures.put (then_out c.put_code.ensures.put (then_out c.word-in-Radio.ensures.put (then_out c.small.ensures.put (then_out c.word-in-Radio-2.ensures.put (then_out c.small-in-Radio.ensures.put c.byte.ensures.put)))))))

pub returns-in-Noticed : goal.returns-in-Noticed
unfolding taken_text
returns-in-Noticed c = rw c.in-Noticed.is c.put_notice.ensures
