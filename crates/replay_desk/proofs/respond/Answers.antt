-- `replay_desk::respond` meets its contract.
use mathlib.Core.Path.{refl, ap}
use lib.Dec.{lit≤}
use Rattle.report.specs.Reading.{Read}
use Rattle.mouse.specs.Movement.{Movement}
use Rattle.text.proofs.PuttingLaws.{nothing_whole}
use Rattle.replay_render.specs.AnswerLines.{reading_text, moved_text}
use Rattle.replay_desk.specs.LineAnswers.{keeping, command_rule}
use Rattle.replay_desk.proofs.ShownLaws.{shown}
use Rattle.replay_desk.proofs.respond.Goals as goal

pub returns-in-Take : goal.returns-in-Take
unfolding command_rule
returns-in-Take c = rw c.in-Take.is c.take.ensures

pub returns-in-Cancel : goal.returns-in-Cancel
unfolding command_rule
returns-in-Cancel c = rw c.in-Cancel.is c.cancel.ensures

pub returns-in-Tick : goal.returns-in-Tick
unfolding command_rule
returns-in-Tick c = rw c.in-Tick.is c.tick.ensures

pub returns-in-Restore : goal.returns-in-Restore
unfolding command_rule
returns-in-Restore c = rw c.in-Restore.is c.restore.ensures

pub returns-in-Write : goal.returns-in-Write
unfolding command_rule
returns-in-Write c = rw c.in-Write.is c.write.ensures

pub returns-in-Blank : goal.returns-in-Blank
unfolding command_rule
returns-in-Blank c = rw c.in-Blank.is (shown c.requires.room (lit≤ tt) refl (record { whole = nothing_whole _ _; same = refl }))

pub returns-in-NoCall : goal.returns-in-NoCall
unfolding command_rule
returns-in-NoCall c = rw c.in-NoCall.is (shown c.requires.room (lit≤ tt) refl c.put_no_call.ensures.put)

pub returns-in-Read : goal.returns-in-Read
unfolding command_rule
returns-in-Read c = rw c.in-Read.is (shown c.requires.room (lit≤ tt) (ap (λ (r : Read). keeping c.args.station (reading_text r)) c.read.ensures.reading) c.put_reading.ensures.put)

pub returns-in-Mouse : goal.returns-in-Mouse
unfolding command_rule
returns-in-Mouse c = rw c.in-Mouse.is (shown c.requires.room (lit≤ tt) (ap (λ (m : Movement). keeping c.args.station (moved_text m)) c.movement.ensures.movement) c.put_moved.ensures.put)

pub returns-in-Dump : goal.returns-in-Dump
unfolding command_rule
returns-in-Dump c = rw c.in-Dump.is (shown c.requires.room (lit≤ tt) refl c.put_dump.ensures.put)
