-- docs/SCRIPTS.md, "Lines" and "Answers": what a line gives.
use Rattle.std.specs.Prelude.{ℕ, ◌+◌, ◌*◌, cond, List, [], length, replicate}
use Rattle.report.specs.Refusals.{no_room}
use Rattle.report.specs.Reading.{read_rule}
use Rattle.frame.specs.Writing as writing
use Rattle.mouse.specs.Movement.{mouse_rule}
use Rattle.station.specs.declared.Station.{Station}
use Rattle.sequence.specs.Steps as steps
use Rattle.replay_line.specs.LineFields.{most_lent}
use Rattle.replay_line.specs.Commands as commands
use Rattle.replay_line.specs.LineCalls.{line_rule}
use Rattle.replay_taken.specs.TakenLines.{taken_text}
use Rattle.replay_render.specs.AnswerLines.{lent_most, written_text, cancelled_text, ended_text, restored_text, reading_text, moved_text, no_call_text}
use Rattle.replay_dump.specs.DumpLines.{dump_text}

-- its text, and the next station
pub record LineAnswer : Type 0 where
  pub text : List ℕ
  pub station : Station

-- the station as it is
abbrev pub keeping : Station → List ℕ → LineAnswer
keeping st text = record { text = text; station = st }

-- what a call of the station answers; a writer's with the whole lent buffer after the call
unfoldable pub call_text : steps.CallAnswer → (lent : List ℕ) → List ℕ
call_text (steps.taken answer) lent = taken_text answer
call_text (steps.written answer) lent = written_text answer lent
call_text (steps.cancelled answer) lent = cancelled_text answer
call_text (steps.ticked counts) lent = ended_text counts
call_text (steps.restoring answer) lent = restored_text answer

-- a step of the station
abbrev pub stepped : steps.Outcome → LineAnswer
stepped o = record { text = call_text o.answer o.lent; station = o.station }

-- the call that each writer is; a frame alone needs no station
unfoldable pub writer_step : Station → commands.LineWriter → (offset : ℕ) → (params lent : List ℕ) → steps.Outcome
writer_step st (commands.request port byte2 byte3 ticks) offset params lent =
    steps.step st (steps.request port byte2 byte3 ticks params offset lent)
writer_step st (commands.switch bits timeout) offset params lent =
    steps.step st (steps.write (steps.switch bits timeout) offset lent)
writer_step st commands.get_paired offset params lent =
    steps.step st (steps.write steps.get_paired offset lent)
writer_step st (commands.led port leds) offset params lent =
    steps.step st (steps.write (steps.led port leds) offset lent)
writer_step st commands.list offset params lent =
    steps.step st (steps.write steps.list offset lent)
writer_step st commands.store offset params lent =
    steps.step st (steps.write steps.store offset lent)
writer_step st (commands.frame port byte2 byte3) offset params lent =
    steps.write_step st (writing.request_frame_rule port byte2 byte3 params offset lent)

-- a lent buffer has LEN bytes, each EE before the call
abbrev pub lent_byte : ℕ
lent_byte = 0xEE

abbrev pub lent_buffer : ℕ → List ℕ
lent_buffer room = replicate room lent_byte

-- an empty line or a comment gives no output; a line that is no call leaves the station as it is; the calls are those of the rules
unfoldable pub command_rule : Station → (number : ℕ) → commands.Command → LineAnswer
command_rule st number commands.blank = keeping st []
command_rule st number commands.no_call = keeping st (no_call_text number)
command_rule st number (commands.take bytes) = stepped (steps.step st (steps.take bytes))
command_rule st number (commands.cancel port byte2 byte3) =
    stepped (steps.step st (steps.cancel port byte2 byte3))
command_rule st number commands.tick = stepped (steps.step st steps.tick)
command_rule st number (commands.restore bytes) = stepped (steps.step st (steps.restore bytes))
command_rule st number (commands.read bytes) = keeping st (reading_text (read_rule bytes))
command_rule st number (commands.mouse payload) = keeping st (moved_text (mouse_rule payload))
command_rule st number commands.dump = keeping st (dump_text st)
command_rule st number (commands.write writer offset room params) =
    stepped (writer_step st writer offset params (lent_buffer room))

-- a round limit for what a writer's line has besides its lent bytes
abbrev pub rest_room : ℕ
rest_room = 32

-- room for any answer: that of a writer with the longest lent buffer
abbrev pub answer_room : ℕ
answer_room = lent_most * most_lent + rest_room

-- what answering a line leaves: the number of bytes of text that it put or the number of a refusal, the next station, and the buffer that the text is put into
pub record LineOutcome : Type 0 where
  pub answer : writing.WriteAnswer
  pub station : Station
  pub lent : List ℕ

-- the text at its offset; the bytes before and after it keep their values
abbrev pub put : LineAnswer → ℕ → List ℕ → LineOutcome
put a offset lent =
    record {
      answer = writing.wrote (length a.text);
      station = a.station;
      lent = writing.pasted a.text offset lent;
    }

-- 10, where there may be too little room; it leaves the station and the buffer as they were
unfoldable pub answer_rule : Station → (number : ℕ) → (line : List ℕ) → (offset : ℕ) → (lent : List ℕ) → LineOutcome
answer_rule st number line offset lent =
    cond (writing.fits_at answer_room offset (length lent)) (put (command_rule st number (line_rule line)) offset lent)
    (record { answer = writing.refused no_room; station = st; lent = lent })
