-- Document 01, "What the console part does": which port a call is for, in the document's words, by the call's answer. A call is for the port it names; switch and get-paired are for 255. Takes refused with 1 to 6, other calls refused with 5, empty-list notices and the listing are for none. A tick stays for every port. Document 02, Ask 3: the store calls are for none.
use Rattle.std.specs.Prelude.{ℕ, ◌≡◌, Bool, true, false, cond, leb, eqb}
use Rattle.report.specs.Ports.{receiver}
use Rattle.report.specs.Sizes.{byte}
use Rattle.frame.specs.Writing as writing
use Rattle.port.specs.Answers as answers
use Rattle.port.specs.Waiting as waiting
use Rattle.station.specs.declared.Station.{Station}
use Rattle.sequence.specs.Steps.{Writer, switch, get_paired, led, list, store, Call, take, request, cancel, tick, write, restore, CallAnswer, taken, written, cancelled, ticked, restoring, step, target}
use Rattle.sequence.specs.Targets.{Target, none, one, all}

-- an empty-list notice
abbrev pub is_empty_notice : answers.Notice → Bool
is_empty_notice (answers.unpaired port dropped) = false
is_empty_notice (answers.paired port more wpid reports dropped) = false
is_empty_notice answers.empty_list = true
is_empty_notice (answers.link port up) = false
is_empty_notice (answers.other port kind) = false

-- a take refused with 1 to 6, or answered with an empty-list notice
abbrev pub take_for_none : answers.Answer → Bool
take_for_none (answers.refused number) = leb number 6
take_for_none (answers.reply dropped a) = false
take_for_none (answers.stray a) = false
take_for_none (answers.plain a) = false
take_for_none (answers.event a) = false
take_for_none (answers.failed a code kind) = false
take_for_none (answers.radio kind start size) = false
take_for_none (answers.notice n) = is_empty_notice n

-- another call refused with 5
abbrev pub write_for_none : writing.WriteAnswer → Bool
write_for_none (writing.refused number) = eqb number 5
write_for_none (writing.wrote n) = false

abbrev pub cancel_for_none : waiting.CancelAnswer → Bool
cancel_for_none (waiting.CancelAnswer.refused number) = eqb number 5
cancel_for_none waiting.done = false

abbrev pub is_for_none : CallAnswer → Bool
is_for_none (taken a) = take_for_none a
is_for_none (written a) = write_for_none a
is_for_none (cancelled a) = cancel_for_none a
is_for_none (ticked counts) = false
is_for_none (restoring a) = true

-- for the port that the call names, unless the answer is one of those
abbrev pub for_named : ℕ → CallAnswer → Target
for_named number answer = cond (is_for_none answer) none (one number)

abbrev pub writer_sentence : Writer → CallAnswer → Target
writer_sentence (switch bits timeout) answer = for_named receiver answer
writer_sentence get_paired answer = for_named receiver answer
writer_sentence (led device leds) answer = for_named device answer
writer_sentence list answer = none
writer_sentence store answer = none

abbrev pub sentence : Call → CallAnswer → Target
sentence (take bytes) answer = for_named (byte bytes 1) answer
sentence (request device byte2 byte3 ticks params offset lent) answer = for_named device answer
sentence (cancel device byte2 byte3) answer = for_named device answer
sentence tick answer = all
sentence (write writer offset lent) answer = writer_sentence writer answer
sentence (restore text) answer = none

-- on any station
abbrev pub ByAnswer : Station → Call → Type 0
ByAnswer st c = target c ≡ sentence c (step st c).answer
