-- Document 01, "Refusal numbers" and "Sequences of calls": a refused step leaves station and lent bytes as they were.
use Rattle.std.specs.Prelude.{◌≡◌, Bool, true, false}
use Rattle.frame.specs.Writing as writing
use Rattle.port.specs.Answers as answers
use Rattle.port.specs.Waiting as waiting
use Rattle.restore.specs.Restoring as restoring
use Rattle.station.specs.declared.Station.{Station}
use Rattle.sequence.specs.Steps.{Call, read_of, lent_of, CallAnswer, taken, written, cancelled, ticked, Outcome}
use Rattle.sequence.specs.Steps as steps

abbrev pub take_refused : answers.Answer → Bool
take_refused (answers.refused number) = true
take_refused (answers.reply dropped a) = false
take_refused (answers.stray a) = false
take_refused (answers.plain a) = false
take_refused (answers.event a) = false
take_refused (answers.failed a code kind) = false
take_refused (answers.radio kind start size) = false
take_refused (answers.notice n) = false

abbrev pub write_refused : writing.WriteAnswer → Bool
write_refused (writing.refused number) = true
write_refused (writing.wrote n) = false

abbrev pub cancel_refused : waiting.CancelAnswer → Bool
cancel_refused (waiting.CancelAnswer.refused number) = true
cancel_refused waiting.done = false

abbrev pub restore_refused : restoring.RestoreAnswer → Bool
restore_refused restoring.restored = false
restore_refused (restoring.refused number) = true
restore_refused (restoring.refused_at number line) = true

-- the answer is a refusal's number; a tick has none
abbrev pub is_refusal : CallAnswer → Bool
is_refusal (taken a) = take_refused a
is_refusal (written a) = write_refused a
is_refusal (cancelled a) = cancel_refused a
is_refusal (ticked counts) = false
is_refusal (steps.restoring a) = restore_refused a

-- station and lent bytes as they were before the call
pub record Unchanged (st : Station) (c : Call) (o : Outcome) : Type 0 where
  pub station : o.station ≡ st
  pub read : o.read ≡ read_of c
  pub lent : o.lent ≡ lent_of c
