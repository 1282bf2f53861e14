-- docs/SCRIPTS.md, "Answers": the line of each answer except a taken report's and a dump's, over the rules' answers.
use Rattle.std.specs.Prelude.{ℕ, ◌+◌, ◌*◌, List, [], ◌∷◌, length}
use Rattle.report.specs.Reading as reading
use Rattle.frame.specs.Writing as writing
use Rattle.mouse.specs.Movement as movement
use Rattle.port.specs.Waiting as waiting
use Rattle.restore.specs.Restoring as restoring
use Rattle.text.specs.Words.{ascii, hex, decimal}
use Rattle.text.specs.Texts.{each, digits8, digits16, number_most}
use Rattle.replay_fields.specs.AnswerFields.{field, line, line_end, byte_text, signed_text, spaced, spaced_most, refused_word, refused_text}

-- the whole lent buffer after the call
abbrev pub lent_text : List ℕ → List ℕ
lent_text lent = each (spaced byte_text) lent

-- for each lent byte
abbrev pub lent_most : ℕ
lent_most = spaced_most digits8

-- the word, the number, a colon and the buffer; with no lent byte the line ends with the colon
unfoldable pub outcome_text : List ℕ → ℕ → List ℕ → List ℕ
outcome_text word number lent = line (word ∷ decimal number ∷ ascii ":" ∷ lent_text lent ∷ [])

abbrev pub outcome_most : (word : List ℕ) → (size : ℕ) → ℕ
outcome_most word size = length word + number_most + length (ascii ":") + lent_most * size + line_end

unfoldable pub written_text : writing.WriteAnswer → List ℕ → List ℕ
written_text (writing.refused number) lent = outcome_text refused_word number lent
written_text (writing.wrote size) lent = outcome_text (ascii "wrote ") size lent

-- no line of a writer is longer, with so many lent bytes: of its two words, that of a refusal is the longer one
abbrev pub written_most : (size : ℕ) → ℕ
written_most size = outcome_most refused_word size

unfoldable pub cancelled_text : waiting.CancelAnswer → List ℕ
cancelled_text (waiting.CancelAnswer.refused number) = refused_text number
cancelled_text waiting.done = line (ascii "cancelled" ∷ [])

-- the number of requests that a tick ended on each port
unfoldable pub ended_text : List ℕ → List ℕ
ended_text counts = line (ascii "ended" ∷ each (spaced decimal) counts ∷ [])

-- what reading a store answered; the line of the store that broke its rules comes after the number of that refusal
unfoldable pub restored_text : restoring.RestoreAnswer → List ℕ
restored_text restoring.restored = line (ascii "restored" ∷ [])
restored_text (restoring.refused number) = refused_text number
restored_text (restoring.refused_at number broken) =
    line (refused_word ∷ decimal number ∷ field "line" (decimal broken) ∷ [])

unfoldable pub report_text : reading.Report → List ℕ
report_text r =
    line
    (ascii "report"
    ∷ field "id" (byte_text r.id)
    ∷ field "device" (byte_text r.device)
    ∷ field "byte2" (byte_text r.byte2)
    ∷ field "byte3" (byte_text r.byte3)
    ∷ field "start" (decimal r.start)
    ∷ field "length" (decimal r.size)
    ∷ [])

-- an empty list is shown as any other report
unfoldable pub reading_text : reading.Read → List ℕ
reading_text (reading.refused number) = refused_text number
reading_text (reading.hidpp r) = report_text r
reading_text (reading.dj r) = report_text r
reading_text (reading.empty_list r) = report_text r

unfoldable pub moved_text : movement.Movement → List ℕ
moved_text (movement.refused number) = refused_text number
moved_text (movement.moved buttons x y wheel pan) =
    line
    (ascii "moved"
    ∷ field "buttons" (hex digits16 buttons)
    ∷ field "x" (signed_text x)
    ∷ field "y" (signed_text y)
    ∷ field "wheel" (signed_text wheel)
    ∷ field "pan" (signed_text pan)
    ∷ [])

-- what replay writes for a line that is no call
unfoldable pub no_call_text : ℕ → List ℕ
no_call_text number = line (ascii "line " ∷ decimal number ∷ ascii " is no call" ∷ [])
