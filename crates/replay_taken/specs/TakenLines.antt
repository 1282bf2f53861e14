-- docs/SCRIPTS.md, "Answers": the line of what taking a report answered, over the rules' answers.
use Rattle.std.specs.Prelude.{ℕ, List, [], ◌∷◌, ◌++◌}
use Rattle.port.specs.Answers as taking
use Rattle.text.specs.Words.{ascii, hex, decimal}
use Rattle.text.specs.Texts.{digits16, digits32, link_text}
use Rattle.replay_fields.specs.AnswerFields.{field, line, byte_text, flag, refused_text}

-- what reply, stray, plain notice, event and error have in common
unfoldable pub about_text : taking.About → List ℕ
about_text a =
    field "port" (decimal a.port)
    ++ (field "byte2" (byte_text a.byte2)
    ++ (field "byte3" (byte_text a.byte3)
    ++ (field "start" (decimal a.start)
    ++ field "length" (decimal a.size))))

unfoldable pub notice_text : taking.Notice → List ℕ
notice_text (taking.unpaired port dropped) =
    line (ascii "unpaired" ∷ field "port" (decimal port) ∷ field "dropped" (decimal dropped) ∷ [])
notice_text (taking.paired port more wpid reports dropped) =
    line
    (ascii "paired"
    ∷ field "port" (decimal port)
    ∷ field "more" (flag more)
    ∷ field "wpid" (hex digits16 wpid)
    ∷ field "reports" (hex digits32 reports)
    ∷ field "dropped" (decimal dropped)
    ∷ [])
notice_text taking.empty_list = line (ascii "empty-list" ∷ [])
notice_text (taking.link port up) =
    line (ascii "link" ∷ field "port" (decimal port) ∷ ascii " " ∷ link_text up ∷ [])
notice_text (taking.other port kind) =
    line (ascii "other" ∷ field "port" (decimal port) ∷ field "type" (byte_text kind) ∷ [])

unfoldable pub taken_text : taking.Answer → List ℕ
taken_text (taking.refused number) = refused_text number
taken_text (taking.reply dropped a) =
    line (ascii "reply" ∷ about_text a ∷ field "dropped" (decimal dropped) ∷ [])
taken_text (taking.stray a) = line (ascii "stray" ∷ about_text a ∷ [])
taken_text (taking.plain a) = line (ascii "plain" ∷ about_text a ∷ [])
taken_text (taking.event a) = line (ascii "event" ∷ about_text a ∷ [])
taken_text (taking.failed a code kind) =
    line (ascii "error" ∷ about_text a ∷ field "code" (byte_text code) ∷ field "kind" (byte_text kind) ∷ [])
taken_text (taking.radio kind start size) =
    line
    (ascii "radio"
    ∷ field "type" (byte_text kind)
    ∷ field "start" (decimal start)
    ∷ field "length" (decimal size)
    ∷ [])
taken_text (taking.notice n) = notice_text n
