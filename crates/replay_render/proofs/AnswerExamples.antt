-- docs/SCRIPTS.md, "Answers": lines of the other answers, worked out.
use Rattle.std.specs.Prelude.{◌≡◌, refl, [], ◌∷◌, pos, negsuc, replicate}
use Rattle.report.specs.Reading as reading
use Rattle.frame.specs.Writing as writing
use Rattle.mouse.specs.Movement as movement
use Rattle.port.specs.Waiting as waiting
use Rattle.restore.specs.Restoring as restoring
use Rattle.text.specs.Words.{ascii, digit, hex, decimal, decimal_in}
use Rattle.text.specs.Texts.{each_from}
use Rattle.replay_fields.specs.AnswerFields.{signed_text, refused_text}
use Rattle.replay_render.specs.AnswerLines.{outcome_text, written_text, cancelled_text, ended_text, restored_text, report_text, reading_text, moved_text, no_call_text}

no_room_law : written_text (writing.refused 10) (replicate 3 0xEE) ≡ ascii "refused 10: EE EE EE\n"
unfolding written_text outcome_text each_from hex decimal decimal_in digit
no_room_law = refl

no_room_at_all : written_text (writing.refused 10) [] ≡ ascii "refused 10:\n"
unfolding written_text outcome_text each_from decimal decimal_in digit
no_room_at_all = refl

wrote : written_text (writing.wrote 7) (0xEE ∷ 0x10 ∷ 0x02 ∷ 0x00 ∷ 0x11 ∷ 0x00 ∷ 0x00 ∷ 0x5A ∷ 0xEE ∷ []) ≡ ascii "wrote 7: EE 10 02 00 11 00 00 5A EE\n"
unfolding written_text outcome_text each_from hex decimal decimal_in digit
wrote = refl

cancelled : cancelled_text waiting.done ≡ ascii "cancelled\n"
unfolding cancelled_text
cancelled = refl

tick : ended_text (0 ∷ 1 ∷ replicate 5 0) ≡ ascii "ended 0 1 0 0 0 0 0\n"
unfolding ended_text each_from decimal decimal_in digit
tick = refl

restored : restored_text restoring.restored ≡ ascii "restored\n"
unfolding restored_text
restored = refl

other_edition_example : restored_text (restoring.refused 15) ≡ ascii "refused 15\n"
unfolding restored_text refused_text decimal decimal_in digit
other_edition_example = refl

broken_line_example : restored_text (restoring.refused_at 16 8) ≡ ascii "refused 16 line=8\n"
unfolding restored_text decimal decimal_in digit
broken_line_example = refl

read : reading_text (reading.hidpp (record { id = 0x10; device = 0x02; byte2 = 0x00; byte3 = 0x11; start = 4; size = 3 })) ≡ ascii "report id=10 device=02 byte2=00 byte3=11 start=4 length=3\n"
unfolding reading_text report_text hex decimal decimal_in digit
read = refl

mouse : moved_text (movement.moved 1 (negsuc 0) (pos 1) (pos 1) (negsuc 0)) ≡ ascii "moved buttons=0001 x=-1 y=1 wheel=1 pan=-1\n"
unfolding moved_text signed_text hex decimal decimal_in digit
mouse = refl

no_call_example : no_call_text 12 ≡ ascii "line 12 is no call\n"
unfolding no_call_text decimal decimal_in digit
no_call_example = refl
