-- docs/SCRIPTS.md, "Answers": lines of taken reports, worked out.
use Rattle.std.specs.Prelude.{◌≡◌, refl, true, false}
use Rattle.port.specs.Answers as taking
use Rattle.text.specs.Words.{ascii, digit, hex, decimal, decimal_in}
use Rattle.text.specs.Texts.{link_text}
use Rattle.replay_fields.specs.AnswerFields.{flag, refused_text}
use Rattle.replay_taken.specs.TakenLines.{about_text, notice_text, taken_text}

abbrev asked : taking.About
asked = record { port = 2; byte2 = 0x00; byte3 = 0x11; start = 4; size = 3 }

refused : taken_text (taking.refused 7) ≡ ascii "refused 7\n"
unfolding taken_text refused_text decimal decimal_in digit
refused = refl

reply : taken_text (taking.reply 0 asked) ≡ ascii "reply port=2 byte2=00 byte3=11 start=4 length=3 dropped=0\n"
unfolding taken_text about_text hex decimal decimal_in digit
reply = refl

-- the receiver's reply that changed a device's serial
serial : taken_text (taking.reply 2 (record { port = 255; byte2 = 0x83; byte3 = 0xB5; start = 4; size = 16 })) ≡ ascii "reply port=255 byte2=83 byte3=B5 start=4 length=16 dropped=2\n"
unfolding taken_text about_text hex decimal decimal_in digit
serial = refl

error : taken_text (taking.failed asked 0x01 0x8F) ≡ ascii "error port=2 byte2=00 byte3=11 start=4 length=3 code=01 kind=8F\n"
unfolding taken_text about_text hex decimal decimal_in digit
error = refl

radio : taken_text (taking.radio 0x04 3 1) ≡ ascii "radio type=04 start=3 length=1\n"
unfolding taken_text hex decimal decimal_in digit
radio = refl

unpaired : notice_text (taking.unpaired 2 0) ≡ ascii "unpaired port=2 dropped=0\n"
unfolding notice_text decimal decimal_in digit
unpaired = refl

paired : notice_text (taking.paired 2 false 0x2010 0x0000000E 0) ≡ ascii "paired port=2 more=0 wpid=2010 reports=0000000E dropped=0\n"
unfolding notice_text flag hex decimal decimal_in digit
paired = refl

empty_list_example : notice_text taking.empty_list ≡ ascii "empty-list\n"
unfolding notice_text
empty_list_example = refl

link : notice_text (taking.link 2 true) ≡ ascii "link port=2 up\n"
unfolding notice_text link_text decimal decimal_in digit
link = refl

other : notice_text (taking.other 2 0x43) ≡ ascii "other port=2 type=43\n"
unfolding notice_text hex decimal decimal_in digit
other = refl
