-- Numbers and serials as text, worked out. The first two are in document 01's listing.
use Rattle.std.specs.Prelude.{◌≡◌, refl, None, Some}
use Rattle.text.specs.Words.{ascii, digit, hex, decimal, decimal_in}
use Rattle.text.specs.Texts.{serial_text}

wpid : hex 4 0x2010 ≡ ascii "2010"
unfolding hex digit
wpid = refl

reports : hex 8 0xE ≡ ascii "0000000E"
unfolding hex digit
reports = refl

byte : hex 2 0xA5 ≡ ascii "A5"
unfolding hex digit
byte = refl

none : decimal 0 ≡ ascii "0"
unfolding decimal decimal_in digit
none = refl

ten : decimal 10 ≡ ascii "10"
unfolding decimal decimal_in digit
ten = refl

most : decimal 65535 ≡ ascii "65535"
unfolding decimal decimal_in digit
most = refl

serial : serial_text (Some 0x0A1B2C3D) ≡ ascii "0A1B2C3D"
unfolding serial_text hex digit
serial = refl

no_serial_law : serial_text None ≡ ascii "-"
unfolding serial_text
no_serial_law = refl
