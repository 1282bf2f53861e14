-- docs/SCRIPTS.md, "Answers": lines of a dump, worked out.
use Rattle.std.specs.Prelude.{◌≡◌, refl, ◌∷◌, ◌++◌, Some, replicate}
use Rattle.port.specs.Records.{fresh_port, empty_place, with_version, with_places, with_pairing, with_serial}
use Rattle.port.specs.declared.Port.{Port}
use Rattle.text.specs.Words.{ascii, digit, hex, decimal, decimal_in}
use Rattle.text.specs.Texts.{each_from, link_text, version_text, battery_text, serial_text}
use Rattle.replay_fields.specs.AnswerFields.{flag, comma}
use Rattle.replay_dump.specs.DumpLines.{request_text, place_text, features_text, places_text, port_line}

-- device 2, paired and asked, with one request that waits
unfoldable pub asked : Port
asked =
    with_places (with_version (with_pairing fresh_port 0x2010 0x0000000E) (Some (record { major = 2; minor = 0 })))
    (record { byte2 = record { 0 = 0 }; byte3 = 0x11; first = record { 0 = 0; 1 = 0; 2 = 0x5A }; ticks = 10 } ∷ replicate 3 empty_place)

dump : port_line 2 asked ≡ ascii "port=2 paired=1 wpid=2010 reports=0000000E link=down version=2.0 features=0,0,0,0,0 " ++ ascii "battery=- places=00:11:00:00:5A:10,-,-,- serial=-\n"
unfolding port_line flag link_text version_text battery_text serial_text features_text places_text place_text request_text comma each_from empty_place hex decimal decimal_in digit fresh_port with_pairing with_version with_places asked
dump = refl

-- its serial is known
known : port_line 2 (with_serial asked (Some 0x0A1B2C3D)) ≡ ascii "port=2 paired=1 wpid=2010 reports=0000000E link=down version=2.0 features=0,0,0,0,0 " ++ ascii "battery=- places=00:11:00:00:5A:10,-,-,- serial=0A1B2C3D\n"
unfolding port_line flag link_text version_text battery_text serial_text features_text places_text place_text request_text comma each_from empty_place hex decimal decimal_in digit fresh_port with_pairing with_version with_places with_serial asked
known = refl
