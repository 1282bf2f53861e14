-- Document 01, "Port listing": its example, and one with every other form of a field.
use Rattle.std.specs.Prelude.{◌≡◌, refl, [], ◌∷◌, ◌++◌, true, Some, replicate}
use Rattle.text.specs.Words.{ascii, digit, hex, decimal, decimal_in}
use Rattle.port.specs.Places.{sum_over}
use Rattle.port.specs.Records.{fresh_port, empty_place, with_version, with_battery, with_link, with_places, with_pairing}
use Rattle.port.specs.declared.Port.{Port}
use Rattle.port.specs.declared.Request.{Request}
use Rattle.text.specs.Texts.{each_from, paired_text, paired_lines, link_text, version_text, battery_text}
use Rattle.listing.specs.Listing.{header_line, device_line, listing}

-- device 2 after cases f and c, in that order: paired with WPID 0x2010 and bits 1 to 3, and then version 2.0
unfoldable pub paired_and_asked : Port
paired_and_asked = with_version (with_pairing fresh_port 0x2010 0x0000000E) (Some (record { major = 2; minor = 0 }))

pub after_f_and_c : listing (fresh_port ∷ paired_and_asked ∷ replicate 5 fresh_port) ≡ ascii "port\twpid\treports\tlink\tversion\tbattery\twaiting\n" ++ ascii "2\t2010\t0000000E\tdown\t2.0\t-\t0\n"
unfolding listing header_line paired_lines each_from paired_text device_line link_text version_text battery_text hex decimal decimal_in digit sum_over fresh_port empty_place with_pairing with_version paired_and_asked
after_f_and_c = refl

-- a request that waits
abbrev pub waiting : Request
waiting =
    record { byte2 = record { 0 = 0 }; byte3 = 0x11; first = record { 0 = 0; 1 = 0; 2 = 0x5A }; ticks = 10 }

-- a device that is up, with a battery and two requests that wait, and whose version is unknown
unfoldable pub busy : Port
busy =
    with_places (with_battery (with_link (with_pairing fresh_port 0x40AB 0x80000002) true) (Some (record { level = 100; next = 90; status = 0 })))
    (waiting ∷ empty_place ∷ waiting ∷ empty_place ∷ [])

-- devices 1 and 6; the seventh port, the receiver's, is not looked at
pub every_form : listing (paired_and_asked ∷ replicate 4 fresh_port ++ (busy ∷ busy ∷ [])) ≡ ascii "port\twpid\treports\tlink\tversion\tbattery\twaiting\n" ++ (ascii "1\t2010\t0000000E\tdown\t2.0\t-\t0\n" ++ ascii "6\t40AB\t80000002\tup\t-\t100,90,0\t2\n")
unfolding listing header_line paired_lines each_from paired_text device_line link_text version_text battery_text hex decimal decimal_in digit sum_over fresh_port empty_place with_pairing with_version with_link with_battery with_places paired_and_asked busy
every_form = refl
