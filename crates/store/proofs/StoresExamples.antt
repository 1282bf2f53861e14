-- Document 02, Ask 3: its example, and a store with every other form of a field.
use Rattle.std.specs.Prelude.{◌≡◌, refl, [], ◌∷◌, ◌++◌, None, Some, replicate}
use Rattle.port.specs.declared.Port.{Port}
use Rattle.port.specs.Records.{fresh_port}
use Rattle.text.specs.Words.{ascii, digit, hex, decimal, decimal_in}
use Rattle.text.specs.Texts.{each_from, paired_text, paired_lines, version_text, serial_text}
use Rattle.store.specs.Stores.{edition_line, pad_line, store_text, pad_port}

-- device 2 after cases f and c
unfoldable pub paired_and_asked : Port
paired_and_asked = pad_port 0x2010 None 0x0000000E (Some (record { major = 2; minor = 0 })) (replicate 5 (record { 0 = 0 }))

pub after_f_and_c : store_text (fresh_port ∷ paired_and_asked ∷ replicate 5 fresh_port) ≡ ascii "pads\t1\n" ++ ascii "2\t2010\t-\t0000000E\t2.0\t0\t0\t0\t0\t0\n"
unfolding store_text edition_line pad_line paired_lines each_from paired_text version_text serial_text hex decimal decimal_in digit fresh_port pad_port paired_and_asked
after_f_and_c = refl

-- a serial, no version, and indexes up to the largest
unfoldable pub found : Port
found =
    pad_port 0x40AB (Some 0x0A1B2C3D) 0x80000002 None
    (record { 0 = 1 } ∷ record { 0 = 0 } ∷ record { 0 = 10 } ∷ record { 0 = 63 } ∷ record { 0 = 9 } ∷ [])

-- devices 1 and 6; the seventh port, the receiver's, is not looked at
pub every_form : store_text (found ∷ replicate 4 fresh_port ++ (paired_and_asked ∷ found ∷ [])) ≡ ascii "pads\t1\n" ++ (ascii "1\t40AB\t0A1B2C3D\t80000002\t-\t1\t0\t10\t63\t9\n" ++ ascii "6\t2010\t-\t0000000E\t2.0\t0\t0\t0\t0\t0\n")
unfolding store_text edition_line pad_line paired_lines each_from paired_text version_text serial_text hex decimal decimal_in digit fresh_port pad_port paired_and_asked found
every_form = refl

-- no device
pub nothing_paired : store_text (replicate 7 fresh_port) ≡ ascii "pads\t1\n"
unfolding store_text edition_line paired_lines each_from paired_text decimal decimal_in digit fresh_port
nothing_paired = refl
