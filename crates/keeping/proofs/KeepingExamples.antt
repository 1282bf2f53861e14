-- Document 02, Ask 3: its example read back, and a text for each way to break the rules.
use Rattle.std.specs.Prelude.{ℕ, ◌≡◌, refl, List, [], ◌∷◌, ◌++◌, replicate}
use Prim.Native.String.{String}
use Rattle.port.specs.Records.{fresh_port}
use Rattle.text.specs.Words.{ascii, digit, hex, decimal, decimal_in}
use Rattle.scan.specs.Scans.{pair_scan, word_scan, stopped, run_after, number_scan, decimal_scan, capital_digit, digit_more, digits_scan, hex_scan, known_serial, serial_scan, known_version, version_scan}
use Rattle.store.specs.Stores.{pad_port}
use Rattle.store.proofs.StoresExamples as stores
use Rattle.restore.specs.Restoring.{StoreRead, store_of, of_other, broken_at, indexes_scan, pad_scan, device_scan, row_in, devices_in, edition_scan, read_store}

-- what a text is whose lines after the first one of edition 1 are these
abbrev after : String → StoreRead
after lines = read_store (ascii "pads\t1\n" ++ ascii lines)

-- a line of a device
abbrev pad : String → List ℕ
pad number = ascii number ++ ascii "\t2010\t-\t0000000E\t2.0\t0\t0\t0\t0\t0\n"

abbrev six : List ℕ
six = ascii "pads\t1\n" ++ (pad "1" ++ (pad "2" ++ (pad "3" ++ (pad "4" ++ (pad "5" ++ pad "6")))))

-- the first lines
pub record FirstLines : Type 0 where
  pub nothing_paired : after "" ≡ store_of (replicate 7 fresh_port)
  pub empty : read_store [] ≡ broken_at 1
  pub edition_0 : read_store (ascii "pads\t0\n") ≡ of_other
  pub edition_2 : read_store (ascii "pads\t2\n") ≡ of_other
  pub edition_10 : read_store (ascii "pads\t10\n") ≡ of_other
  pub faults_after_edition_2 : read_store (ascii "pads\t2\nand so on") ≡ of_other
  pub edition_01 : read_store (ascii "pads\t01\n") ≡ broken_at 1
  pub edition_2_torn : read_store (ascii "pads\t2") ≡ broken_at 1
  pub edition_1_torn : read_store (ascii "pads\t1") ≡ broken_at 1
  pub no_edition : read_store (ascii "pads\t\n") ≡ broken_at 1
  pub other_word : read_store (ascii "pots\t1\n") ≡ broken_at 1

pub first_lines_example : FirstLines
unfolding read_store edition_scan devices_in row_in device_scan pair_scan word_scan stopped run_after number_scan decimal decimal_in digit fresh_port
first_lines_example =
    record {
      nothing_paired = refl;
      empty = refl;
      edition_0 = refl;
      edition_2 = refl;
      edition_10 = refl;
      faults_after_edition_2 = refl;
      edition_01 = refl;
      edition_2_torn = refl;
      edition_1_torn = refl;
      no_edition = refl;
      other_word = refl;
    }

-- the lines of the devices
pub record DeviceLines : Type 0 where
  -- device 2 after cases f and c
  pub after_f_and_c : after "2\t2010\t-\t0000000E\t2.0\t0\t0\t0\t0\t0\n" ≡ store_of (fresh_port ∷ stores.paired_and_asked ∷ replicate 5 fresh_port)
  pub every_form : after "1\t40AB\t0A1B2C3D\t80000002\t-\t1\t0\t10\t63\t9\n6\t2010\t-\t0000000E\t2.0\t0\t0\t0\t0\t0\n" ≡ store_of (stores.found ∷ replicate 4 fresh_port ++ (stores.paired_and_asked ∷ fresh_port ∷ []))
  pub torn_last : after "2\t2010\t-\t0000000E\t2.0\t0\t0\t0\t0\t0" ≡ broken_at 2
  pub empty_line : after "\n" ≡ broken_at 2
  pub falling : after "3\t2010\t-\t0000000E\t2.0\t0\t0\t0\t0\t0\n2\t2010\t-\t0000000E\t2.0\t0\t0\t0\t0\t0\n" ≡ broken_at 3
  pub repeated : after "2\t2010\t-\t0000000E\t2.0\t0\t0\t0\t0\t0\n2\t2010\t-\t0000000E\t2.0\t0\t0\t0\t0\t0\n" ≡ broken_at 3
  pub seventh : after "7\t2010\t-\t0000000E\t2.0\t0\t0\t0\t0\t0\n" ≡ broken_at 2
  pub port_0 : after "0\t2010\t-\t0000000E\t2.0\t0\t0\t0\t0\t0\n" ≡ broken_at 2
  pub small_letters : after "1\t40ab\t-\t0000000E\t2.0\t0\t0\t0\t0\t0\n" ≡ broken_at 2
  pub index_64 : after "2\t2010\t-\t0000000E\t2.0\t0\t0\t64\t0\t0\n" ≡ broken_at 2
  pub leading_zero_example : after "2\t2010\t-\t0000000E\t2.0\t0\t0\t01\t0\t0\n" ≡ broken_at 2
  pub port_02 : after "02\t2010\t-\t0000000E\t2.0\t0\t0\t0\t0\t0\n" ≡ broken_at 2
  pub version_256 : after "2\t2010\t-\t0000000E\t256.0\t0\t0\t0\t0\t0\n" ≡ broken_at 2
  pub short_serial : after "2\t2010\t0A1B2C3\t0000000E\t2.0\t0\t0\t0\t0\t0\n" ≡ broken_at 2
  pub long_serial : after "2\t2010\t0A1B2C3D4\t0000000E\t2.0\t0\t0\t0\t0\t0\n" ≡ broken_at 2
  pub four_indexes : after "2\t2010\t-\t0000000E\t2.0\t0\t0\t0\t0\n" ≡ broken_at 2
  pub six_indexes : after "2\t2010\t-\t0000000E\t2.0\t0\t0\t0\t0\t0\t0\n" ≡ broken_at 2
  pub carriage_return_example : after "2\t2010\t-\t0000000E\t2.0\t0\t0\t0\t0\t0\r\n" ≡ broken_at 2
  pub six_devices : read_store six ≡ store_of (replicate 6 stores.paired_and_asked ++ (fresh_port ∷ []))
  pub line_8 : read_store (six ++ pad "7") ≡ broken_at 8
  pub text_after : after "2\t2010\t-\t0000000E\t2.0\t0\t0\t0\t0\t0\n\n" ≡ broken_at 3

pub device_lines : DeviceLines
unfolding read_store edition_scan devices_in row_in device_scan pad_scan indexes_scan pair_scan word_scan stopped run_after number_scan decimal_scan capital_digit digit_more digits_scan hex_scan known_serial serial_scan known_version version_scan decimal decimal_in digit hex pad_port fresh_port stores.paired_and_asked stores.found
device_lines =
    record {
      after_f_and_c = refl;
      every_form = refl;
      torn_last = refl;
      empty_line = refl;
      falling = refl;
      repeated = refl;
      seventh = refl;
      port_0 = refl;
      small_letters = refl;
      index_64 = refl;
      leading_zero_example = refl;
      port_02 = refl;
      version_256 = refl;
      short_serial = refl;
      long_serial = refl;
      four_indexes = refl;
      six_indexes = refl;
      carriage_return_example = refl;
      six_devices = refl;
      line_8 = refl;
      text_after = refl;
    }
