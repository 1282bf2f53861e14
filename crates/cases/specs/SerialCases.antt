-- Document 02, Ask 1, on the reports of a keyboard in source document 004: the receiver's reply gives device 1's serial, and the reply for its twin drops what waits. Each is the whole outcome, by the definitions that the contracts cite.
use Rattle.std.specs.Prelude.{ℕ, ◌≡◌, true, false, List, [], ◌∷◌, replicate, Some}
use Rattle.frame.specs.Writing as writing
use Rattle.port.specs.declared.Port.{Port}
use Rattle.port.specs.Records.{fresh_port, with_pairing, with_version, with_battery, with_serial, with_features, with_link}
use Rattle.port.specs.Answers as answers
use Rattle.station.specs.declared.Station.{Station}
use Rattle.station.specs.Stations.{fresh_station, with_port}
use Rattle.station.specs.StationTaking.{take_rule}
use Rattle.station.specs.StationCalls.{request_rule}
use Rattle.cases.specs.LetteredCases.{nine_lent, waiting_port, taken}

-- a fresh station with this port for device 1, paired
unfoldable pub paired_keyboard : Port → Station
paired_keyboard port = with_port fresh_station 0 (with_pairing port 0x2010 0x401A)

-- the station where the request for the serial waits on port 255 too
unfoldable pub serial_asked : Station → Station
serial_asked st = with_port st 6 (waiting_port 0x83 0xB5 10 (0x30 ∷ 0x00 ∷ 0x00 ∷ []))

-- the reply, by the last byte of the serial, and what its answer carries
unfoldable pub serial_reply : ℕ → List ℕ
serial_reply last =
    0x11 ∷ 0xFF ∷ 0x83 ∷ 0xB5 ∷ 0x30 ∷ 0xFB ∷ 0x84 ∷ 0x1B ∷ last ∷ 0x1A ∷ 0x40 ∷ 0x00 ∷ 0x00 ∷ 0x07 ∷ replicate 6 0

abbrev pub about_serial : answers.About
about_serial = record { port = 255; byte2 = 0x83; byte3 = 0xB5; start = 4; size = 16 }

-- a port with a known serial
unfoldable pub known : Port → ℕ → Port
known port number = with_serial port (Some number)

-- a keyboard of which everything is known, and a request waits
unfoldable pub used_keyboard : Port
used_keyboard =
    with_link (with_battery (with_version (with_features (waiting_port 0x05 0x21 10 (0x00 ∷ 0x00 ∷ 0x00 ∷ [])) (replicate 5 (record { 0 = 5 }))) (Some (record { major = 2; minor = 0 }))) (Some (record { level = 90; next = 80; status = 0 }))) true

pub record SerialCases : Type 0 where
  pub pairing : take_rule fresh_station (0x20 ∷ 0x01 ∷ 0x41 ∷ 0x00 ∷ 0x10 ∷ 0x20 ∷ 0x1A ∷ 0x40 ∷ replicate 7 0) ≡ taken (answers.notice (answers.paired 1 false 0x2010 0x401A 0)) (paired_keyboard fresh_port)
  pub request : request_rule (paired_keyboard fresh_port) 255 0x83 0xB5 10 (0x30 ∷ 0x00 ∷ 0x00 ∷ []) 0 nine_lent ≡ record { answer = writing.wrote 7; station = serial_asked (paired_keyboard fresh_port); lent = 0x10 ∷ 0xFF ∷ 0x83 ∷ 0xB5 ∷ 0x30 ∷ 0x00 ∷ 0x00 ∷ 0xEE ∷ 0xEE ∷ [] }
  pub reply : take_rule (serial_asked (paired_keyboard fresh_port)) (serial_reply 0x86) ≡ taken (answers.reply 0 about_serial) (paired_keyboard (known fresh_port 0xFB841B86))
  -- the same keyboard again: its request waits on
  pub same : take_rule (serial_asked (paired_keyboard (known used_keyboard 0xFB841B86))) (serial_reply 0x86) ≡ taken (answers.reply 0 about_serial) (paired_keyboard (known used_keyboard 0xFB841B86))
  -- its twin: the request is dropped, and nothing else is known of it
  pub twin : take_rule (serial_asked (paired_keyboard (known used_keyboard 0xFB841B86))) (serial_reply 0x87) ≡ taken (answers.reply 1 about_serial) (paired_keyboard (known fresh_port 0xFB841B87))
