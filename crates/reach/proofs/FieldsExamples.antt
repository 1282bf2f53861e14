-- Demand 2: the fields that documents 01 and 02 list for a call, one answer for each row. A field beyond these would let more change.
use Rattle.std.specs.Prelude.{ℕ, ◌≡◌, refl, Bool, true, false, List, [], ◌∷◌, Some}
use Rattle.report.specs.declared.FeatureIndex.{FeatureIndex}
use Rattle.report.specs.Reading.{report_from}
use Rattle.port.specs.declared.Port.{Port}
use Rattle.port.specs.declared.Request.{Request}
use Rattle.port.specs.Records.{fresh_port, empty_place, with_pairing, with_serial, with_features, with_places}
use Rattle.port.specs.Places.{first_at}
use Rattle.port.specs.Waiting as waiting
use Rattle.frame.specs.Writing as writing
use Rattle.port.specs.Answers.{About, Answer, refused, reply, stray, plain, event, failed, radio, notice, unpaired, paired, link, other}
use Rattle.serial.specs.Serials.{given_by}
use Rattle.restore.specs.Restoring.{refused_at}
use Rattle.sequence.specs.Steps.{get_paired, Call, take, request, cancel, tick, write, restore, CallAnswer, taken, written, cancelled, ticked, restoring}
use Rattle.reach.specs.Fields.{pairing, wpid, bitfield, link_up, version, features, battery, serial, places, lists}

-- device 2, paired with WPID 0x2010: 0x1000 has index 8, 0x1D4B index 9
abbrev index : ℕ → FeatureIndex
index n = record { 0 = n }

port2 : Port
port2 =
    with_features (with_pairing fresh_port 0x2010 0x0E) (index 0 ∷ index 0 ∷ index 0 ∷ index 8 ∷ index 9 ∷ [])

asked2 : Request
asked2 = record { byte2 = index 0x83; byte3 = 0xB5; first = record { 0 = 0x31; 1 = 0; 2 = 0 }; ticks = 9 }

-- port 255, where a request for device 2's serial waits
port255 : Port
port255 = with_places fresh_port (asked2 ∷ empty_place ∷ empty_place ∷ empty_place ∷ [])

-- pairing, WPID, bitfield, link, version, features, battery, serial, places
abbrev listed_of : Port → Call → CallAnswer → List Bool
listed_of p c a =
    lists 2 port255 p c a pairing
    ∷ lists 2 port255 p c a wpid
    ∷ lists 2 port255 p c a bitfield
    ∷ lists 2 port255 p c a link_up
    ∷ lists 2 port255 p c a version
    ∷ lists 2 port255 p c a features
    ∷ lists 2 port255 p c a battery
    ∷ lists 2 port255 p c a serial
    ∷ lists 2 port255 p c a places
    ∷ []

abbrev listed : Call → CallAnswer → List Bool
listed c a = listed_of port2 c a

abbrev from2 : Answer → List Bool
from2 a = listed (take (0x10 ∷ 2 ∷ [])) (taken a)

abbrev bytes23 : ℕ → ℕ → About
bytes23 byte2 byte3 = record { port = 2; byte2 = byte2; byte3 = byte3; start = 4; size = 3 }

abbrev no : List Bool
no = false ∷ false ∷ false ∷ false ∷ false ∷ false ∷ false ∷ false ∷ false ∷ []

abbrev yes_all : List Bool
yes_all = true ∷ true ∷ true ∷ true ∷ true ∷ true ∷ true ∷ true ∷ true ∷ []

-- a long reply on 255 with this first parameter, and then 01 02 03 04
abbrev told : Port → ℕ → List Bool
told p first =
    listed_of p (take (0x11 ∷ 255 ∷ 0x83 ∷ 0xB5 ∷ first ∷ 1 ∷ 2 ∷ 3 ∷ 4 ∷ [])) (taken (reply 0 (record { port = 255; byte2 = 0x83; byte3 = 0xB5; start = 4; size = 16 })))

record Listed : Type 0 where
  first_serial_example : told port2 0x31 ≡ false ∷ false ∷ false ∷ false ∷ false ∷ false ∷ false ∷ true ∷ false ∷ []
  same_serial_example : told (with_serial port2 (Some 0x01020304)) 0x31 ≡ false ∷ false ∷ false ∷ false ∷ false ∷ false ∷ false ∷ true ∷ false ∷ []
  another_serial : told (with_serial port2 (Some 0x04030201)) 0x31 ≡ false ∷ false ∷ false ∷ true ∷ true ∷ true ∷ true ∷ true ∷ true ∷ []
  unpaired_serial : told fresh_port 0x31 ≡ no
  another_parameter : told port2 0x30 ≡ no
  ping : from2 (reply 0 (bytes23 0 0x11)) ≡ false ∷ false ∷ false ∷ false ∷ true ∷ false ∷ false ∷ false ∷ true ∷ []
  get_feature : from2 (reply 0 (bytes23 0 0x01)) ≡ false ∷ false ∷ false ∷ false ∷ false ∷ true ∷ false ∷ false ∷ true ∷ []
  battery : from2 (reply 0 (bytes23 8 0x01)) ≡ false ∷ false ∷ false ∷ false ∷ false ∷ false ∷ true ∷ false ∷ true ∷ []
  other_reply : from2 (reply 0 (bytes23 8 0x11)) ≡ false ∷ false ∷ false ∷ false ∷ false ∷ false ∷ false ∷ false ∷ true ∷ []
  other_port : listed (take (0x10 ∷ 3 ∷ [])) (taken (reply 0 (bytes23 0 0x11))) ≡ no
  stray : from2 (stray (bytes23 0 0x11)) ≡ no
  plain : from2 (plain (bytes23 0x41 0)) ≡ no
  battery_event : from2 (event (bytes23 8 0)) ≡ false ∷ false ∷ false ∷ false ∷ false ∷ false ∷ true ∷ false ∷ false ∷ []
  link_event : from2 (event (bytes23 9 0)) ≡ false ∷ false ∷ false ∷ true ∷ false ∷ false ∷ false ∷ false ∷ false ∷ []
  other_event : from2 (event (bytes23 8 0x10)) ≡ no
  version1 : from2 (failed (bytes23 0 0x11) 1 0x8F) ≡ false ∷ false ∷ false ∷ false ∷ true ∷ false ∷ false ∷ false ∷ true ∷ []
  code2 : from2 (failed (bytes23 0 0x11) 2 0x8F) ≡ false ∷ false ∷ false ∷ false ∷ false ∷ false ∷ false ∷ false ∷ true ∷ []
  kind_ff : from2 (failed (bytes23 0 0x11) 1 0xFF) ≡ false ∷ false ∷ false ∷ false ∷ false ∷ false ∷ false ∷ false ∷ true ∷ []
  radio : from2 (radio 2 3 7) ≡ false ∷ false ∷ false ∷ true ∷ false ∷ false ∷ false ∷ false ∷ false ∷ []
  refused : from2 (refused 8) ≡ no
  unpaired : from2 (notice (unpaired 2 0)) ≡ yes_all
  same : from2 (notice (paired 2 false 0x2010 0x1E 0)) ≡ false ∷ false ∷ true ∷ false ∷ false ∷ false ∷ false ∷ false ∷ false ∷ []
  another : from2 (notice (paired 2 false 0x2011 0x1E 0)) ≡ yes_all
  link : from2 (notice (link 2 true)) ≡ false ∷ false ∷ false ∷ true ∷ false ∷ false ∷ false ∷ false ∷ false ∷ []
  other : from2 (notice (other 2 0x43)) ≡ no
  asked : listed (request 2 0 0x11 1 [] 0 []) (written (writing.wrote 7)) ≡ false ∷ false ∷ false ∷ false ∷ false ∷ false ∷ false ∷ false ∷ true ∷ []
  asked_elsewhere : listed (request 3 0 0x11 1 [] 0 []) (written (writing.wrote 7)) ≡ no
  cancelled : listed (cancel 2 0 0x11) (cancelled waiting.done) ≡ false ∷ false ∷ false ∷ false ∷ false ∷ false ∷ false ∷ false ∷ true ∷ []
  ticked : listed tick (ticked []) ≡ false ∷ false ∷ false ∷ false ∷ false ∷ false ∷ false ∷ false ∷ true ∷ []
  writer : listed (write get_paired 0 []) (written (writing.wrote 15)) ≡ no
  reader : listed (restore []) (restoring (refused_at 16 1)) ≡ no

all_listed : Listed
unfolding port2 port255 asked2 with_features with_pairing with_places with_serial fresh_port empty_place first_at given_by report_from
all_listed =
    record {
      first_serial_example = refl;
      same_serial_example = refl;
      another_serial = refl;
      unpaired_serial = refl;
      another_parameter = refl;
      ping = refl;
      get_feature = refl;
      battery = refl;
      other_reply = refl;
      other_port = refl;
      stray = refl;
      plain = refl;
      battery_event = refl;
      link_event = refl;
      other_event = refl;
      version1 = refl;
      code2 = refl;
      kind_ff = refl;
      radio = refl;
      refused = refl;
      unpaired = refl;
      same = refl;
      another = refl;
      link = refl;
      other = refl;
      asked = refl;
      asked_elsewhere = refl;
      cancelled = refl;
      ticked = refl;
      writer = refl;
      reader = refl;
    }
