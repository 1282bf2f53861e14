-- Document 02, Ask 5: radio reports with rubbish behind the payload, and without. Each is the whole outcome, by the definitions that the contracts cite.
use Rattle.std.specs.Prelude.{ℕ, ◌≡◌, true, List, ◌∷◌, ◌++◌, replicate}
use Rattle.port.specs.declared.Port.{Port}
use Rattle.port.specs.Records.{fresh_port, with_pairing, with_link}
use Rattle.port.specs.Answers as answers
use Rattle.station.specs.declared.Station.{Station}
use Rattle.station.specs.Stations.{fresh_station}
use Rattle.station.specs.StationTaking.{take_rule}
use Rattle.cases.specs.LetteredCases.{device2, taken}

-- device 2 declares types 0 to 5 and 8; its link is down, or up
unfoldable pub declaring : Port
declaring = with_pairing fresh_port 0x2010 0x013F

unfoldable pub down : Station
down = device2 declaring

unfoldable pub up : Station
up = device2 (with_link declaring true)

-- a short report, and a long one, of device 2: the type, and what follows it
abbrev pub short_radio : ℕ → List ℕ → List ℕ
short_radio kind following = 0x20 ∷ 0x02 ∷ kind ∷ following

abbrev pub long_radio : ℕ → List ℕ → List ℕ
long_radio kind following = 0x21 ∷ 0x02 ∷ kind ∷ following

-- zeros with one other byte after this many of them
abbrev pub one_of : ℕ → ℕ → ℕ → List ℕ
one_of before other after = replicate before 0 ++ other ∷ replicate after 0

pub record PaddingCases : Type 0 where
  -- the payload may hold anything, and zeros follow it
  pub keys : take_rule down (short_radio 1 (replicate 7 0xFF ++ replicate 5 0)) ≡ taken (answers.radio 1 3 7) up
  pub movement : take_rule down (short_radio 2 (replicate 7 0xFF ++ replicate 5 0)) ≡ taken (answers.radio 2 3 7) up
  pub consumer : take_rule down (short_radio 3 (replicate 4 0xFF ++ replicate 8 0)) ≡ taken (answers.radio 3 3 4) up
  pub power : take_rule down (short_radio 4 (0xFF ∷ replicate 11 0)) ≡ taken (answers.radio 4 3 1) up
  pub media : take_rule down (short_radio 8 (0xFF ∷ replicate 11 0)) ≡ taken (answers.radio 8 3 1) up
  -- the first byte behind the payload, of each type: refused, and the link stays down
  pub keys_17 : take_rule down (short_radio 1 (one_of 7 0x80 4)) ≡ taken (answers.refused 17) down
  pub movement_17 : take_rule down (short_radio 2 (one_of 7 0x80 4)) ≡ taken (answers.refused 17) down
  pub consumer_17 : take_rule down (short_radio 3 (one_of 4 0x80 7)) ≡ taken (answers.refused 17) down
  pub power_17 : take_rule down (short_radio 4 (one_of 1 0x80 10)) ≡ taken (answers.refused 17) down
  pub media_17 : take_rule down (short_radio 8 (one_of 1 0x80 10)) ≡ taken (answers.refused 17) down
  -- one in the middle; the last; two that would cancel in a sum of bytes; and where the link is up, it stays up
  pub middle_17 : take_rule down (short_radio 1 (one_of 9 0x01 2)) ≡ taken (answers.refused 17) down
  pub last_17 : take_rule down (short_radio 1 (one_of 11 0x01 0)) ≡ taken (answers.refused 17) down
  pub two_17 : take_rule down (short_radio 1 (replicate 7 0 ++ 0x80 ∷ 0x80 ∷ replicate 3 0)) ≡ taken (answers.refused 17) down
  pub up_17 : take_rule up (short_radio 1 (one_of 11 0x01 0)) ≡ taken (answers.refused 17) up
  -- the long report: behind its fifteenth byte too, to the last
  pub long : take_rule down (long_radio 1 (replicate 7 0xFF ++ replicate 22 0)) ≡ taken (answers.radio 1 3 7) up
  pub long_first_17 : take_rule down (long_radio 1 (one_of 7 0x01 21)) ≡ taken (answers.refused 17) down
  pub long_fifteenth_17 : take_rule down (long_radio 1 (one_of 12 0x01 16)) ≡ taken (answers.refused 17) down
  pub long_last_17 : take_rule down (long_radio 8 (one_of 28 0x01 0)) ≡ taken (answers.refused 17) down
  -- types without padding: all that follows is the payload
  pub type0 : take_rule down (short_radio 0 (replicate 12 0xFF)) ≡ taken (answers.radio 0 3 12) up
  pub type5 : take_rule down (long_radio 5 (replicate 29 0xFF)) ≡ taken (answers.radio 5 3 29) up
  -- 4, 7 and 8 come before it
  pub leds_4 : take_rule down (short_radio 14 (replicate 12 0xFF)) ≡ taken (answers.refused 4) down
  pub unpaired_7 : take_rule fresh_station (short_radio 1 (replicate 12 0xFF)) ≡ taken (answers.refused 7) fresh_station
  pub undeclared_8 : take_rule (device2 (with_pairing fresh_port 0x2010 0x013D)) (short_radio 1 (replicate 12 0xFF)) ≡ taken (answers.refused 8) (device2 (with_pairing fresh_port 0x2010 0x013D))
