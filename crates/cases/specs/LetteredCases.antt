-- Document 01, "Lettered cases": all except n and p, which are run. Each is the whole outcome, by the definitions that the contracts cite.
use Rattle.std.specs.Prelude.{ℕ, ◌≡◌, false, List, [], ◌∷◌, replicate, set, pos, negsuc, Some}
use Rattle.frame.specs.Writing as writing
use Rattle.mouse.specs.Movement as mouse
use Rattle.port.specs.declared.Port.{Port}
use Rattle.port.specs.Records.{fresh_port, with_version, with_places, with_pairing}
use Rattle.port.specs.Answers as answers
use Rattle.request.specs.Requesting.{waiting_request}
use Rattle.station.specs.declared.Station.{Station}
use Rattle.station.specs.Stations.{fresh_station, with_port}
use Rattle.station.specs.StationTaking.{TakeOutcome, take_rule}
use Rattle.station.specs.StationCalls.{RequestOutcome, request_rule, tick_all}

-- nine lent bytes
unfoldable pub nine_lent : List ℕ
nine_lent = replicate 9 0xEE

-- a fresh port with this request in its lowest place
unfoldable pub waiting_port : (byte2 byte3 ticks : ℕ) → List ℕ → Port
waiting_port byte2 byte3 ticks params =
    with_places fresh_port (set fresh_port.places 0 (waiting_request byte2 byte3 ticks params))

-- a fresh station with this port for device 2
unfoldable pub device2 : Port → Station
device2 port = with_port fresh_station 1 port

-- what a short report's answer carries
abbrev pub about_short : (port byte2 byte3 : ℕ) → answers.About
about_short port byte2 byte3 = record { port = port; byte2 = byte2; byte3 = byte3; start = 4; size = 3 }

abbrev pub taken : answers.Answer → Station → TakeOutcome
taken answer st = record { answer = answer; station = st }

-- the request of cases c, d and e: port 2, bytes 00 11, parameters 00 00 5A
unfoldable pub ping : RequestOutcome
ping = request_rule fresh_station 2 0x00 0x11 10 (0x00 ∷ 0x00 ∷ 0x5A ∷ []) 1 nine_lent

-- the station where it waits
unfoldable pub pinged : Station
pinged = device2 (waiting_port 0x00 0x11 10 (0x00 ∷ 0x00 ∷ 0x5A ∷ []))

-- the report of case f, the station after it, and the report of case g
unfoldable pub pairing : List ℕ
pairing = 0x20 ∷ 0x02 ∷ 0x41 ∷ 0x00 ∷ 0x10 ∷ 0x20 ∷ 0x0E ∷ replicate 8 0

unfoldable pub paired : Station
paired = device2 (with_pairing fresh_port 0x2010 0x0E)

unfoldable pub power : List ℕ
power = 0x20 ∷ 0x02 ∷ 0x04 ∷ 0x01 ∷ replicate 11 0

-- a request of case j: port 1, function 2 of a feature, one tick
unfoldable pub ask : Station → ℕ → RequestOutcome
ask st index = request_rule st 1 index 0x21 1 (0x00 ∷ 0x00 ∷ 0x00 ∷ []) 0 nine_lent

unfoldable pub four : Station
four = (ask (ask (ask (ask fresh_station 1).station 2).station 3).station 4).station

pub record LetteredCases : Type 0 where
  pub a : take_rule fresh_station [] ≡ taken (answers.refused 1) fresh_station
  pub b : take_rule fresh_station (0x10 ∷ 0x01 ∷ 0x00 ∷ 0x13 ∷ 0x00 ∷ 0x00 ∷ []) ≡ taken (answers.refused 3) fresh_station
  pub c_request : ping ≡ record { answer = writing.wrote 7; station = pinged; lent = 0xEE ∷ 0x10 ∷ 0x02 ∷ 0x00 ∷ 0x11 ∷ 0x00 ∷ 0x00 ∷ 0x5A ∷ 0xEE ∷ [] }
  pub c_reply : take_rule pinged (0x10 ∷ 0x02 ∷ 0x00 ∷ 0x11 ∷ 0x02 ∷ 0x00 ∷ 0x5A ∷ []) ≡ taken (answers.reply 0 (about_short 2 0x00 0x11)) (device2 (with_version fresh_port (Some (record { major = 2; minor = 0 }))))
  pub d : take_rule pinged (0x10 ∷ 0x03 ∷ 0x00 ∷ 0x11 ∷ 0x02 ∷ 0x00 ∷ 0x5A ∷ []) ≡ taken (answers.stray (about_short 3 0x00 0x11)) pinged
  pub e : take_rule pinged (0x10 ∷ 0x02 ∷ 0x8F ∷ 0x00 ∷ 0x11 ∷ 0x01 ∷ 0x00 ∷ []) ≡ taken (answers.failed (about_short 2 0x00 0x11) 1 0x8F) (device2 (with_version fresh_port (Some (record { major = 1; minor = 0 }))))
  pub f : take_rule fresh_station pairing ≡ taken (answers.notice (answers.paired 2 false 0x2010 0x0E 0)) paired
  pub g : take_rule paired power ≡ taken (answers.refused 8) paired
  pub g_unpaired : take_rule fresh_station power ≡ taken (answers.refused 7) fresh_station
  pub h : mouse.mouse_rule (0x01 ∷ 0x00 ∷ 0xFF ∷ 0x1F ∷ 0x00 ∷ 0x01 ∷ 0xFF ∷ []) ≡ mouse.moved 1 (negsuc 0) (pos 1) (pos 1) (negsuc 0)
  pub i : mouse.mouse_rule (0x00 ∷ 0x00 ∷ 0x00 ∷ 0x08 ∷ 0x00 ∷ 0x00 ∷ 0x00 ∷ []) ≡ mouse.moved 0 (negsuc 2047) (pos 0) (pos 0) (pos 0)
  pub j_fifth : ask four 5 ≡ record { answer = writing.refused 12; station = four; lent = nine_lent }
  pub j_tick : tick_all four ≡ record { ended = 4 ∷ 0 ∷ 0 ∷ 0 ∷ 0 ∷ 0 ∷ 0 ∷ []; station = fresh_station }
  pub j_after : ask fresh_station 5 ≡ record { answer = writing.wrote 7; station = with_port fresh_station 0 (waiting_port 5 0x21 1 (0x00 ∷ 0x00 ∷ 0x00 ∷ [])); lent = 0x10 ∷ 0x01 ∷ 0x05 ∷ 0x21 ∷ 0x00 ∷ 0x00 ∷ 0x00 ∷ 0xEE ∷ 0xEE ∷ [] }
  pub k : take_rule fresh_station (0x20 ∷ 0x09 ∷ 0x41 ∷ 0x02 ∷ replicate 11 0) ≡ taken (answers.notice answers.empty_list) fresh_station
  pub m : writing.switch_rule 0x03 0x0A 0 (replicate 15 0xEE) ≡ record { answer = writing.wrote 15; lent = 0x20 ∷ 0xFF ∷ 0x80 ∷ 0x03 ∷ 0x0A ∷ replicate 10 0 }
