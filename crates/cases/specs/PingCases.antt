-- Document 02, Ask 2: a slow console pings device 2 with 5A, which expires, and again with 5B; the answer to 5A comes late. Then what is compared and what is not. Each is the whole outcome, by the definitions that the contracts cite.
use Rattle.std.specs.Prelude.{ℕ, ◌≡◌, List, [], ◌∷◌, replicate, set, Some}
use Rattle.frame.specs.Writing as writing
use Rattle.port.specs.declared.Port.{Port}
use Rattle.port.specs.Records.{fresh_port, with_version, with_places}
use Rattle.port.specs.Answers as answers
use Rattle.request.specs.Requesting.{waiting_request}
use Rattle.station.specs.declared.Station.{Station}
use Rattle.station.specs.Stations.{fresh_station, with_port}
use Rattle.station.specs.StationTaking.{take_rule}
use Rattle.station.specs.StationCalls.{request_rule, tick_all}
use Rattle.cases.specs.LetteredCases.{nine_lent, waiting_port, device2, about_short, taken}

-- a fresh port where a ping with this third parameter waits
unfoldable pub pinged_with : (ticks third : ℕ) → Port
pinged_with ticks third = waiting_port 0x00 0x11 ticks (0x00 ∷ 0x00 ∷ third ∷ [])

-- the station where the second ping waits
unfoldable pub slow : Station
slow = device2 (pinged_with 50 0x5B)

-- a short report with these parameters, bytes 2 and 3 those of the pings
unfoldable pub ping_reply : (first second third : ℕ) → List ℕ
ping_reply first second third = 0x10 ∷ 0x02 ∷ 0x00 ∷ 0x11 ∷ first ∷ second ∷ third ∷ []

-- the version that a port has
unfoldable pub of_version : (major minor : ℕ) → Port → Port
of_version major minor port = with_version port (Some (record { major = major; minor = minor }))

-- a fresh station with this port for device 3
unfoldable pub device3 : Port → Station
device3 port = with_port fresh_station 2 port

-- a fresh port where a long ping waits, and a long report for it
unfoldable pub long_ping : Port
long_ping =
    waiting_port 0x00 0x1F 50 (0x01 ∷ 0x02 ∷ 0x03 ∷ 0x04 ∷ 0x05 ∷ 0x06 ∷ 0x07 ∷ 0x08 ∷ 0x09 ∷ 0x0A ∷ 0x0B ∷ 0x0C ∷ 0x0D ∷ 0x0E ∷ 0x0F ∷ 0x10 ∷ [])

unfoldable pub long_reply : (first second third : ℕ) → List ℕ
long_reply first second third = 0x11 ∷ 0x03 ∷ 0x00 ∷ 0x1F ∷ first ∷ second ∷ third ∷ replicate 13 0x03

abbrev pub about_long : answers.About
about_long = record { port = 3; byte2 = 0x00; byte3 = 0x1F; start = 4; size = 16 }

-- two pings of device 2, with 5A and byte 3 as given, and with 5B and byte 3 = 11
unfoldable pub two_pings : ℕ → Station
two_pings byte3 =
    device2 (with_places fresh_port (set (set fresh_port.places 0 (waiting_request 0x00 byte3 50 (0x00 ∷ 0x00 ∷ 0x5A ∷ []))) 1 (waiting_request 0x00 0x11 50 (0x00 ∷ 0x00 ∷ 0x5B ∷ []))))

pub record PingCases : Type 0 where
  -- the first ping waits for one tick, and expires; the second waits
  pub first : request_rule fresh_station 2 0x00 0x11 1 (0x00 ∷ 0x00 ∷ 0x5A ∷ []) 1 nine_lent ≡ record { answer = writing.wrote 7; station = device2 (pinged_with 1 0x5A); lent = 0xEE ∷ 0x10 ∷ 0x02 ∷ 0x00 ∷ 0x11 ∷ 0x00 ∷ 0x00 ∷ 0x5A ∷ 0xEE ∷ [] }
  pub expires : tick_all (device2 (pinged_with 1 0x5A)) ≡ record { ended = 0 ∷ 1 ∷ 0 ∷ 0 ∷ 0 ∷ 0 ∷ 0 ∷ []; station = fresh_station }
  pub second : request_rule fresh_station 2 0x00 0x11 50 (0x00 ∷ 0x00 ∷ 0x5B ∷ []) 1 nine_lent ≡ record { answer = writing.wrote 7; station = slow; lent = 0xEE ∷ 0x10 ∷ 0x02 ∷ 0x00 ∷ 0x11 ∷ 0x00 ∷ 0x00 ∷ 0x5B ∷ 0xEE ∷ [] }
  -- the answer to the first one is stray, and the second waits on; its own answer sets the version
  pub late : take_rule slow (ping_reply 0x02 0x00 0x5A) ≡ taken (answers.stray (about_short 2 0x00 0x11)) slow
  pub answered : take_rule slow (ping_reply 0x04 0x02 0x5B) ≡ taken (answers.reply 0 (about_short 2 0x00 0x11)) (device2 (of_version 4 2 fresh_port))
  -- once more: none waits
  pub again : take_rule (device2 (of_version 4 2 fresh_port)) (ping_reply 0x02 0x00 0x5A) ≡ taken (answers.stray (about_short 2 0x00 0x11)) (device2 (of_version 4 2 fresh_port))
  -- neither the second parameter nor the software id is compared
  pub elsewhere : take_rule slow (ping_reply 0x5B 0x5B 0x01) ≡ taken (answers.stray (about_short 2 0x00 0x11)) slow
  -- version 1.0: stray where a ping waits, and a plain notice where none does
  pub major1 : take_rule (device2 (of_version 1 0 (pinged_with 50 0x5B))) (ping_reply 0x02 0x00 0x5A) ≡ taken (answers.stray (about_short 2 0x00 0x11)) (device2 (of_version 1 0 (pinged_with 50 0x5B)))
  pub major1_none : take_rule (device2 (of_version 1 0 fresh_port)) (ping_reply 0x02 0x00 0x5A) ≡ taken (answers.plain (about_short 2 0x00 0x11)) (device2 (of_version 1 0 fresh_port))
  -- a long ping: the third of sixteen
  pub long : take_rule (device3 long_ping) (long_reply 0x04 0x02 0x03) ≡ taken (answers.reply 0 about_long) (device3 (of_version 4 2 fresh_port))
  pub long_other : take_rule (device3 long_ping) (long_reply 0x04 0x02 0x04) ≡ taken (answers.stray about_long) (device3 long_ping)
  -- the receiver's pings too
  pub receiver : take_rule (with_port fresh_station 6 (pinged_with 50 0x5B)) (0x10 ∷ 0xFF ∷ 0x00 ∷ 0x11 ∷ 0x02 ∷ 0x00 ∷ 0x5A ∷ []) ≡ taken (answers.stray (about_short 255 0x00 0x11)) (with_port fresh_station 6 (pinged_with 50 0x5B))
  -- where two pings wait, by two software ids, a report answers none but its own
  pub two : take_rule (two_pings 0x12) (ping_reply 0x02 0x00 0x5A) ≡ taken (answers.stray (about_short 2 0x00 0x11)) (two_pings 0x12)
  -- with the same bytes 2 and 3 two cannot wait on a port that calls reach; of such, the one with the report's byte is answered
  pub twins : take_rule (two_pings 0x11) (ping_reply 0x04 0x02 0x5B) ≡ taken (answers.reply 0 (about_short 2 0x00 0x11)) (device2 (of_version 4 2 (pinged_with 50 0x5A)))
  -- function 0 of byte 2 = 0, and function 1 of a feature, are answered whatever the third parameter is
  pub feature : take_rule (device2 (waiting_port 0x00 0x01 50 (0x12 ∷ 0x34 ∷ 0x77 ∷ []))) (0x10 ∷ 0x02 ∷ 0x00 ∷ 0x01 ∷ 0x06 ∷ 0x00 ∷ 0x00 ∷ []) ≡ taken (answers.reply 0 (about_short 2 0x00 0x01)) (device2 fresh_port)
  pub function1 : take_rule (device2 (waiting_port 0x06 0x11 50 (0x00 ∷ 0x00 ∷ 0x77 ∷ []))) (0x10 ∷ 0x02 ∷ 0x06 ∷ 0x11 ∷ 0x00 ∷ 0x00 ∷ 0x00 ∷ []) ≡ taken (answers.reply 0 (about_short 2 0x06 0x11)) (device2 fresh_port)
  -- errors carry no ping byte
  pub error : take_rule slow (0x10 ∷ 0x02 ∷ 0x8F ∷ 0x00 ∷ 0x11 ∷ 0x01 ∷ 0x00 ∷ []) ≡ taken (answers.failed (about_short 2 0x00 0x11) 1 0x8F) (device2 (of_version 1 0 fresh_port))
