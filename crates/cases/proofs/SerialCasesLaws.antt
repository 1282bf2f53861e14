-- Document 02, Ask 1: each of the cases of a serial holds by computation.
use Rattle.std.specs.Prelude.{refl}
use Rattle.report.specs.Sizes.{length_of}
use Rattle.report.specs.Reading.{report_from, hidpp_rule, dj_rule, family_rule, read_rule}
use Rattle.frame.specs.Forbidden.{is_forbidden_frame}
use Rattle.port.specs.Records.{fresh_port, made_fresh, empty_place, with_version, with_battery, with_serial, with_features, with_places, with_link, with_pairing}
use Rattle.port.specs.Places.{first_at, sum_over}
use Rattle.port.specs.Waiting.{ended_at, room_for}
use Rattle.matching.specs.Messages.{message_of}
use Rattle.hidpp.specs.HidppRecords.{after_reply}
use Rattle.hidpp.specs.HidppTaking.{reply_rule, take_hidpp}
use Rattle.serial.specs.Serials.{given_by, serial_rule}
use Rattle.dj.specs.DjTaking.{paired_rule, take_dj}
use Rattle.request.specs.Requesting.{waiting_request, request_by, request_at}
use Rattle.station.specs.Stations.{position_of, fresh_station, with_port}
use Rattle.station.specs.StationTaking.{take_by, take_rule}
use Rattle.station.specs.StationCalls.{request_rule}
use Rattle.cases.specs.LetteredCases.{nine_lent, waiting_port}
use Rattle.cases.specs.SerialCases.{paired_keyboard, serial_asked, serial_reply, known, used_keyboard, SerialCases}

pub serial_cases : SerialCases
unfolding nine_lent waiting_port paired_keyboard serial_asked serial_reply known used_keyboard length_of report_from hidpp_rule dj_rule family_rule read_rule is_forbidden_frame fresh_port made_fresh empty_place with_version with_battery with_serial with_features with_places with_link with_pairing first_at sum_over ended_at room_for after_reply message_of reply_rule take_hidpp given_by serial_rule paired_rule take_dj waiting_request request_by request_at position_of fresh_station with_port take_by take_rule request_rule
serial_cases = record { pairing = refl; request = refl; reply = refl; same = refl; twin = refl }
