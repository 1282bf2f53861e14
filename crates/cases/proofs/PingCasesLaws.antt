-- Document 02, Ask 2: each of the cases of a ping holds by computation.
use Rattle.std.specs.Prelude.{refl}
use Rattle.report.specs.Sizes.{length_of}
use Rattle.report.specs.Reading.{report_from, hidpp_rule, family_rule, read_rule}
use Rattle.frame.specs.Forbidden.{is_forbidden_frame}
use Rattle.port.specs.Records.{fresh_port, empty_place, with_version, with_places}
use Rattle.port.specs.Places.{first_at, sum_over}
use Rattle.port.specs.Ticks.{after_tick, tick_rule}
use Rattle.port.specs.Waiting.{ended_at, room_for}
use Rattle.matching.specs.Messages.{message_of}
use Rattle.hidpp.specs.HidppRecords.{with_found_feature, after_reply, after_error}
use Rattle.hidpp.specs.HidppTaking.{error_rule, reply_rule, feature_rule, unasked_rule, unanswered_rule, take_hidpp}
use Rattle.serial.specs.Serials.{given_by}
use Rattle.request.specs.Requesting.{waiting_request, request_by, request_at}
use Rattle.station.specs.Stations.{position_of, fresh_station, with_port}
use Rattle.station.specs.StationTaking.{take_by, take_rule}
use Rattle.station.specs.StationCalls.{request_rule, ticked_port, ended_on, tick_all}
use Rattle.cases.specs.LetteredCases.{nine_lent, waiting_port, device2}
use Rattle.cases.specs.PingCases.{pinged_with, slow, ping_reply, of_version, device3, long_ping, long_reply, two_pings, PingCases}

pub ping_cases : PingCases
unfolding nine_lent waiting_port device2 pinged_with slow ping_reply of_version device3 long_ping long_reply two_pings length_of report_from hidpp_rule family_rule read_rule is_forbidden_frame fresh_port empty_place with_version with_places first_at sum_over after_tick tick_rule ended_at room_for with_found_feature after_reply after_error message_of error_rule reply_rule feature_rule unasked_rule unanswered_rule take_hidpp given_by waiting_request request_by request_at position_of fresh_station with_port take_by take_rule request_rule ticked_port ended_on tick_all
ping_cases =
    record {
      first = refl;
      expires = refl;
      second = refl;
      late = refl;
      answered = refl;
      again = refl;
      elsewhere = refl;
      major1 = refl;
      major1_none = refl;
      long = refl;
      long_other = refl;
      receiver = refl;
      two = refl;
      twins = refl;
      feature = refl;
      function1 = refl;
      error = refl;
    }
