-- Document 01, "Lettered cases": each of them holds by computation.
use Rattle.std.specs.Prelude.{refl}
use Rattle.report.specs.Sizes.{length_of}
use Rattle.report.specs.Radio.{table_length, payload_length}
use Rattle.report.specs.Reading.{report_from, hidpp_rule, dj_rule, family_rule, read_rule}
use Rattle.frame.specs.Forbidden.{is_forbidden_frame}
use Rattle.frame.specs.Writing as writing
use Rattle.mouse.specs.Movement as mouse
use Rattle.port.specs.Records.{fresh_port, made_fresh, empty_place, with_version, with_battery, with_features, with_places, with_link, with_reports, with_pairing}
use Rattle.port.specs.Places.{first_at, sum_over}
use Rattle.port.specs.Ticks.{after_tick, tick_rule}
use Rattle.port.specs.Waiting.{ended_at, room_for}
use Rattle.matching.specs.Messages.{message_of}
use Rattle.hidpp.specs.HidppRecords.{index_from, with_found_feature, with_battery_from, after_reply, after_error, after_battery_event, after_wireless_event, after_event}
use Rattle.hidpp.specs.HidppTaking.{error_rule, reply_rule, feature_rule, unasked_rule, unanswered_rule, take_hidpp}
use Rattle.serial.specs.Serials.{given_by}
use Rattle.dj.specs.DjTaking.{radio_rule, unpaired_rule, paired_rule, link_rule, other_rule, take_dj}
use Rattle.request.specs.Requesting.{waiting_request, request_by, request_at}
use Rattle.station.specs.Stations.{position_of, fresh_station, with_port}
use Rattle.station.specs.StationTaking.{take_by, take_rule}
use Rattle.station.specs.StationCalls.{request_rule, ticked_port, ended_on, tick_all}
use Rattle.cases.specs.LetteredCases.{nine_lent, waiting_port, device2, ping, pinged, pairing, paired, power, ask, four, LetteredCases}

pub lettered_cases : LetteredCases
unfolding nine_lent waiting_port device2 ping pinged pairing paired power ask four length_of table_length payload_length report_from hidpp_rule dj_rule family_rule read_rule is_forbidden_frame writing.frame_at writing.switch_rule mouse.mouse_rule mouse.signed fresh_port made_fresh empty_place with_version with_battery with_features with_places with_link with_reports with_pairing first_at sum_over after_tick tick_rule ended_at room_for index_from with_found_feature with_battery_from after_reply after_error after_battery_event after_wireless_event after_event message_of error_rule reply_rule feature_rule unasked_rule unanswered_rule take_hidpp given_by radio_rule unpaired_rule paired_rule link_rule other_rule take_dj waiting_request request_by request_at position_of fresh_station with_port take_by take_rule request_rule ticked_port ended_on tick_all
lettered_cases =
    record {
      a = refl;
      b = refl;
      c_request = refl;
      c_reply = refl;
      d = refl;
      e = refl;
      f = refl;
      g = refl;
      g_unpaired = refl;
      h = refl;
      i = refl;
      j_fifth = refl;
      j_tick = refl;
      j_after = refl;
      k = refl;
      m = refl;
    }
