-- Document 02, Ask 5: each of the cases of padding holds by computation.
use Rattle.std.specs.Prelude.{refl}
use Rattle.report.specs.Sizes.{length_of}
use Rattle.report.specs.Radio.{table_length, payload_length}
use Rattle.report.specs.Reading.{report_from, dj_rule, family_rule, read_rule}
use Rattle.port.specs.Records.{fresh_port, with_pairing, with_link}
use Rattle.dj.specs.DjTaking.{radio_rule, take_dj}
use Rattle.station.specs.Stations.{position_of, fresh_station, with_port}
use Rattle.station.specs.StationTaking.{take_by, take_rule}
use Rattle.cases.specs.LetteredCases.{device2}
use Rattle.cases.specs.PaddingCases.{declaring, down, up, PaddingCases}

pub padding_cases : PaddingCases
unfolding device2 declaring down up length_of table_length payload_length report_from dj_rule family_rule read_rule fresh_port with_pairing with_link radio_rule take_dj position_of fresh_station with_port take_by take_rule
padding_cases =
    record {
      keys = refl;
      movement = refl;
      consumer = refl;
      power = refl;
      media = refl;
      keys_17 = refl;
      movement_17 = refl;
      consumer_17 = refl;
      power_17 = refl;
      media_17 = refl;
      middle_17 = refl;
      last_17 = refl;
      two_17 = refl;
      up_17 = refl;
      long = refl;
      long_first_17 = refl;
      long_fifteenth_17 = refl;
      long_last_17 = refl;
      type0 = refl;
      type5 = refl;
      leds_4 = refl;
      unpaired_7 = refl;
      undeclared_8 = refl;
    }
