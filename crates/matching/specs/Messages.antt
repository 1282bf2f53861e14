-- Document 01, "Report sizes and bytes" and "Taking a HID++ report": what the rules look at in a HID++ report.
use Rattle.std.specs.Prelude.{ℕ, ◌+◌, List}
use Rattle.report.specs.Sizes.{byte, hidpp_start}
use Rattle.report.specs.Reading.{Report}
use Rattle.matching.specs.declared.Message.{Message}

-- a parameter, counted from 0
abbrev pub parameter : List ℕ → ℕ → ℕ
parameter bytes i = byte bytes (hidpp_start + i)

-- what the rules look at in a HID++ report
unfoldable pub message_of : Report → List ℕ → Message
message_of r bytes =
    record {
      device = record { 0 = r.device };
      byte2 = record { 0 = r.byte2 };
      byte3 = r.byte3;
      length = r.size;
      first = record { 0 = parameter bytes 0; 1 = parameter bytes 1; 2 = parameter bytes 2 };
    }
