-- Document 01, "Report sizes and bytes" and "Refusal numbers" (1 to 6): what is known of a report that is read.
use Rattle.std.specs.Prelude.{ℕ, ◌≡◌, true, false, List, leb}
use Rattle.report.specs.Ports.{is_port}
use Rattle.report.specs.Sizes.{hidpp_start, dj_start}
use Rattle.report.specs.Reading as reading
use Rattle.report.specs.Reading.{Read, report_from, is_reserved, goes_down, is_empty_list, has_port}

-- a refusal's number is at most 6; a HID++ report names a port, and its byte 2 is not reserved; a DJ report's type comes up, and its port takes it; an empty list is one. What is read is what the bytes say
abbrev pub ReadFits : List ℕ → Read → Type 0
ReadFits bytes (reading.refused number) = leb number 6 ≡ true
ReadFits bytes (reading.hidpp r) =
    (is_port r.device ≡ true) × ((is_reserved r.byte2 ≡ false) × (r ≡ report_from hidpp_start bytes))
ReadFits bytes (reading.dj r) =
    (goes_down r.byte2 ≡ false) × ((has_port r.device r.byte2 ≡ true) × (r ≡ report_from dj_start bytes))
ReadFits bytes (reading.empty_list r) = (is_empty_list r.byte2 r.byte3 ≡ true) × (r ≡ report_from dj_start bytes)
