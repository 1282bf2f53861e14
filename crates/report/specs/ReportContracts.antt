-- Helpers of contracts: the program's refusals and readings, in the terms of the rules.
use Rattle.std.specs.Prelude.{ℕ, cond, eqb, Option, Some, None, Result, Ok, Err}
use Rattle.report.specs.Refusals.{empty_report, unknown_id, wrong_length, down_only, no_such_port, reserved_sub_id, not_paired, not_declared, forbidden, no_room, already_waiting, places_full, not_waiting, reserved_bits, other_edition, broken_line, dirty_padding}
use Rattle.report.specs.Sizes.{length_of}
use Rattle.report.specs.Reading.{Report, Read, refused, hidpp, dj, empty_list}
use Rattle.report.specs.declared.Refusal.{Refusal}
use Rattle.report.specs.declared.Refusal.TheVariants as refusals
use Rattle.report.specs.declared.HidppReport.{HidppReport}
use Rattle.report.specs.declared.DjReport.{DjReport}
use Rattle.report.specs.declared.Reading.{Reading}
use Rattle.report.specs.declared.Reading.TheVariants.{Hidpp, Dj, EmptyList}

-- the number of each refusal of the program
abbrev pub number_of : Refusal → ℕ
number_of refusals.EmptyReport = empty_report
number_of refusals.UnknownId = unknown_id
number_of refusals.WrongLength = wrong_length
number_of refusals.DownOnly = down_only
number_of refusals.NoSuchPort = no_such_port
number_of refusals.ReservedSubId = reserved_sub_id
number_of refusals.NotPaired = not_paired
number_of refusals.NotDeclared = not_declared
number_of refusals.Forbidden = forbidden
number_of refusals.NoRoom = no_room
number_of refusals.AlreadyWaiting = already_waiting
number_of refusals.PlacesFull = places_full
number_of refusals.NotWaiting = not_waiting
number_of refusals.ReservedBits = reserved_bits
number_of refusals.OtherEdition = other_edition
number_of refusals.BrokenLine = broken_line
number_of refusals.DirtyPadding = dirty_padding

-- what the program holds of a HID++ report, and of a DJ report, whose byte 2 is the type and byte 3 the first parameter
abbrev pub hidpp_of : HidppReport → Report
hidpp_of h =
    record { id = h.id; device = h.device.0; byte2 = h.byte2.0; byte3 = h.byte3; start = h.start; size = h.length }

abbrev pub dj_of : DjReport → Report
dj_of d = record { id = d.id; device = d.device.0; byte2 = d.kind; byte3 = d.p0; start = d.start; size = d.length }

-- the length of a report with this id, or nothing where the rules have 0
abbrev pub length_found : ℕ → Option ℕ
length_found id = cond (eqb (length_of id) 0) None (Some (length_of id))

abbrev pub reading_of : Result Reading Refusal → Read
reading_of (Err r) = refused (number_of r)
reading_of (Ok (Hidpp h)) = hidpp (hidpp_of h)
reading_of (Ok (Dj d)) = dj (dj_of d)
reading_of (Ok (EmptyList d)) = empty_list (dj_of d)
