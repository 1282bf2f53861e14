-- Helpers of contracts: what the program finds at a HID++ report, in the terms of the rules.
use Rattle.std.specs.Prelude.{ℕ, cond, ltb, Option, Some, None, Ok}
use Rattle.port.specs.declared.Port.{Port}
use Rattle.port.specs.declared.answer.Taken.{Taken}
use Rattle.port.specs.Records.{feature_count, slot_of}
use Rattle.port.specs.Answers.{Result}
use Rattle.port.specs.PortContracts.{taken_of}
use Rattle.hidpp.specs.HidppTaking.{is_error, unchanged}

-- the slot of a known feature, or nothing where the rules have the number of slots
unfoldable pub slot_found : ℕ → Option ℕ
slot_found feature = cond (ltb (slot_of feature) feature_count) (Some (slot_of feature)) None

-- byte 2, where it is that of an error
abbrev pub error_found : ℕ → Option ℕ
error_found byte2 = cond (is_error byte2) (Some byte2) None

-- an answer of the program that leaves the port as it is
abbrev pub unchanged_by : Taken → Port → Result
unchanged_by answer p = unchanged (taken_of (Ok answer)) p
