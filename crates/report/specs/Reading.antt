-- Document 01, "Report sizes and bytes" and refusals 1 to 6: reading one report without a station.
use Rattle.std.specs.Prelude.{ℕ, ◌-◌, List, Bool, cond, not, ◌&&◌, ◌||◌, length, leb, eqb}
use Rattle.report.specs.Refusals.{empty_report, unknown_id, wrong_length, down_only, no_such_port, reserved_sub_id}
use Rattle.report.specs.Ports.{in_range, is_device, is_port}
use Rattle.report.specs.Sizes.{is_report_id, is_hidpp, length_of, hidpp_start, dj_start, byte, bit}

-- what a report holds: its bytes 0 to 3, and the parameters' start and length. Byte 2 of a DJ report is its type, byte 3 its first parameter
pub record Report : Type 0 where
  pub id : ℕ
  pub device : ℕ
  pub byte2 : ℕ
  pub byte3 : ℕ
  pub start : ℕ
  pub size : ℕ

-- what reading gives: the refusal's number; or the family and what the report holds. An empty list is for no port
pub data Read : Type 0 where
  refused : ℕ → Read
  hidpp : Report → Read
  dj : Report → Read
  empty_list : Report → Read

-- a report whose parameters start here
unfoldable pub report_from : ℕ → List ℕ → Report
report_from start bytes =
    record {
      id = byte bytes 0;
      device = byte bytes 1;
      byte2 = byte bytes 2;
      byte3 = byte bytes 3;
      start = start;
      size = length bytes - start;
    }

-- 0x84 to 0x8E and 0x90 to 0xFE
abbrev pub is_reserved : ℕ → Bool
is_reserved byte2 = in_range 0x84 byte2 0x8E || in_range 0x90 byte2 0xFE

-- a HID++ report of the right length: 5, then 6
unfoldable pub hidpp_rule : Report → Read
hidpp_rule r =
    cond (not (is_port r.device)) (refused no_such_port)
    (cond (is_reserved r.byte2) (refused reserved_sub_id) (hidpp r))

-- a type that only goes down: a command, or the keyboard LEDs
abbrev pub goes_down : ℕ → Bool
goes_down kind = leb 0x80 kind || eqb kind 0x0E

-- a 0x41 with p0 bit 1 set: an empty list
abbrev pub is_empty_list : ℕ → ℕ → Bool
is_empty_list kind p0 = eqb kind 0x41 && bit 1 p0

-- radio reports, 0x40, 0x41 and 0x42 take 1 to 6; 0x43 to 0x7F take 255 too
abbrev pub has_port : ℕ → ℕ → Bool
has_port device kind = cond (leb kind 0x42) (is_device device) (is_port device)

-- a DJ report of the right length: 4, then 5, before which an empty list is answered
unfoldable pub dj_rule : Report → Read
dj_rule r =
    cond (goes_down r.byte2) (refused down_only)
    (cond (is_empty_list r.byte2 r.byte3) (empty_list r)
    (cond (not (has_port r.device r.byte2)) (refused no_such_port) (dj r)))

-- a report of the right length
unfoldable pub family_rule : List ℕ → Read
family_rule bytes =
    cond (is_hidpp (byte bytes 0)) (hidpp_rule (report_from hidpp_start bytes))
    (dj_rule (report_from dj_start bytes))

-- every byte string
unfoldable pub read_rule : List ℕ → Read
read_rule bytes =
    cond (eqb (length bytes) 0) (refused empty_report)
    (cond (not (is_report_id (byte bytes 0))) (refused unknown_id)
    (cond (not (eqb (length bytes) (length_of (byte bytes 0)))) (refused wrong_length)
    (family_rule bytes)))
