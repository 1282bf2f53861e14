-- Document 02, Ask 1: a device's serial, which the receiver gives out of its long register B5.
use Rattle.std.specs.Prelude.{ℕ, suc, ◌+◌, ◌-◌, Bool, false, cond, not, ◌&&◌, List, eqb, Option, Some, None}
use Rattle.report.specs.Ports.{device_count, receiver, in_range}
use Rattle.report.specs.Sizes.{hidpp_long, joined4}
use Rattle.report.specs.Reading.{Report}
use Rattle.port.specs.declared.Port.{Port}
use Rattle.port.specs.Records.{made_fresh, request_in, with_pairing, with_serial}
use Rattle.port.specs.Places.{count_waiting}
use Rattle.port.specs.Waiting.{waiting_at, is_found}
use Rattle.matching.specs.Messages.{parameter}

-- byte 2 of a request that reads a long register, and byte 3, the register
abbrev pub long_register : ℕ
long_register = 0x83

abbrev pub serial_register : ℕ
serial_register = 0xB5

-- the first parameter for a device
abbrev pub parameter_for : ℕ → ℕ
parameter_for device = 0x30 + device - 1

-- the device that such a parameter is for
abbrev pub device_for : ℕ → ℕ
device_for first = suc (first - parameter_for 1)

abbrev pub is_for_device : ℕ → Bool
is_for_device first = in_range (parameter_for 1) first (parameter_for device_count)

-- a long report of that register, on port 255
abbrev pub is_serial_report : Report → Bool
is_serial_report r =
    eqb r.device receiver && (eqb r.id hidpp_long && (eqb r.byte2 long_register && eqb r.byte3 serial_register))

-- where a request for that register waits on a port
abbrev pub serial_place : Port → ℕ
serial_place p = waiting_at p long_register serial_register

-- such a request waits there, and its first parameter is this one
abbrev pub is_asked_with : Port → ℕ → Bool
is_asked_with p first =
    is_found (serial_place p) && eqb (request_in p.places (serial_place p)).first.0 first

-- a report gives no serial, or the serial of a device
pub data Given : Type 0 where
  no_serial : Given
  serial_of : (device number : ℕ) → Given

-- the four bytes after the first parameter, the most significant first
abbrev pub serial_in : List ℕ → ℕ
serial_in bytes = joined4 (parameter bytes 4) (parameter bytes 3) (parameter bytes 2) (parameter bytes 1)

-- a long reply on port 255, which is p before it, to such a request with the same first parameter gives that device's serial; no other report gives one
unfoldable pub given_by : Port → Report → List ℕ → Given
given_by p r bytes =
    cond (is_serial_report r && (is_for_device (parameter bytes 0) && is_asked_with p (parameter bytes 0)))
    (serial_of (device_for (parameter bytes 0)) (serial_in bytes))
    no_serial

-- a different serial is known
abbrev pub is_another : Option ℕ → ℕ → Bool
is_another None number = false
is_another (Some known) number = not (eqb known number)

-- what a serial does at its device's port: how many requests it drops there, and the port after it
pub record SerialResult : Type 0 where
  pub dropped : ℕ
  pub port : Port

-- a device that is not paired keeps none. Where a different serial was known, the port is first made fresh but for pairing, WPID and bitfield, and its requests are dropped
unfoldable pub serial_rule : Port → ℕ → SerialResult
serial_rule p number =
    cond (not p.paired) (record { dropped = 0; port = p })
    (cond (is_another p.serial number)
    (record {
      dropped = count_waiting p.places;
      port = with_serial (with_pairing (made_fresh p) p.wpid p.reports) (Some number);
    })
    (record { dropped = 0; port = with_serial p (Some number) }))
