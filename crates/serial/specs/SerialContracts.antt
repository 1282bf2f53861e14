-- Helpers of contracts: what the program finds of a serial, in the terms of the rules.
use Rattle.std.specs.Prelude.{ℕ, Option, Some, None}
use Rattle.port.specs.declared.Called.{Called}
use Rattle.port.specs.declared.Port.{Port}
use Rattle.serial.specs.Serials as rules
use Rattle.serial.specs.declared.Given.{Given}

abbrev pub given_of : Option Given → rules.Given
given_of None = rules.no_serial
given_of (Some g) = rules.serial_of g.device.0 g.number

abbrev pub kept_of : Called ℕ Port → rules.SerialResult
kept_of k = record { dropped = k.answer; port = k.next }
