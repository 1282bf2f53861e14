-- Document 02, Ask 1, in its words: a long reply on port 255 to a waiting request for register B5 with first parameter 0x30 + device − 1, with the same first parameter, gives that device's serial, the next four bytes.
use Rattle.std.specs.Prelude.{ℕ, ◌+◌, ◌*◌, ◌-◌, ◌≡◌, ◌↔◌, true, List}
use Rattle.report.specs.Ports.{is_device}
use Rattle.report.specs.Reading.{Report}
use Rattle.port.specs.declared.Port.{Port}
use Rattle.port.specs.Records.{request_in}
use Rattle.port.specs.Waiting.{waiting_at, is_found}
use Rattle.matching.specs.Messages.{parameter}
use Rattle.serial.specs.Serials.{serial_of, given_by}

-- p is port 255 before the report
pub record Gives (p : Port) (r : Report) (bytes : List ℕ) (device number : ℕ) : Type 0 where
  pub receiver : r.device ≡ 255
  pub long : r.id ≡ 0x11
  pub byte2 : r.byte2 ≡ 0x83
  pub byte3 : r.byte3 ≡ 0xB5
  pub named : is_device device ≡ true
  pub waits : is_found (waiting_at p 0x83 0xB5) ≡ true
  pub asked : (request_in p.places (waiting_at p 0x83 0xB5)).first.0 ≡ 0x30 + device - 1
  pub repeated : parameter bytes 0 ≡ 0x30 + device - 1
  pub serial : number ≡ 16777216 * parameter bytes 1 + (65536 * parameter bytes 2 + (256 * parameter bytes 3 + parameter bytes 4))

-- exactly then
abbrev pub GivenExactly : Port → Report → List ℕ → Type 0
GivenExactly p r bytes = (device number : ℕ) → (given_by p r bytes ≡ serial_of device number) ↔ Gives p r bytes device number
