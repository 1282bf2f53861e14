-- Document 01, "Taking a HID++ report" and "Taking a DJ report", and document 02, Ask 1 (drops): what taking a report answers.
use Rattle.std.specs.Prelude.{ℕ, Bool}
use Rattle.port.specs.declared.Port.{Port}

-- a notice is one of these; each carries its own data
pub data Notice : Type 0 where
  unpaired : (port dropped : ℕ) → Notice
  paired : (port : ℕ) (more : Bool) (wpid reports dropped : ℕ) → Notice
  empty_list : Notice
  link : (port : ℕ) (up : Bool) → Notice
  other : (port kind : ℕ) → Notice

-- what every answer to a HID++ report carries: the port, bytes 2 and 3, and the parameters' start and length
pub record About : Type 0 where
  pub port : ℕ
  pub byte2 : ℕ
  pub byte3 : ℕ
  pub start : ℕ
  pub size : ℕ

-- byte 2 of an error of HID++ 1.0, and of 2.0
abbrev pub error1 : ℕ
error1 = 0x8F

abbrev pub error2 : ℕ
error2 = 0xFF

-- a refusal's number; for a HID++ report what it is about, a reply also with the number of requests that it dropped on another port, an error with the code and its kind, 0x8F or 0xFF; for a radio report the type and the payload's start and length; or a notice
pub data Answer : Type 0 where
  refused : ℕ → Answer
  reply : (dropped : ℕ) → About → Answer
  stray plain event : About → Answer
  failed : About → (code kind : ℕ) → Answer
  radio : (kind start size : ℕ) → Answer
  notice : Notice → Answer

-- what taking a report gives at its port: the answer, and the port after it
pub record Result : Type 0 where
  pub answer : Answer
  pub port : Port
