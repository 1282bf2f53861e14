-- Document 02, Ask 4, of the calls: on any port that has its places, two equal ones too and such as calls never reach, a report, a cancel or a request comes to the lowest place that matches, and where none matches to none.
use Rattle.std.specs.Prelude.{ℕ, ◌<◌, ◌≡◌, ◌↔◌, Bool, true, false, List, length, set}
use Rattle.port.specs.declared.Port.{Port}
use Rattle.port.specs.declared.Request.{Request}
use Rattle.port.specs.Records.{empty_place, request_in}
use Rattle.port.specs.Places.{is_empty, matches}
use Rattle.port.specs.Searching.{NoneBelow, Lowest}
use Rattle.port.specs.Waiting.{at, room_for, cancel_at}
use Rattle.matching.specs.declared.Message.{Message}
use Rattle.matching.specs.Matching.{answers}
use Rattle.hidpp.specs.HidppTaking.{is_error, named2, named3, error_fits, take_hidpp}
use Rattle.serial.specs.Serials.{long_register, serial_register, is_asked_with}

-- the lowest place that matches is emptied, and all others stay; where none matches, all stay
pub record EndsLowest (test : Request → Bool) (before after : List Request) : Type 0 where
  pub ended : (place : ℕ) → place < length before → Lowest test before place → after ≡ set before place empty_place
  pub none : NoneBelow test before (length before) → after ≡ before

pub record LowestPlaces (p : Port) : Type 0 where
  -- an error that fits ends the lowest request with the two bytes that it names; any other report the lowest that it answers, of a ping by its third parameter too
  pub errors : (m : Message) → is_error m.byte2.0 ≡ true → error_fits m ≡ true → EndsLowest (matches (named2 m) (named3 m)) p.places (take_hidpp p m).port.places
  pub replies : (m : Message) → is_error m.byte2.0 ≡ false → EndsLowest (answers m) p.places (take_hidpp p m).port.places
  -- a cancel ends the lowest request with these bytes 2 and 3
  pub cancels : (byte2 byte3 : ℕ) → EndsLowest (matches byte2 byte3) p.places (cancel_at p byte2 byte3).port.places
  -- a request is let in exactly where none with its bytes 2 and 3 waits and a place is empty, and that is the lowest empty one
  pub admits : (byte2 byte3 place : ℕ) → place < length p.places → (room_for p.places byte2 byte3 ≡ at place) ↔ (NoneBelow (matches byte2 byte3) p.places (length p.places) × Lowest is_empty p.places place)
  -- a serial is asked for with the first parameter of the lowest request for its register
  pub asks : (first : ℕ) → (is_asked_with p first ≡ true) ↔ ((place : ℕ) × ((place < length p.places) × (Lowest (matches long_register serial_register) p.places place × ((request_in p.places place).first.0 ≡ first))))
