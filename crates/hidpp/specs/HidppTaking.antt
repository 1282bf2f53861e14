-- Document 01, "Taking a HID++ report", with document 02, Ask 2, at the port that the report names.
use Rattle.std.specs.Prelude.{ℕ, Bool, false, cond, ◌&&◌, ◌||◌, eqb, Option, Some, None}
use Rattle.report.specs.Ports.{in_range}
use Rattle.report.specs.Sizes.{hidpp_start, software_id, is_feature}
use Rattle.port.specs.declared.Port.{Port}
use Rattle.port.specs.declared.Version.{Version}
use Rattle.port.specs.Records.{request_in}
use Rattle.port.specs.Waiting.{waiting_at, is_found, ended_at}
use Rattle.port.specs.Answers.{About, error1, error2, Answer, reply, stray, plain, event, failed, Result}
use Rattle.matching.specs.declared.Message.{Message}
use Rattle.matching.specs.Matching.{answered_at}
use Rattle.hidpp.specs.HidppRecords.{after_reply, after_error, after_event}

-- what an answer with these bytes 2 and 3 carries
abbrev pub about : Message → ℕ → ℕ → About
about m byte2 byte3 =
    record { port = m.device.0; byte2 = byte2; byte3 = byte3; start = hidpp_start; size = m.length }

-- the report's own bytes 2 and 3
abbrev pub carried : (About → Answer) → Message → Answer
carried answer m = answer (about m m.byte2.0 m.byte3)

abbrev pub unchanged : Answer → Port → Result
unchanged answer p = record { answer = answer; port = p }

-- 1. byte 2 is 0x8F or 0xFF
abbrev pub is_error : ℕ → Bool
is_error byte2 = eqb byte2 error1 || eqb byte2 error2

-- an error has the request's byte 2 at offset 3, its byte 3 at offset 4, and the code at offset 5
abbrev pub named2 : Message → ℕ
named2 m = m.byte3

abbrev pub named3 : Message → ℕ
named3 m = m.first.0

abbrev pub code : Message → ℕ
code m = m.first.1

-- 0x8F fits any request, 0xFF those whose byte 2 is a feature index
abbrev pub error_fits : Message → Bool
error_fits m = eqb m.byte2.0 error1 || is_feature (named2 m)

-- which kind it was: 0x8F or 0xFF
abbrev pub kind_of : ℕ → ℕ
kind_of byte2 = cond (eqb byte2 error1) error1 error2

-- the error ends the request that it names with its code, or is stray
unfoldable pub error_rule : Port → Message → Result
error_rule p m =
    cond (error_fits m && is_found (waiting_at p (named2 m) (named3 m)))
    (record {
      answer = failed (about m (named2 m) (named3 m)) (code m) (kind_of m.byte2.0);
      port = after_error (ended_at p (waiting_at p (named2 m) (named3 m))) m.byte2.0 (named2 m) (named3 m) (code m);
    })
    (unchanged (carried stray m) p)

-- 2. the request of this place ends with this reply, which drops nothing at its own port
unfoldable pub reply_rule : Port → Message → ℕ → Result
reply_rule p m place =
    record { answer = carried (reply 0) m; port = after_reply (ended_at p place) m (request_in p.places place) }

-- version major 1
abbrev pub is_major1 : Option Version → Bool
is_major1 None = false
is_major1 (Some version) = eqb version.major 1

-- 4. byte 2 is a feature index: a plain notice from a device of version 1; from others an event where the software id is 0, and stray where it is not
unfoldable pub feature_rule : Port → Message → Result
feature_rule p m =
    cond (is_major1 p.version) (unchanged (carried plain m) p)
    (cond (eqb (software_id m.byte3) 0) (record { answer = carried event m; port = after_event p m })
    (unchanged (carried stray m) p))

-- 3. 0x80 to 0x83: stray; 0x40 to 0x7F: plain notice. With any other byte 2 of 0x40 or above only errors are read, which come first
unfoldable pub unasked_rule : Port → Message → Result
unasked_rule p m =
    cond (in_range 0x80 m.byte2.0 0x83) (unchanged (carried stray m) p)
    (cond (in_range 0x40 m.byte2.0 0x7F) (unchanged (carried plain m) p)
    (cond (is_feature m.byte2.0) (feature_rule p m)
    (unchanged (carried stray m) p)))

-- no request is answered, but one with these bytes 2 and 3 may wait: a ping with another third parameter. Then the report is stray, whatever the version
unfoldable pub unanswered_rule : Port → Message → Result
unanswered_rule p m =
    cond (is_found (waiting_at p m.byte2.0 m.byte3)) (unchanged (carried stray m) p) (unasked_rule p m)

-- in this order
unfoldable pub take_hidpp : Port → Message → Result
take_hidpp p m =
    cond (is_error m.byte2.0) (error_rule p m)
    (cond (is_found (answered_at p m)) (reply_rule p m (answered_at p m))
    (unanswered_rule p m))
