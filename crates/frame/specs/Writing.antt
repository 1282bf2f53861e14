-- Document 01, "Writing": each frame, and the lent buffer after it.
use Rattle.std.specs.Prelude.{ℕ, ◌+◌, List, ◌∷◌, ◌++◌, Bool, cond, not, ◌||◌, length, take, drop, replicate, leb}
use Rattle.report.specs.Refusals.{no_such_port, forbidden, no_room, reserved_bits}
use Rattle.report.specs.Ports.{receiver, is_device, is_port}
use Rattle.report.specs.Sizes.{hidpp_short, hidpp_long, dj_short, bit}
use Rattle.frame.specs.Forbidden.{is_short, is_forbidden_frame}

-- what a writer answers: the refusal's number, or the number of bytes written
pub data WriteAnswer : Type 0 where
  refused : ℕ → WriteAnswer
  wrote : ℕ → WriteAnswer

-- what a writer leaves: its answer, and the lent buffer
pub record WriteOutcome : Type 0 where
  pub answer : WriteAnswer
  pub lent : List ℕ

-- the frame at its offset; the bytes before and after it keep their values
abbrev pub pasted : List ℕ → ℕ → List ℕ → List ℕ
pasted frame offset lent = take offset lent ++ (frame ++ drop (offset + length frame) lent)

-- this number of bytes fits between the offset and the buffer's end
abbrev pub fits_at : ℕ → ℕ → ℕ → Bool
fits_at size offset room = leb (offset + size) room

-- a refusal leaves the buffer as it was
abbrev pub kept : ℕ → List ℕ → WriteOutcome
kept number lent = record { answer = refused number; lent = lent }

-- the whole frame, or 10
unfoldable pub frame_at : List ℕ → ℕ → List ℕ → WriteOutcome
frame_at frame offset lent =
    cond (fits_at (length frame) offset (length lent))
    (record { answer = wrote (length frame); lent = pasted frame offset lent })
    (kept no_room lent)

-- short with 3 parameters, else long
abbrev pub request_id : ℕ → ℕ
request_id size = cond (is_short size) hidpp_short hidpp_long

-- id, port, byte 2, byte 3, parameters
abbrev pub request_frame : ℕ → ℕ → ℕ → List ℕ → List ℕ
request_frame device byte2 byte3 params =
    request_id (length params) ∷ device ∷ byte2 ∷ byte3 ∷ params

-- 20 FF 80, device bits, timeout, ten zeros
abbrev pub switch_frame : ℕ → ℕ → List ℕ
switch_frame bits timeout = dj_short ∷ receiver ∷ 0x80 ∷ bits ∷ timeout ∷ replicate 10 0

-- 20 FF 81, twelve zeros
abbrev pub get_paired_frame : List ℕ
get_paired_frame = dj_short ∷ receiver ∷ 0x81 ∷ replicate 12 0

-- 20, port, 0E, one byte, eleven zeros
abbrev pub led_frame : ℕ → ℕ → List ℕ
led_frame device leds = dj_short ∷ device ∷ 0x0E ∷ leds ∷ replicate 11 0

-- 5, 9, 10
unfoldable pub request_frame_rule : ℕ → ℕ → ℕ → List ℕ → ℕ → List ℕ → WriteOutcome
request_frame_rule device byte2 byte3 params offset lent =
    cond (not (is_port device)) (kept no_such_port lent)
    (cond (is_forbidden_frame byte2 byte3 params) (kept forbidden lent)
    (frame_at (request_frame device byte2 byte3 params) offset lent))

-- bit 6 or 7 of the device bits
abbrev pub has_reserved_bits : ℕ → Bool
has_reserved_bits bits = bit 6 bits || bit 7 bits

-- 14, 10
unfoldable pub switch_rule : ℕ → ℕ → ℕ → List ℕ → WriteOutcome
switch_rule bits timeout offset lent =
    cond (has_reserved_bits bits) (kept reserved_bits lent)
    (frame_at (switch_frame bits timeout) offset lent)

-- 10
unfoldable pub get_paired_rule : ℕ → List ℕ → WriteOutcome
get_paired_rule offset lent = frame_at get_paired_frame offset lent

-- 5, 10
unfoldable pub led_rule : ℕ → ℕ → ℕ → List ℕ → WriteOutcome
led_rule device leds offset lent =
    cond (not (is_device device)) (kept no_such_port lent)
    (frame_at (led_frame device leds) offset lent)
