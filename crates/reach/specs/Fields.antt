-- Demand 2: records change only as document 01 lists, and document 02, Ask 1. Which fields of a port each call may change, by its answer.
use Rattle.std.specs.Prelude.{ℕ, ◌≡◌, Bool, true, false, cond, not, ◌&&◌, ◌||◌, List, eqb}
use Rattle.report.specs.Sizes.{byte, hidpp_start, function}
use Rattle.report.specs.Reading.{report_from}
use Rattle.port.specs.declared.Port.{Port}
use Rattle.port.specs.Records.{battery_status, wireless_status}
use Rattle.port.specs.Answers.{About, error1, Answer, refused, reply, stray, plain, event, failed, radio, notice, Notice, unpaired, paired, empty_list, link, other}
use Rattle.matching.specs.Matching.{is_ping}
use Rattle.hidpp.specs.HidppRecords.{holds, is_get_feature}
use Rattle.serial.specs.Serials.{Given, no_serial, serial_of, given_by, is_another}
use Rattle.dj.specs.DjTaking.{is_paired_with}
use Rattle.reach.specs.Completion.{is_reply}
use Rattle.sequence.specs.Steps.{Call, take, request, cancel, tick, write, restore, CallAnswer, taken, written, cancelled, ticked, restoring}

-- what a port holds
pub data Field : Type 0 where
  pairing wpid bitfield link_up version features battery serial places : Field

abbrev pub Same : Field → Port → Port → Type 0
Same pairing p q = q.paired ≡ p.paired
Same wpid p q = q.wpid ≡ p.wpid
Same bitfield p q = q.reports ≡ p.reports
Same link_up p q = q.up ≡ p.up
Same version p q = q.version ≡ p.version
Same features p q = q.features ≡ p.features
Same battery p q = q.battery ≡ p.battery
Same serial p q = q.serial ≡ p.serial
Same places p q = q.places ≡ p.places

abbrev pub field_number : Field → ℕ
field_number pairing = 0
field_number wpid = 1
field_number bitfield = 2
field_number link_up = 3
field_number version = 4
field_number features = 5
field_number battery = 6
field_number serial = 7
field_number places = 8

abbrev pub is : Field → Field → Bool
is g f = eqb (field_number g) (field_number f)

-- a reply ends its request; to byte 2 = 0, function 1, it sets the version; to GetFeature an index; to function 0 of the battery's feature the battery
abbrev pub reply_lists : Port → About → Field → Bool
reply_lists p a f =
    is places f
    || ((is version f && is_ping a.byte2 a.byte3)
    || ((is features f && is_get_feature a.byte2 a.byte3)
    || (is battery f && (holds p battery_status a.byte2 && eqb (function a.byte3) 0))))

-- an error ends its request; of kind 0x8F with code 1, to byte 2 = 0, function 1, it sets the version
abbrev pub error_lists : About → (code kind : ℕ) → Field → Bool
error_lists a code kind f =
    is places f || (is version f && (eqb kind error1 && (eqb code 1 && is_ping a.byte2 a.byte3)))

-- event 0 of 0x1000 sets the battery, of 0x1D4B link up
abbrev pub event_lists : Port → About → Field → Bool
event_lists p a f =
    (is battery f && (holds p battery_status a.byte2 && eqb a.byte3 0))
    || (is link_up f && (holds p wireless_status a.byte2 && eqb a.byte3 0))

-- 0x40, and 0x41 with another WPID or for a device that is not paired, change everything; with the WPID that the device is paired with, 0x41 changes the bitfield; 0x42 the link
abbrev pub notice_lists : Port → Notice → Field → Bool
notice_lists p (unpaired port dropped) f = true
notice_lists p (paired port more model reports dropped) f = not (is_paired_with p model) || is bitfield f
notice_lists p empty_list f = false
notice_lists p (link port up) f = is link_up f
notice_lists p (other port kind) f = false

abbrev pub take_lists : Port → Answer → Field → Bool
take_lists p (refused number) f = false
take_lists p (reply dropped a) f = reply_lists p a f
take_lists p (stray a) f = false
take_lists p (plain a) f = false
take_lists p (event a) f = event_lists p a f
take_lists p (failed a code kind) f = error_lists a code kind f
take_lists p (radio kind start size) f = is link_up f
take_lists p (notice n) f = notice_lists p n f

abbrev pub answer_lists : Port → CallAnswer → Field → Bool
answer_lists p (taken a) f = take_lists p a f
answer_lists p (written a) f = is places f
answer_lists p (cancelled a) f = is places f
answer_lists p (ticked counts) f = is places f
answer_lists p (restoring a) f = false

-- the port that a call names; a tick lowers the ticks left on all of them, a writer of a frame alone, of the listing or of the store changes nothing, nor does a read that is refused
abbrev pub touches : ℕ → Call → Bool
touches n (take bytes) = eqb (byte bytes 1) n
touches n (request device byte2 byte3 ticks params offset lent) = eqb device n
touches n (cancel device byte2 byte3) = eqb device n
touches n tick = true
touches n (write writer offset lent) = false
touches n (restore text) = false

-- the serial of a device that is paired is set; where it is another one, all but pairing, WPID and bitfield may change
abbrev pub serial_lists : ℕ → Port → Given → Field → Bool
serial_lists n p no_serial f = false
serial_lists n p (serial_of device number) f =
    eqb device n && (p.paired && (is serial f || (is_another p.serial number && not (is pairing f || (is wpid f || is bitfield f)))))

-- the serial that a reply gives, where port 255 is w before it
abbrev pub taken_gives : Port → List ℕ → Answer → Given
taken_gives w bytes a = cond (is_reply a) (given_by w (report_from hidpp_start bytes) bytes) no_serial

abbrev pub answer_gives : Port → List ℕ → CallAnswer → Given
answer_gives w bytes (taken a) = taken_gives w bytes a
answer_gives w bytes (written a) = no_serial
answer_gives w bytes (cancelled a) = no_serial
answer_gives w bytes (ticked counts) = no_serial
answer_gives w bytes (restoring a) = no_serial

abbrev pub call_gives : Port → Call → CallAnswer → Given
call_gives w (take bytes) a = answer_gives w bytes a
call_gives w (request device byte2 byte3 ticks params offset lent) a = no_serial
call_gives w (cancel device byte2 byte3) a = no_serial
call_gives w tick a = no_serial
call_gives w (write writer offset lent) a = no_serial
call_gives w (restore text) a = no_serial

-- whether the documents list the field of the port p of the number n for this call with this answer, where port 255 is w
abbrev pub lists : ℕ → Port → Port → Call → CallAnswer → Field → Bool
lists n w p c a f = (touches n c && answer_lists p a f) || serial_lists n p (call_gives w c a) f

-- from the port p to the port q: a field that is not listed stays
abbrev pub ChangesListed : ℕ → Call → CallAnswer → Port → Port → Port → Type 0
ChangesListed n c a w p q = (f : Field) → lists n w p c a f ≡ false → Same f p q
