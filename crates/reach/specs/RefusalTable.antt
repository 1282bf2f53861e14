-- Document 01, "Refusal numbers", and document 02, Asks 3 and 5: the table, row by row, each row with what the checks before it leave: a call is refused with a number exactly when one of its rows with that number holds.
use Rattle.std.specs.Prelude.{ℕ, ◌<◌, ◌≡◌, ◌↔◌, true, false, List, length}
use Rattle.report.specs.Ports.{is_device, is_port}
use Rattle.report.specs.Sizes.{byte, is_hidpp, is_report_id, length_of, dj_start}
use Rattle.report.specs.Reading as reading
use Rattle.report.specs.Reading.{is_reserved, goes_down, is_empty_list, has_port, report_from, read_rule}
use Rattle.frame.specs.Writing as writing
use Rattle.frame.specs.Writing.{fits_at, switch_frame, get_paired_frame, led_frame, has_reserved_bits}
use Rattle.port.specs.Answers as answers
use Rattle.port.specs.Waiting as waiting
use Rattle.listing.specs.Listing.{listing}
use Rattle.store.specs.Stores.{store_text}
use Rattle.restore.specs.Restoring as restoring
use Rattle.keeping.specs.Lines.{OtherEdition, BrokenAt}
use Rattle.station.specs.declared.Station.{Station}
use Rattle.station.specs.Stations.{port_for}
use Rattle.sequence.specs.Steps.{switch, get_paired, led, list, store, Call, take, request, cancel, write, restore, CallAnswer, taken, written, cancelled}
use Rattle.sequence.specs.Steps as steps
use Rattle.reach.specs.CallCases.{Waits, DjRefused, RequestRefused}

-- a report of one of the four ids and of its length
pub record Sized (bytes : List ℕ) : Type 0 where
  pub some : 0 < length bytes
  pub known : is_report_id (byte bytes 0) ≡ true
  pub whole : length bytes ≡ length_of (byte bytes 0)

-- by the bytes alone
pub data ReadRefused (bytes : List ℕ) : ℕ → Type 0 where
  is1 : length bytes ≡ 0 → ReadRefused bytes 1
  is2 : 0 < length bytes → is_report_id (byte bytes 0) ≡ false → ReadRefused bytes 2
  is3 : 0 < length bytes → is_report_id (byte bytes 0) ≡ true → ¬ (length bytes ≡ length_of (byte bytes 0)) → ReadRefused bytes 3
  is4 : Sized bytes → is_hidpp (byte bytes 0) ≡ false → goes_down (byte bytes 2) ≡ true → ReadRefused bytes 4
  hidpp5 : Sized bytes → is_hidpp (byte bytes 0) ≡ true → is_port (byte bytes 1) ≡ false → ReadRefused bytes 5
  dj5 : Sized bytes → is_hidpp (byte bytes 0) ≡ false → goes_down (byte bytes 2) ≡ false → is_empty_list (byte bytes 2) (byte bytes 3) ≡ false → has_port (byte bytes 1) (byte bytes 2) ≡ false → ReadRefused bytes 5
  is6 : Sized bytes → is_hidpp (byte bytes 0) ≡ true → is_port (byte bytes 1) ≡ true → is_reserved (byte bytes 2) ≡ true → ReadRefused bytes 6

-- the whole frame does not fit between the offset and the buffer's end
abbrev pub LacksRoom : ℕ → ℕ → List ℕ → Type 0
LacksRoom size offset lent = fits_at size offset (length lent) ≡ false

-- the rows that hold
pub data RefusalRow (st : Station) : Call → ℕ → Type 0 where
  -- take: 1 to 6 by the bytes; 7, 8 and 17 at the port
  by_bytes : {bytes : List ℕ} {number : ℕ} → ReadRefused bytes number → RefusalRow st (take bytes) number
  by_port : {bytes : List ℕ} {number : ℕ} → read_rule bytes ≡ reading.dj (report_from dj_start bytes) → DjRefused (port_for st (byte bytes 1)) (report_from dj_start bytes) bytes number → RefusalRow st (take bytes) number
  -- request: 5; 9, 10, 11, 12 at the port
  request5 : {device byte2 byte3 ticks : ℕ} {params : List ℕ} {offset : ℕ} {lent : List ℕ} → is_port device ≡ false → RefusalRow st (request device byte2 byte3 ticks params offset lent) 5
  request_at : {device byte2 byte3 ticks : ℕ} {params : List ℕ} {offset : ℕ} {lent : List ℕ} {number : ℕ} → is_port device ≡ true → RequestRefused (port_for st device) device byte2 byte3 ticks params offset lent number → RefusalRow st (request device byte2 byte3 ticks params offset lent) number
  -- cancel: 5, 13
  cancel5 : {device byte2 byte3 : ℕ} → is_port device ≡ false → RefusalRow st (cancel device byte2 byte3) 5
  cancel13 : {device byte2 byte3 : ℕ} → is_port device ≡ true → ¬ Waits (port_for st device) byte2 byte3 → RefusalRow st (cancel device byte2 byte3) 13
  -- switch: 14, 10
  switch14 : {bits timeout offset : ℕ} {lent : List ℕ} → has_reserved_bits bits ≡ true → RefusalRow st (write (switch bits timeout) offset lent) 14
  switch10 : {bits timeout offset : ℕ} {lent : List ℕ} → has_reserved_bits bits ≡ false → LacksRoom (length (switch_frame bits timeout)) offset lent → RefusalRow st (write (switch bits timeout) offset lent) 10
  -- get paired: 10
  get_paired10 : {offset : ℕ} {lent : List ℕ} → LacksRoom (length get_paired_frame) offset lent → RefusalRow st (write get_paired offset lent) 10
  -- LED: 5, 10
  led5 : {device leds offset : ℕ} {lent : List ℕ} → is_device device ≡ false → RefusalRow st (write (led device leds) offset lent) 5
  led10 : {device leds offset : ℕ} {lent : List ℕ} → is_device device ≡ true → LacksRoom (length (led_frame device leds)) offset lent → RefusalRow st (write (led device leds) offset lent) 10
  -- the listing: 10
  list10 : {offset : ℕ} {lent : List ℕ} → LacksRoom (length (listing st.ports)) offset lent → RefusalRow st (write list offset lent) 10
  -- the store: 10
  store10 : {offset : ℕ} {lent : List ℕ} → LacksRoom (length (store_text st.ports)) offset lent → RefusalRow st (write store offset lent) 10
  -- restore: 15, 16
  restore15 : (text : List ℕ) → OtherEdition text → RefusalRow st (restore text) 15
  restore16 : (text : List ℕ) (line : ℕ) → BrokenAt text line → RefusalRow st (restore text) 16

-- the answer is this refusal
pub data RefusedWith : CallAnswer → ℕ → Type 0 where
  take_with : {number : ℕ} → RefusedWith (taken (answers.refused number)) number
  write_with : {number : ℕ} → RefusedWith (written (writing.refused number)) number
  cancel_with : {number : ℕ} → RefusedWith (cancelled (waiting.CancelAnswer.refused number)) number
  restore_with : {number : ℕ} → RefusedWith (steps.restoring (restoring.refused number)) number
  line_with : {number line : ℕ} → RefusedWith (steps.restoring (restoring.refused_at number line)) number

-- for every call and number
abbrev pub ByTheTable : Station → Call → CallAnswer → Type 0
ByTheTable st c answer = (number : ℕ) → RefusedWith answer number ↔ RefusalRow st c number
