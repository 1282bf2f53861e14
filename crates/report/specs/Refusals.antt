-- Document 01, "Refusal numbers", and document 02, Asks 3 (15 and 16) and 5 (17).
use Rattle.std.specs.Prelude.{ℕ}

-- take: the report has no byte
abbrev pub empty_report : ℕ
empty_report = 1

-- take: byte 0 is no report id
abbrev pub unknown_id : ℕ
unknown_id = 2

-- take: the length is not that of the id; mouse: the payload does not have 7 bytes
abbrev pub wrong_length : ℕ
wrong_length = 3

-- take: a DJ type that only goes to the receiver, 0x80 and above or 0x0E
abbrev pub down_only : ℕ
down_only = 4

-- take, request, cancel, LED: no such port
abbrev pub no_such_port : ℕ
no_such_port = 5

-- take: HID++ byte 2 is 0x84 to 0x8E or 0x90 to 0xFE
abbrev pub reserved_sub_id : ℕ
reserved_sub_id = 6

-- take: the device is not paired, and the report is a radio report or 0x42
abbrev pub not_paired : ℕ
not_paired = 7

-- take: the device has not declared this type of radio report in its bitfield, or the type is above 31
abbrev pub not_declared : ℕ
not_declared = 8

-- request: a forbidden request
abbrev pub forbidden : ℕ
forbidden = 9

-- all that write: there is too little room for the frame or the listing from the offset to the end of the buffer
abbrev pub no_room : ℕ
no_room = 10

-- request: one with these bytes 2 and 3 waits on the port already
abbrev pub already_waiting : ℕ
already_waiting = 11

-- request: every place of the port has a request
abbrev pub places_full : ℕ
places_full = 12

-- cancel: no request with these bytes 2 and 3 waits on the port
abbrev pub not_waiting : ℕ
not_waiting = 13

-- switch: a device bit above 5 is set; this comes before 10
abbrev pub reserved_bits : ℕ
reserved_bits = 14

-- restore: the first line is that of a store of another edition
abbrev pub other_edition : ℕ
other_edition = 15

-- restore: a line breaks the rules of a store; this refusal comes with the line's number
abbrev pub broken_line : ℕ
broken_line = 16

-- take: a byte behind the payload of a radio report is not zero
abbrev pub dirty_padding : ℕ
dirty_padding = 17
