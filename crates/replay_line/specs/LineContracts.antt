-- What the program reads of a line, in the terms of the rules.
use Rattle.std.specs.Prelude.{ℕ, ◌≤◌, ◌≡◌, cond, Option, Some, None, IfSome, option_map, ltb, take}
use Rattle.std.specs.Borrow.{Bor}
use mathlib.Core.List as lists
use Rattle.replay_line.specs.declared.Command as program
use Rattle.replay_line.specs.declared.Command.TheVariants.{Blank, NoCall, Take, Cancel, Tick, Restore, Read, Mouse, Dump, Write}
use Rattle.replay_line.specs.declared.Writer as program_writer
use Rattle.replay_line.specs.declared.Writer.TheVariants.{Request, Switch, GetPaired, Led, List, Store, Frame}
use Rattle.replay_line.specs.declared.Parsed.{Parsed}
use Rattle.replay_line.specs.declared.fields.PortAndBytes as program_fields
use Rattle.replay_line.specs.declared.fields.Lent as program_lent
use Rattle.replay_line.specs.LineWords.{words}
use Rattle.replay_line.specs.LineFields as fields
use Rattle.replay_line.specs.Commands as rules
use Rattle.replay_line.specs.LineCalls as calls

-- the first word and the text after it, as the words of both; nothing is no word
abbrev pub word_and_rest : Option (Bor (lists.List ℕ) × Bor (lists.List ℕ)) → lists.List (lists.List ℕ)
word_and_rest None = lists.[]
word_and_rest (Some r) = lists.◌∷◌ r.0.now (words r.1.now)

-- what a digit's rule comes to, as a value: its 16 is none
abbrev pub hex_value : ℕ → Option ℕ
hex_value value = cond (ltb value 16) (Some value) None

-- a value, as `view` sees it, and the text after it
abbrev pub field_and_rest : {A B : Type 0} → (A → B) → Option (A × Bor (lists.List ℕ)) → fields.NextValue B
field_and_rest view None = fields.nothing
field_and_rest view (Some r) = fields.got (view r.0) (words r.1.now)

abbrev pub port_and_bytes_read : program_fields.PortAndBytes → fields.PortAndBytes
port_and_bytes_read r = record { port = r.port.0; byte2 = r.byte2.0; byte3 = r.byte3 }

abbrev pub lent_read : program_lent.Lent → fields.Lent
lent_read r = record { offset = r.offset; room = r.room }

-- so many bytes at the front of a buffer
abbrev pub bytes_listed : Option ℕ → (buffer : lists.List ℕ) → Option (lists.List ℕ)
bytes_listed count buffer = option_map (λ n. take n buffer) count

abbrev pub writer_of : program_writer.Writer → rules.LineWriter
writer_of (Request port byte2 byte3 ticks) = rules.request port.0 byte2.0 byte3 ticks
writer_of (Switch bits timeout) = rules.switch bits timeout
writer_of GetPaired = rules.get_paired
writer_of (Led port leds) = rules.led port.0 leds
writer_of List = rules.list
writer_of Store = rules.store
writer_of (Frame port byte2 byte3) = rules.frame port.0 byte2.0 byte3

-- a command of the program with the bytes beside it
abbrev pub command_of : program.Command → lists.List ℕ → rules.Command
command_of Blank bytes = rules.blank
command_of NoCall bytes = rules.no_call
command_of Take bytes = rules.take bytes
command_of (Cancel port byte2 byte3) bytes = rules.cancel port.0 byte2.0 byte3
command_of Tick bytes = rules.tick
command_of Restore bytes = rules.restore bytes
command_of Read bytes = rules.read bytes
command_of Mouse bytes = rules.mouse bytes
command_of Dump bytes = rules.dump
command_of (Write writer offset room) bytes = rules.write (writer_of writer) offset room bytes

abbrev pub parsed_command : Parsed → (buffer : lists.List ℕ) → rules.Command
parsed_command p buffer = command_of p.command (take p.count buffer)

-- where no call was read there is none
abbrev pub call_read : Option Parsed → (buffer : lists.List ℕ) → rules.Command
call_read None buffer = rules.no_call
call_read (Some p) buffer = parsed_command p buffer

-- an answer that means this command, with its bytes at the front of a buffer and within it
pub record Parses (command : rules.Command) (r : Option Parsed) (buffer : lists.List ℕ) : Type 0 where
  pub so : call_read r buffer ≡ command
  pub within : IfSome r (λ p. p.count ≤ fields.most_lent)

-- PLACE LEN, and then bytes, at most so many
unfoldable pub lent_call : (most : ℕ) → rules.LineWriter → lists.List (lists.List ℕ) → rules.Command
lent_call most writer words =
    fields.and_then (fields.lent words) rules.no_call λ at words.
    calls.with_bytes most (rules.write writer at.offset at.room) words

-- the length of the lent buffer; 0 where none is lent
abbrev pub lent_room : rules.Command → ℕ
lent_room rules.blank = 0
lent_room rules.no_call = 0
lent_room (rules.take bytes) = 0
lent_room (rules.cancel port byte2 byte3) = 0
lent_room rules.tick = 0
lent_room (rules.restore bytes) = 0
lent_room (rules.read bytes) = 0
lent_room (rules.mouse payload) = 0
lent_room rules.dump = 0
lent_room (rules.write writer offset room params) = room
