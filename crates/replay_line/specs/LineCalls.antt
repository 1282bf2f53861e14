-- docs/SCRIPTS.md, "Lines": one line, and the table of calls.
use Rattle.std.specs.Prelude.{ℕ, ◌-◌, cond, List, [], ◌∷◌, eqb, Option, Some, None}
use Prim.Native.String as strings
use Rattle.std.proofs.Math.ListN as lists
use Rattle.report.specs.Sizes.{byte}
use Rattle.text.specs.Words.{ascii}
use Rattle.replay_line.specs.LineWords.{words, same_word, no_word}
use Rattle.replay_line.specs.LineValues.{hex_byte, number}
use Rattle.replay_line.specs.LineFields.{first, and_then, port_number, port_and_bytes, most_lent, lent, bytes_of, most_bytes, limited}
use Rattle.replay_line.specs.Commands.{LineWriter, request, switch, get_paired, led, list, store, frame, Command, blank, no_call, take, cancel, tick, restore, read, mouse, dump, write}

-- no word more
abbrev pub with_no_more : Command → List (List ℕ) → Command
with_no_more command words = cond (no_word words) command no_call

-- the words that are left are bytes, at most so many
abbrev pub given : Option (List ℕ) → (List ℕ → Command) → Command
given None command = no_call
given (Some bytes) command = command bytes

unfoldable pub with_bytes : (most : ℕ) → (List ℕ → Command) → List (List ℕ) → Command
with_bytes most command words = given (limited most (bytes_of words)) command

-- PLACE LEN, and no word more
abbrev pub lent_alone : LineWriter → List (List ℕ) → Command
lent_alone writer words =
    and_then (lent words) no_call λ at words.
    with_no_more (write writer at.offset at.room []) words

-- PLACE LEN HH..
abbrev pub lent_bytes : LineWriter → List (List ℕ) → Command
lent_bytes writer words =
    and_then (lent words) no_call λ at words.
    with_bytes most_bytes (write writer at.offset at.room) words

unfoldable pub request_call : List (List ℕ) → Command
request_call words =
    and_then (port_and_bytes words) no_call λ to words.
    and_then (first number words) no_call λ ticks words.
    lent_bytes (request to.port to.byte2 to.byte3 ticks) words

unfoldable pub cancel_call : List (List ℕ) → Command
cancel_call words =
    and_then (port_and_bytes words) no_call λ to words.
    with_no_more (cancel to.port to.byte2 to.byte3) words

unfoldable pub switch_call : List (List ℕ) → Command
switch_call words =
    and_then (first hex_byte words) no_call λ bits words.
    and_then (first hex_byte words) no_call λ timeout words.
    lent_alone (switch bits timeout) words

unfoldable pub led_call : List (List ℕ) → Command
led_call words =
    and_then (first port_number words) no_call λ port words.
    and_then (first hex_byte words) no_call λ leds words.
    lent_alone (led port leds) words

unfoldable pub frame_call : List (List ℕ) → Command
frame_call words =
    and_then (port_and_bytes words) no_call λ to words.
    lent_bytes (frame to.port to.byte2 to.byte3) words

-- a row of the table: a call's first word, and what the words after it come to
pub record LineRow : Type 0 where
  pub name : List ℕ
  pub call : List (List ℕ) → Command

abbrev pub line_row : strings.String → (List (List ℕ) → Command) → LineRow
line_row name call = record { name = ascii name; call = call }

-- what needs no station, and the dump
unfoldable pub other_rows : List LineRow
other_rows =
    line_row "read" (with_bytes most_bytes read)
    ∷ line_row "frame" frame_call
    ∷ line_row "mouse" (with_bytes most_bytes mouse)
    ∷ line_row "dump" (with_no_more dump)
    ∷ []

-- what writes into a lent buffer, except a request
unfoldable pub writer_rows : List LineRow
writer_rows =
    line_row "switch" switch_call
    ∷ line_row "get-paired" (lent_alone get_paired)
    ∷ line_row "led" led_call
    ∷ line_row "list" (lent_alone list)
    ∷ line_row "store" (lent_alone store)
    ∷ other_rows

abbrev pub table : List LineRow
table =
    line_row "take" (with_bytes most_bytes take)
    ∷ line_row "request" request_call
    ∷ line_row "cancel" cancel_call
    ∷ line_row "tick" (with_no_more tick)
    ∷ line_row "restore" (with_bytes most_lent restore)
    ∷ writer_rows

-- the row of a name; no call where there is none
abbrev pub command_named : List LineRow → List ℕ → List (List ℕ) → Command
command_named [] name words = no_call
command_named (r ∷ rows) name words = cond (same_word name r.name) (r.call words) (command_named rows name words)

-- the words of a line: the first is the name
abbrev pub command_in : List (List ℕ) → Command
command_in [] = no_call
command_in (name ∷ words) = command_named table name words

abbrev pub carriage_return : ℕ
carriage_return = 13

-- a line without one carriage return at its end
unfoldable pub without_return : List ℕ → List ℕ
without_return line =
    cond (eqb (byte line (lists.length line - 1)) carriage_return) (lists.take (lists.length line - 1) line) line

-- '#'
abbrev pub hash : ℕ
hash = 35

-- an empty line and a line whose first character is '#' give no output; every other line is one call
unfoldable pub text_rule : List ℕ → Command
text_rule text =
    cond (eqb (lists.length text) 0) blank
    (cond (eqb (byte text 0) hash) blank (command_in (words text)))

unfoldable pub line_rule : List ℕ → Command
line_rule line = text_rule (without_return line)
