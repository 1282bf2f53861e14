-- docs/SCRIPTS.md, "Lines": lines worked out, those at the edges of the script language too.
use Rattle.std.specs.Prelude.{ℕ, zero, suc, ◌≡◌, refl, cond, List, [], ◌∷◌, ◌++◌, map, leb, replicate, Option, Some, None}
use Rattle.std.proofs.Common.{◌∙◌, ap}
use Rattle.std.proofs.lemmas.List.{length-replicate}
use Rattle.text.specs.Words.{ascii}
use Rattle.replay_line.specs.LineWords.{words, words_after, same_word}
use Rattle.replay_line.specs.LineValues.{hex_byte, hex_digit, number, digits_after, all_digits, value_after}
use Rattle.replay_line.specs.LineFields.{port_and_bytes, most_lent, lent, in_front, bytes_of, most_bytes, limited}
use Rattle.replay_line.specs.Commands.{Command, blank, no_call, take, request, cancel, tick, switch, get_paired, led, list, store, restore, read, frame, mouse, dump, write}
use Rattle.replay_line.specs.LineCalls.{carriage_return, command_in, given, line_rule, text_rule, without_return, with_bytes, request_call, cancel_call, switch_call, led_call, frame_call, other_rows, writer_rows}

-- a line, and the call that it is
record Example : Type 0 where
  line : List ℕ
  command : Command

abbrev reads : List ℕ → Command → Example
reads line command = record { line = line; command = command }

abbrev examples : List Example
examples =
    reads (ascii "request 2 00 11 10 1 9 00 00 5A") (write (request 2 0x00 0x11 10) 1 9 (0x00 ∷ 0x00 ∷ 0x5A ∷ []))
    ∷ reads (ascii "take 10 02 00 11 02 00 5A") (take (0x10 ∷ 0x02 ∷ 0x00 ∷ 0x11 ∷ 0x02 ∷ 0x00 ∷ 0x5A ∷ []))
    ∷ reads (ascii "list 0 64") (write list 0 64 [])
    ∷ reads (ascii "# the edges of the script language itself") blank
    ∷ reads [] blank
    ∷ reads (ascii "  tick  ") tick
    ∷ reads (ascii "tick x") no_call
    ∷ reads (ascii "take 10 02 0") no_call
    ∷ reads (ascii "take 1G") no_call
    ∷ reads (ascii "request 2 00 11 010 0 7 00 00 5A") no_call
    ∷ reads (ascii "request 256 00 11 10 0 7 00 00 5A") no_call
    ∷ reads (ascii "request 2 00 11 65536 0 7 00 00 5A") no_call
    ∷ reads (ascii "request 2 00 11 10 65535 7 00 00 5A") (write (request 2 0x00 0x11 10) 65535 7 (0x00 ∷ 0x00 ∷ 0x5A ∷ []))
    ∷ reads (ascii "request 2 00 11 10 0 4096 00 00 5A") (write (request 2 0x00 0x11 10) 0 4096 (0x00 ∷ 0x00 ∷ 0x5A ∷ []))
    ∷ reads (ascii "request 2 00 11 10 0 4097 00 00 5A") no_call
    ∷ reads (ascii "cancel 2 00") no_call
    ∷ reads (ascii "cancel 2 00 11 00") no_call
    ∷ reads (ascii "cancel 2 00 11") (cancel 2 0x00 0x11)
    ∷ reads (ascii "get-paired 0 0") (write get_paired 0 0 [])
    ∷ reads (ascii " # not a comment") no_call
    ∷ reads (ascii "Tick") no_call
    ∷ reads (ascii "tick" ++ (carriage_return ∷ [])) tick
    ∷ reads (ascii "take 20 02 41 0e" ++ (carriage_return ∷ [])) (take (0x20 ∷ 0x02 ∷ 0x41 ∷ 0x0e ∷ []))
    ∷ reads (carriage_return ∷ []) blank
    ∷ reads (carriage_return ∷ carriage_return ∷ []) no_call
    ∷ reads (ascii "   ") no_call
    ∷ reads (ascii "take" ++ (9 ∷ ascii "10")) no_call
    ∷ reads (ascii "take") (take [])
    ∷ reads (ascii "list +1 64") no_call
    ∷ reads (ascii "list 00 64") no_call
    ∷ reads (ascii "switch 3F 00 1 15") (write (switch 0x3F 0x00) 1 15 [])
    ∷ reads (ascii "led 255 02 0 15") (write (led 255 0x02) 0 15 [])
    ∷ reads (ascii "frame 255 81 02 0 7 00 00 00") (write (frame 255 0x81 0x02) 0 7 (0x00 ∷ 0x00 ∷ 0x00 ∷ []))
    ∷ reads (ascii "mouse 01 FF") (mouse (0x01 ∷ 0xFF ∷ []))
    ∷ reads (ascii "read") (read [])
    ∷ reads (ascii "dump") dump
    ∷ reads (ascii "store 1 9") (write store 1 9 [])
    ∷ reads (ascii "store 0 4097") no_call
    ∷ reads (ascii "store 0 64 00") no_call
    ∷ reads (ascii "restore 70 61 64 73 09 31 0A") (restore (0x70 ∷ 0x61 ∷ 0x64 ∷ 0x73 ∷ 0x09 ∷ 0x31 ∷ 0x0A ∷ []))
    ∷ reads (ascii "restore") (restore [])
    ∷ reads (ascii "restore 7") no_call
    ∷ []

all_read : map (λ (e : Example). line_rule e.line) examples ≡ map (λ (e : Example). e.command) examples
unfolding line_rule text_rule without_return words words_after same_word hex_byte hex_digit number digits_after all_digits value_after port_and_bytes lent bytes_of with_bytes request_call cancel_call switch_call led_call frame_call other_rows writer_rows
all_read = refl

-- a call with as many bytes as it may have, and with one more
zero_bytes : (n : ℕ) → bytes_of (replicate n (ascii "00")) ≡ Some (replicate n 0)
unfolding bytes_of hex_byte hex_digit
zero_bytes zero = refl
zero_bytes (suc n) = ap (in_front (Some 0)) (zero_bytes n)

zeros : (most n : ℕ) (command : List ℕ → Command) → with_bytes most command (replicate n (ascii "00")) ≡ given (cond (leb n most) (Some (replicate n 0)) None) command
unfolding with_bytes
zeros most n command =
    ap (λ (o : Option (List ℕ)). given (limited most o) command) (zero_bytes n)
    ∙ ap (λ (k : ℕ). given (cond (leb k most) (Some (replicate n 0)) None) command) (length-replicate n 0)

longest_report : command_in (ascii "take" ∷ replicate 256 (ascii "00")) ≡ take (replicate 256 0)
unfolding same_word
longest_report = zeros most_bytes 256 take

longer_report : command_in (ascii "take" ∷ replicate 257 (ascii "00")) ≡ no_call
unfolding same_word
longer_report = zeros most_bytes 257 take

longest_store : command_in (ascii "restore" ∷ replicate 4096 (ascii "00")) ≡ restore (replicate 4096 0)
unfolding same_word
longest_store = zeros most_lent 4096 restore

longer_store : command_in (ascii "restore" ∷ replicate 4097 (ascii "00")) ≡ no_call
unfolding same_word
longer_store = zeros most_lent 4097 restore
