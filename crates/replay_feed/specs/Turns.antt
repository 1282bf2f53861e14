-- docs/SCRIPTS.md, "Lines": a script that is read in parts, and answered as it is read, in turns: what one turn does, and what is then still to come.
use Rattle.std.specs.Prelude.{ℕ, Bool, true, false, cond, ◌&&◌, List, [], ◌∷◌, ◌++◌, eqb}
use Rattle.station.specs.declared.Station.{Station}
use Rattle.station.specs.Stations.{fresh_station}
use Rattle.text.specs.Words.{newline}
use Rattle.replay_script.specs.ReplayRuns.{Ran, run_rule}
use Rattle.replay_script.specs.Shares.{Share, share_rule}
use Rattle.replay_feed.specs.LongLines.{held_text, held_cut}

abbrev pub is_nothing : List ℕ → Bool
is_nothing [] = true
is_nothing (c ∷ text) = false

-- a text from its first newline on
unfoldable pub from_newline : List ℕ → List ℕ
from_newline [] = []
from_newline (c ∷ text) = cond (eqb c newline) (c ∷ text) (from_newline text)

-- between two turns: the station and the number of lines so far; what is read and not yet answered; whether the rest of its line is passed over; whether more is to be read; whether another turn is to follow, for which whole lines wait where nothing more is to be read; and whether the whole script is answered
pub record Pending : Type 0 where
  pub station : Station
  pub number : ℕ
  pub held : List ℕ
  pub cut : Bool
  pub reading : Bool
  pub going : Bool
  pub whole : Bool

-- what a turn gives: its answers end to end, and what is then pending
pub record Turned : Type 0 where
  pub text : List ℕ
  pub after : Pending

-- before the first turn
abbrev pub at_start : Pending
at_start =
    record { station = fresh_station; number = 0; held = []; cut = false; reading = true; going = true; whole = false }

-- what is to be answered next: what is held, and what was read behind it; the rest of a line that is cut is passed over
abbrev pub joined : Pending → List ℕ → List ℕ
joined p input = p.held ++ cond p.cut (from_newline input) input

-- whole lines wait for room
abbrev pub lines_wait : Share → Pending
lines_wait s =
    record { station = s.station; number = s.number; held = s.left; cut = false; reading = false; going = true; whole = false }

-- part of a line is held in a buffer of this size
abbrev pub line_held : (size : ℕ) → Share → Pending
line_held size s =
    record { station = s.station; number = s.number; held = held_text size s.left; cut = held_cut size s.left; reading = true; going = true; whole = false }

-- whole lines are answered while there is room
abbrev pub answered : (size : ℕ) → Share → Turned
answered size s = record { text = s.text; after = cond s.full (lines_wait s) (line_held size s) }

-- a line that is cut goes on
abbrev pub passed_over : Pending → Turned
passed_over p =
    record { text = []; after = record { station = p.station; number = p.number; held = p.held; cut = true; reading = true; going = true; whole = false } }

-- bytes were read, or lines wait: the sizes of the buffers for the input and for the answers
unfoldable pub feed_rule : (size room : ℕ) → Pending → (input : List ℕ) → Turned
feed_rule size room p input =
    cond (p.cut && is_nothing (from_newline input)) (passed_over p)
    (answered size (share_rule p.station p.number (joined p input) room))

-- the whole script is answered
abbrev pub script_ended : Station → (number : ℕ) → (held : List ℕ) → Pending
script_ended st number held =
    record { station = st; number = number; held = held; cut = false; reading = false; going = false; whole = true }

abbrev pub ended_with : Share → Turned
ended_with s =
    record { text = s.text; after = cond s.full (lines_wait s) (script_ended s.station s.number s.left) }

-- nothing more is read: a last line that lacks its newline is answered
unfoldable pub end_rule : (room : ℕ) → Pending → Turned
end_rule room p =
    cond (is_nothing p.held) (record { text = []; after = script_ended p.station p.number p.held })
    (ended_with (share_rule p.station p.number (p.held ++ (newline ∷ [])) room))

-- a read that brings nothing is the end of the script
unfoldable pub turn_rule : (size room : ℕ) → Pending → (input : List ℕ) → Turned
turn_rule size room p input =
    cond (p.reading && is_nothing input) (end_rule room p) (feed_rule size room p input)

-- nothing is done, and no other turn is to follow
abbrev pub refused_turn : Pending → Turned
refused_turn p =
    record { text = []; after = record { station = p.station; number = p.number; held = p.held; cut = p.cut; reading = p.reading; going = false; whole = false } }

-- what is still to come where this is all that is left to read: the run over what is held and this
unfoldable pub to_come : Pending → (unread : List ℕ) → Ran
to_come p unread = run_rule p.station p.number (joined p unread)
