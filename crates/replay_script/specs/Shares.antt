-- As many lines of a text as there is room for the answers of, answered.
use Rattle.std.specs.Prelude.{ℕ, ◌-◌, Bool, true, false, cond, List, [], ◌∷◌, ◌++◌, length, ◌==◌, nat_le}
use Rattle.station.specs.declared.Station.{Station}
use Rattle.replay_desk.specs.LineAnswers.{answer_room}
use Rattle.text.specs.Words.{newline}
use Rattle.replay_script.specs.ReplayRuns.{next_number, answer_to}

-- the answers end to end, the station and the number of lines after them, what is left of the text, and whether a whole line is left for want of room
pub record Share : Type 0 where
  pub text : List ℕ
  pub station : Station
  pub number : ℕ
  pub left : List ℕ
  pub full : Bool

-- nothing more is answered
abbrev pub share_none : Station → ℕ → List ℕ → Bool → Share
share_none st number left full = record { text = []; station = st; number = number; left = left; full = full }

-- a text before what is answered
abbrev pub before_share : List ℕ → Share → Share
before_share text s =
    record { text = text ++ s.text; station = s.station; number = s.number; left = s.left; full = s.full }

-- each whole line while there is room for any answer; of the first line something is read already
unfoldable pub share_after : Station → (number : ℕ) → (read : List ℕ) → List ℕ → (room : ℕ) → Share
share_after st number read [] room = share_none st number read false
share_after st number read (c ∷ text) room =
    cond (c == newline)
    (cond (nat_le answer_room room)
    (before_share (answer_to st number read).text
    (share_after (answer_to st number read).station (next_number number) [] text (room - length (answer_to st number read).text)))
    (share_none st number (read ++ (c ∷ text)) true))
    (share_after st number (read ++ (c ∷ [])) text room)

unfoldable pub share_rule : Station → (number : ℕ) → List ℕ → (room : ℕ) → Share
share_rule st number text room = share_after st number [] text room
