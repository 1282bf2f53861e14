-- docs/SCRIPTS.md, "Lines": the lines of a script, and the run over them.
use Rattle.std.specs.Prelude.{◌≡◌, ℕ, ◌+◌, ◌%◌, ◌^◌, false, cond, List, [], ◌∷◌, ◌++◌, ◌==◌}
use Rattle.text.specs.Words.{newline}
use Rattle.station.specs.declared.Station.{Station}
use Rattle.replay_line.specs.LineCalls.{line_rule}
use Rattle.replay_desk.specs.LineAnswers.{LineAnswer, command_rule}

-- a text without a newline
pub data Unbroken : List ℕ → Type 0 where
  none : Unbroken []
  more : {c : ℕ} {text : List ℕ} → (c == newline) ≡ false → Unbroken text → Unbroken (c ∷ text)

-- what is read of a line where a script ends; nothing read is no line
abbrev pub last_line : List ℕ → List (List ℕ)
last_line [] = []
last_line (c ∷ line) = (c ∷ line) ∷ []

-- the lines of a text, of whose first line something is read already
unfoldable pub lines_after : (read : List ℕ) → List ℕ → List (List ℕ)
lines_after read [] = last_line read
lines_after read (c ∷ text) =
    cond (c == newline) (read ∷ lines_after [] text)
    (lines_after (read ++ (c ∷ [])) text)

-- the number of the line after this number of lines; it has 64 bits
abbrev pub next_number : ℕ → ℕ
next_number number = (number + 1) % 2 ^ 64

-- what the line after this number of lines gives
abbrev pub answer_to : Station → (number : ℕ) → (line : List ℕ) → LineAnswer
answer_to st number line = command_rule st (next_number number) (line_rule line)

-- what a run gives: the answers end to end, the last station, and the number of lines
pub record Ran : Type 0 where
  pub text : List ℕ
  pub station : Station
  pub number : ℕ

-- a text before what a run gives
abbrev pub before : List ℕ → Ran → Ran
before text r = record { text = text ++ r.text; station = r.station; number = r.number }

unfoldable pub run_lines : Station → (number : ℕ) → List (List ℕ) → Ran
run_lines st number [] = record { text = []; station = st; number = number }
run_lines st number (line ∷ lines) =
    before (answer_to st number line).text
    (run_lines (answer_to st number line).station (next_number number) lines)

-- the run over the lines of a text
unfoldable pub run_rule : Station → (number : ℕ) → List ℕ → Ran
run_rule st number text = run_lines st number (lines_after [] text)
