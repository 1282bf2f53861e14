-- Helpers of contracts: what the buffers hold between two turns.
use Rattle.std.specs.Prelude.{ℕ, ◌+◌, ◌≤◌, ◌<◌, ◌≡◌, Bool, true, false, cond, not, ◌&&◌, List, leb, ltb, length, take, drop}
use Rattle.replay_desk.specs.LineAnswers.{answer_room}
use Rattle.replay_feed.specs.declared.State.{State}
use Rattle.replay_feed.specs.LongLines.{longest}
use Rattle.replay_feed.specs.Turns.{Pending, at_start, Turned, turn_rule, refused_turn}

-- the bytes of the buffer that are not yet answered
abbrev pub held_of : State → List ℕ → List ℕ
held_of s buffer = drop s.start (take s.size buffer)

-- the bytes that were read behind them
abbrev pub input_of : State → (count : ℕ) → List ℕ → List ℕ
input_of s count buffer = take count (drop s.size buffer)

abbrev pub pending_of : State → List ℕ → Pending
pending_of s buffer =
    record { station = s.station; number = s.number; held = held_of s buffer; cut = s.cut; reading = s.reading; going = s.going; whole = s.whole }

-- the answers that the output buffer holds, and what is pending
abbrev pub turned_of : State → (buffer output : List ℕ) → Turned
turned_of s buffer output = record { text = take s.filled output; after = pending_of s buffer }

-- before the first turn, whatever is in the buffers
pub record Starts (s : State) : Type 0 where
  pub pending_is : (buffer : List ℕ) → pending_of s buffer ≡ at_start
  pub begins : s.start ≡ 0
  pub empty : s.size ≡ 0
  pub filled : s.filled ≡ 0

-- between two turns
pub record Standing (s : State) (buffer output : List ℕ) : Type 0 where
  pub ordered : s.start ≤ s.size
  pub within : s.size ≤ length buffer
  pub room : s.reading ≡ true → s.size < length buffer
  pub filled : s.filled ≤ length output

-- where the next read goes: behind what is held, or to the end of a buffer of this size, where nothing can be read, while whole lines wait
abbrev pub read_offset : State → (buffer : ℕ) → ℕ
read_offset s buffer = cond (s.reading && leb s.size buffer) s.size buffer

-- a turn is made where another is to follow, what is held and what was read are in the input buffer, which is larger than what a long line is cut to, and the output buffer has room for any answer
abbrev pub is_ready : State → (count buffer output : ℕ) → Bool
is_ready s count buffer output =
    s.going && (leb s.start s.size && (leb (s.size + count) buffer && (ltb longest buffer && (leb answer_room output && cond s.reading (ltb s.size buffer) (not s.cut)))))

abbrev pub turn_for : State → (count : ℕ) → (buffer : List ℕ) → (room : ℕ) → Turned
turn_for s count buffer room =
    cond (is_ready s count (length buffer) room) (turn_rule (length buffer) room (pending_of s buffer) (input_of s count buffer))
    (refused_turn (pending_of s buffer))

abbrev pub refused_state : State → State
refused_state s =
    record { station = s.station; number = s.number; start = s.start; size = s.size; cut = s.cut; reading = s.reading; going = false; whole = false; filled = 0 }

-- where a turn leaves what is held; a turn that is refused leaves both buffers as they are, and any turn what is behind its answers
pub record Leaves (s : State) (count : ℕ) (buffer output : List ℕ) (r : State) (buffer₁ output₁ : List ℕ) : Type 0 where
  pub standing : is_ready s count (length buffer) (length output) ≡ true → Standing r buffer₁ output₁
  pub refused : is_ready s count (length buffer) (length output) ≡ false → (r ≡ refused_state s) × ((buffer₁ ≡ buffer) × (output₁ ≡ output))
  pub filled : r.filled ≤ length output₁
  pub behind : drop r.filled output₁ ≡ drop r.filled output
  pub same_input : length buffer₁ ≡ length buffer
  pub same_output : length output₁ ≡ length output
