-- docs/TRUST.md: what `replay` writes, whatever it reads. The turns are those that the functions of `replay_feed` were proved to make (`Learnt` is what the prover recorded of a function's `ensures`), one after the other, as the loop of `replay` makes them.
use Rattle.std.specs.Prelude.{ℕ, ◌+◌, ◌≤◌, ◌<◌, ◌≡◌, true, false, List, [], ◌++◌, length, take, drop}
use Rattle.station.specs.Stations.{fresh_station}
use Rattle.sequence.specs.Histories.{LentBytes, LentBuffer}
use Rattle.replay_desk.specs.LineAnswers.{answer_room}
use Rattle.replay_script.specs.ReplayRuns.{run_rule}
use Rattle.replay_feed.specs.declared.State.{State}
use Rattle.replay_feed.specs.LongLines.{longest}
use Rattle.replay_feed.specs.TurnContracts.{held_of}
use Rattle.replay_feed.proofs.start.Reads as start_reads
use Rattle.replay_feed.proofs.read_offset.Reads as offset_reads
use Rattle.replay_feed.proofs.turn.Reads as turn_reads

-- a read to an offset of the input buffer leaves what is before it, and the bytes that it brings fit behind it
pub record ReadAt (offset count : ℕ) (buffer after : List ℕ) : Type 0 where
  pub front : take offset after ≡ take offset buffer
  pub same : length after ≡ length buffer
  pub within : offset + count ≤ length buffer

-- the loop, from a state and what the two buffers hold to the state and the buffers that it leaves: while another turn is to follow, a read to the offset that the program gives, and the program's turn, whose answers are written. `input` is all that was read, `text` all that was written
pub data Loop : State → (buffer output input text : List ℕ) → State → (buffer_after output_after : List ℕ) → Type 0 where
  done : {s : State} {buffer output : List ℕ} → Loop s buffer output [] [] s buffer output
  turned : {s r end : State} {input text last_buffer last_output : List ℕ} (κ κ' κ'' : List ℕ) (buffer : LentBytes) (read after output written : LentBuffer) (offset count : ℕ) → s.going ≡ true → offset_reads.Learnt (κ, tt) (s, (buffer, tt)) offset (s, (buffer, tt)) → ReadAt offset count buffer.now read.now → turn_reads.Learnt (κ', (κ'', tt)) (s, (read, (count, (output, tt)))) r (s, (after, (count, (written, tt)))) → Loop r after.now written.now input text end last_buffer last_output → Loop s buffer.now output.now (take count (drop offset read.now) ++ input) (take r.filled written.now ++ text) end last_buffer last_output

-- the input buffer is larger than what a long line is cut to, and the output buffer has room for any answer
pub record Large (buffer output : List ℕ) : Type 0 where
  pub line : longest < length buffer
  pub answer : answer_room ≤ length output

-- a text is the front of a longer one
pub record FrontOf (text longer : List ℕ) : Type 0 where
  pub rest : List ℕ
  pub so : longer ≡ text ++ rest

-- of every loop that begins with the program's first state and large buffers
pub record Replays : Type 0 where
  -- where the script is whole, all that was written is the text of the rules' run over the lines of all that was read, and the station and the number of lines are the run's
  pub whole : {s end : State} {buffer output input text buffer₁ output₁ : List ℕ} → start_reads.Learnt tt tt s tt → Large buffer output → Loop s buffer output input text end buffer₁ output₁ → end.whole ≡ true → record { text = text; station = end.station; number = end.number } ≡ run_rule fresh_station 0 input
  -- while another turn is to follow, all that was written is the front of the run's text, whatever is still to be read
  pub front : {s end : State} {buffer output input text buffer₁ output₁ : List ℕ} → start_reads.Learnt tt tt s tt → Large buffer output → Loop s buffer output input text end buffer₁ output₁ → end.going ≡ true → (unread : List ℕ) → FrontOf text (run_rule fresh_station 0 (input ++ unread)).text
  -- where no other turn is to follow, the script is whole: no turn is refused
  pub ends : {s end : State} {buffer output input text buffer₁ output₁ : List ℕ} → start_reads.Learnt tt tt s tt → Large buffer output → Loop s buffer output input text end buffer₁ output₁ → end.going ≡ false → end.whole ≡ true
  -- the script is whole where a turn was to read and the read brought nothing
  pub at_end_law : {s end r : State} {buffer output input text : List ℕ} (κ κ' : List ℕ) (read after last written : LentBuffer) → start_reads.Learnt tt tt s tt → Large buffer output → Loop s buffer output input text end read.now last.now → end.going ≡ true → end.reading ≡ true → turn_reads.Learnt (κ, (κ', tt)) (end, (read, (0, (last, tt)))) r (end, (after, (0, (written, tt)))) → r.whole ≡ true
  -- and by no other turn
  pub only_at_end : {s r : State} (κ κ' : List ℕ) (read after output written : LentBuffer) (count : ℕ) → turn_reads.Learnt (κ, (κ', tt)) (s, (read, (count, (output, tt)))) r (s, (after, (count, (written, tt)))) → r.whole ≡ true → (s.reading ≡ true) × (count ≡ 0)
  -- a turn on whole lines that wait for room answers some: where others still wait, less is held than there was
  pub answers_some : {s r : State} (κ κ' : List ℕ) (buffer after output written : LentBuffer) → s.reading ≡ false → turn_reads.Learnt (κ, (κ', tt)) (s, (buffer, (0, (output, tt)))) r (s, (after, (0, (written, tt)))) → r.going ≡ true → r.reading ≡ false → length (held_of r after.now) < length (held_of s buffer.now)
