-- What the statement on the loop of replay is used for: each turn of the program is one of the loop, and a script is answered alike in whatever parts it is read.
use Rattle.std.specs.Prelude.{ℕ, ◌<◌, ◌≡◌, refl, true, false, List, [], ◌∷◌, ◌++◌, length, take, drop}
use Rattle.std.proofs.Common.{sym, ◌∙◌, ap, arith, length-append, take_at}
use Rattle.std.specs.Borrow.{Bor, MutBor}
use Rattle.station.specs.Stations.{fresh_station}
use Rattle.replay_script.specs.ReplayRuns.{Ran, run_rule}
use Rattle.replay_feed.specs.declared.State.{State}
use Rattle.replay_feed.specs.TurnContracts.{held_of}
use Rattle.replay_feed.proofs.start.Reads as start_reads
use Rattle.replay_feed.proofs.read_offset.Reads as offset_reads
use Rattle.replay_feed.proofs.turn.Reads as turn_reads
use Rattle.replay.specs.ReplayTurns.{ReadAt, Loop, done, turned, Large, FrontOf, Replays}

-- any bytes may be read, or none
any_bytes : (front old bytes rest : List ℕ) → length old ≡ length bytes → ReadAt (length front) (length bytes) (front ++ (old ++ rest)) (front ++ (bytes ++ rest))
any_bytes front old bytes rest same =
    record {
      front = take_at front (bytes ++ rest) (length front) refl ∙ sym (take_at front (old ++ rest) (length front) refl);
      same = omega (arith, same, length-append front (bytes ++ rest), length-append front (old ++ rest), length-append bytes rest, length-append old rest);
      within = omega (arith, same, length-append front (old ++ rest), length-append old rest);
    }

-- the program's buffers
buffers : (buffer output : List ℕ) → length buffer ≡ 65536 → length output ≡ 65536 → Large buffer output
buffers buffer output e f = record { line = omega (arith, e); answer = omega (arith, f) }

one_turn : (κ κ' κ'' : List ℕ) (s r : State) (buffer : Bor (List ℕ)) (read after output written : MutBor (List ℕ)) (offset count : ℕ) → s.going ≡ true → offset_reads.Learnt (κ, tt) (s, (buffer, tt)) offset (s, (buffer, tt)) → ReadAt offset count buffer.now read.now → turn_reads.Learnt (κ', (κ'', tt)) (s, (read, (count, (output, tt)))) r (s, (after, (count, (written, tt)))) → Loop s buffer.now output.now (take count (drop offset read.now) ++ []) (take r.filled written.now ++ []) r after.now written.now
one_turn κ κ' κ'' s r buffer read after output written offset count going at reads learnt =
    turned κ κ' κ'' buffer read after output written offset count going at reads learnt done

module _ (holds : Replays) {s end : State} {buffer output input text buffer₁ output₁ : List ℕ} (start : start_reads.Learnt tt tt s tt) (large : Large buffer output) (loop : Loop s buffer output input text end buffer₁ output₁) where
  same_script : {s₁ end₁ : State} {b o text₁ b₁ o₁ : List ℕ} → start_reads.Learnt tt tt s₁ tt → Large b o → Loop s₁ b o input text₁ end₁ b₁ o₁ → end.whole ≡ true → end₁.whole ≡ true → text ≡ text₁
  same_script start₁ large₁ loop₁ whole whole₁ =
      ap (λ (r : Ran). r.text) (holds.whole start large loop whole ∙ sym (holds.whole start₁ large₁ loop₁ whole₁))

  -- the number of lines too
  last_number : end.whole ≡ true → end.number ≡ (run_rule fresh_station 0 input).number
  last_number whole = ap (λ (r : Ran). r.number) (holds.whole start large loop whole)

  -- what is written stays right, whatever byte comes next
  written_so_far : (c : ℕ) → end.going ≡ true → FrontOf text (run_rule fresh_station 0 (input ++ (c ∷ []))).text
  written_so_far c going = holds.front start large loop going (c ∷ [])

  ended_whole : end.going ≡ false → end.whole ≡ true
  ended_whole stops = holds.ends start large loop stops

nothing_read : Replays → {s end r : State} {buffer output input text : List ℕ} (κ κ' : List ℕ) (read after last written : MutBor (List ℕ)) → start_reads.Learnt tt tt s tt → Large buffer output → Loop s buffer output input text end read.now last.now → end.going ≡ true → end.reading ≡ true → turn_reads.Learnt (κ, (κ', tt)) (end, (read, (0, (last, tt)))) r (end, (after, (0, (written, tt)))) → r.whole ≡ true
nothing_read holds κ κ' read after last written start large loop going reading learnt =
    holds.at_end_law κ κ' read after last written start large loop going reading learnt

-- a turn to which a byte was read leaves the script unended
one_byte_read : Replays → {s r : State} (κ κ' : List ℕ) (read after output written : MutBor (List ℕ)) → turn_reads.Learnt (κ, (κ', tt)) (s, (read, (1, (output, tt)))) r (s, (after, (1, (written, tt)))) → r.whole ≡ true → ⊥
one_byte_read holds κ κ' read after output written learnt whole =
    omega (arith, (holds.only_at_end κ κ' read after output written 1 learnt whole).1)

lines_waiting : Replays → {s r : State} (κ κ' : List ℕ) (buffer after output written : MutBor (List ℕ)) → s.reading ≡ false → turn_reads.Learnt (κ, (κ', tt)) (s, (buffer, (0, (output, tt)))) r (s, (after, (0, (written, tt)))) → r.going ≡ true → r.reading ≡ false → length (held_of r after.now) < length (held_of s buffer.now)
lines_waiting holds κ κ' buffer after output written waits learnt going waiting =
    holds.answers_some κ κ' buffer after output written waits learnt going waiting
