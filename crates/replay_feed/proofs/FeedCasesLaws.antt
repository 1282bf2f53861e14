-- Laws of the cases of a turn one by one: whole lines wait, what is left is held, a cut line goes on or ends, and the script ends. No function needs them, since the cases of an end are answered together, and a search gives no offset where it finds nothing.
use Rattle.std.specs.Prelude.{ℕ, ◌+◌, ◌-◌, ◌≤◌, ◌<◌, ◌≡◌, refl, Bool, true, false, cond, Some, take, drop, set}
use Rattle.std.proofs.Common.{sym, ◌∙◌, subst, add-one, arith, length-set, length-drop, length-take-le, drop-drop, take-suc-set}
use Rattle.std.proofs.Math.Path.{ap}
use Rattle.std.proofs.lemmas.Bool.{false≢true}
use mathlib.Core.List.{List, [], ◌∷◌, ◌++◌}
use Rattle.std.proofs.Math.ListN.{length}
use Rattle.std.proofs.lemmas.List.{drop-append-le}
use borrow.Author.Tests.{eq-eqb}
use Rattle.station.specs.declared.Station.{Station}
use Rattle.text.specs.Words.{newline}
use Rattle.replay_script.specs.Finding.{index_of, slice, found_in}
use Rattle.replay_script.specs.declared.Progress.{Progress}
use Rattle.replay_script.specs.ScriptContracts.{share_of}
use Rattle.replay_script.specs.Shares.{share_rule}
use Rattle.replay_script.proofs.FindingLaws.{some_is, none_is}
use Rattle.replay_script.proofs.FindingLaws as finding
use Rattle.replay_feed.specs.declared.State.{State}
use Rattle.replay_feed.specs.LongLines.{held_text, held_cut}
use Rattle.replay_feed.specs.InputContracts.{Moves}
use Rattle.replay_feed.specs.Turns.{Turned, lines_wait, line_held, answered, feed_rule, script_ended, ended_with, end_rule}
use Rattle.replay_feed.specs.TurnContracts.{held_of, input_of, pending_of, turned_of, Standing}
use Rattle.replay_feed.proofs.MoveLaws.{part_is}
use Rattle.replay_feed.proofs.FeedLaws.{empty_size, input_is, held_size}
use Rattle.replay_feed.proofs.FeedLaws as feed

-- a part that is answered
module _ (st : Station) (number : ℕ) (b : List ℕ) (start size : ℕ) (ordered : start ≤ size) (within : size ≤ length b) (r : Progress) (room : ℕ) (out : List ℕ) where
  abbrev part : List ℕ
  part = take (size - start) (drop start b)

  abbrev held : List ℕ
  held = drop start (take size b)

  part_size : length part ≡ size - start
  part_size = length-take-le (size - start) (drop start b) (omega (arith, length-drop start b, within))

  pub used_within : r.used ≤ length part → start + r.used ≤ size
  used_within h = omega (arith, h, part_size, ordered)

  -- what is left of the part, with the flags that say what follows
  abbrev leaving : (reading going whole : Bool) → State
  leaving reading going whole =
      record {
        station = r.station;
        number = r.number;
        start = start + r.used;
        size = size;
        cut = false;
        reading = reading;
        going = going;
        whole = whole;
        filled = r.filled;
      }

  module _ (answers : share_of r part out ≡ share_rule st number part room) where
    answers_held : share_of r held out ≡ share_rule st number held room
    answers_held =
        subst (λ (l : List ℕ). share_of r l out ≡ share_rule st number l room) (part_is b start size ordered) answers

    abbrev left : List ℕ
    left = drop r.used held

    left_is : drop (start + r.used) (take size b) ≡ left
    left_is = sym (drop-drop r.used start (take size b))

    leaves : (reading going whole : Bool) → turned_of (leaving reading going whole) b out ≡ record { text = take r.filled out; after = record { station = r.station; number = r.number; held = left; cut = false; reading = reading; going = going; whole = whole } }
    leaves reading going whole =
        ap (λ (l : List ℕ). record { text = take r.filled out; after = record { station = r.station; number = r.number; held = l; cut = false; reading = reading; going = going; whole = whole } }) left_is

    pub waits : r.full ≡ true → turned_of (leaving false true false) b out ≡ answered (length b) (share_rule st number held room)
    waits is_full_law =
        leaves false true false
        ∙ ap (λ (t : Bool). record { text = take r.filled out; after = cond t (lines_wait (share_of r held out)) (line_held (length b) (share_of r held out)) }) (sym is_full_law)
        ∙ ap (answered (length b)) answers_held

    abbrev last : Bool → Turned
    last t = record { text = take r.filled out; after = cond t (lines_wait (share_of r held out)) (script_ended r.station r.number left) }

    pub waits_at_end : r.full ≡ true → turned_of (leaving false true false) b out ≡ ended_with (share_rule st number held room)
    waits_at_end is_full_law = leaves false true false ∙ ap last (sym is_full_law) ∙ ap ended_with answers_held

    pub ends : r.full ≡ false → turned_of (leaving false false true) b out ≡ ended_with (share_rule st number held room)
    ends not_full = leaves false false true ∙ ap last (sym not_full) ∙ ap ended_with answers_held

    pub left_stands : (going whole : Bool) → r.used ≤ length part → r.filled ≤ length out → Standing (leaving false going whole) b out
    left_stands going whole used filled =
        record {
          ordered = used_within used;
          within = within;
          room = λ e. absurd (false≢true e);
          filled = filled;
        }

    -- no whole line is left: what is left is moved down and held
    module _ (not_full : r.full ≡ false) {n : ℕ} {b₁ : List ℕ} (m : Moves 0 (start + r.used) size b n b₁) (same : length b ≡ length b₁) (size₁ : ℕ) (cut₁ : Bool) (b₂ : List ℕ) where
      abbrev holding : State
      holding =
          record {
            station = r.station;
            number = r.number;
            start = 0;
            size = size₁;
            cut = cut₁;
            reading = true;
            going = true;
            whole = false;
            filled = r.filled;
          }

      abbrev part_held : List ℕ → Bool → Turned
      part_held l t = record { text = take r.filled out; after = record { station = r.station; number = r.number; held = l; cut = t; reading = true; going = true; whole = false } }

      moved_is : take n b₁ ≡ left
      moved_is = m.text ∙ left_is

      pub holds : take size₁ b₂ ≡ held_text (length b₁) (take n b₁) → cut₁ ≡ held_cut (length b₁) (take n b₁) → turned_of holding b₂ out ≡ answered (length b) (share_rule st number held room)
      holds text cut =
          ap (λ (l : List ℕ). part_held l cut₁) (text ∙ ap (held_text (length b₁)) moved_is ∙ ap (λ (k : ℕ). held_text k left) (sym same))
          ∙ ap (part_held (held_text (length b) left)) (cut ∙ ap (held_cut (length b₁)) moved_is ∙ ap (λ (k : ℕ). held_cut k left) (sym same))
          ∙ ap (λ (t : Bool). record { text = take r.filled out; after = cond t (lines_wait (share_of r held out)) (line_held (length b) (share_of r held out)) }) (sym not_full)
          ∙ ap (answered (length b)) answers_held

      pub held_stands : size₁ < length b₂ → r.filled ≤ length out → Standing holding b₂ out
      held_stands fits filled =
          record {
            ordered = omega arith;
            within = omega (arith, fits);
            room = λ e. fits;
            filled = filled;
          }

-- what is read behind a line that is cut: the offset of its first newline, or its end where it has none
module _ (s : State) (b : List ℕ) (count room : ℕ) (ordered : s.start ≤ s.size) (fits : s.size + count ≤ length b) (is_cut : s.cut ≡ true) {at : ℕ} (found : at ≡ s.size + index_of newline (slice s.size (s.size + count) b)) where
  read_size : length (slice s.size (s.size + count) b) ≡ count
  read_size = omega (arith, finding.part_size s.size (s.size + count) b fits)

  pub at_is : at ≡ s.size + index_of newline (input_of s count b)
  unfolding slice
  at_is = found ∙ ap (λ (l : List ℕ). s.size + index_of newline l) (input_is s b count room ordered fits)

  -- there is no newline
  abbrev passing : State
  passing =
      record {
        station = s.station;
        number = s.number;
        start = s.start;
        size = s.size;
        cut = true;
        reading = true;
        going = true;
        whole = false;
        filled = 0;
      }

  pub passes : (out : List ℕ) → at ≡ s.size + count → turned_of passing b out ≡ feed_rule (length b) room (pending_of s b) (input_of s count b)
  passes out e =
      ap (λ (t : Bool). record { text = []; after = record { station = s.station; number = s.number; held = held_of s b; cut = t; reading = true; going = true; whole = false } }) (sym is_cut)
      ∙ feed.passes s b count room ordered fits is_cut out (none_is newline s.size (s.size + count) b (omega (arith, found, e, read_size)))

  pub passing_stands : (out : List ℕ) → s.size < length b → Standing passing b out
  passing_stands out free =
      record {
        ordered = ordered;
        within = omega (arith, free);
        room = λ e. free;
        filled = omega arith;
      }

  -- there is one: what follows it is moved behind what is held
  pub resumes : {n : ℕ} {b₁ : List ℕ} {turned : Turned} → (at ≡ s.size + count → ⊥) → at ≤ s.size + count → Moves s.size at (s.size + count) b n b₁ → length b ≡ length b₁ → turned ≡ answered (length b₁) (share_rule s.station s.number (drop s.start (take n b₁)) room) → turned ≡ feed_rule (length b) room (pending_of s b) (input_of s count b)
  resumes not_last bound m same k =
      let some : Some at ≡ found_in newline s.size (s.size + count) b = ap Some found ∙ some_is newline s.size (s.size + count) b (omega (arith, found, not_last, bound, read_size)) in
      feed.resumes s b count room ordered fits is_cut some m same k

-- the end of the script
module _ (s : State) (b : List ℕ) (room : ℕ) (ordered : s.start ≤ s.size) (free : s.size < length b) where
  abbrev ended : List ℕ
  ended = set b s.size newline

  abbrev ending : Bool → Turned
  ending t =
      cond t (record { text = []; after = script_ended s.station s.number (held_of s b) })
      (ended_with (share_rule s.station s.number (held_of s b ++ (newline ∷ [])) room))

  pub nothing_left : (out : List ℕ) → s.start ≡ s.size → turned_of (record { station = s.station; number = s.number; start = s.start; size = s.size; cut = false; reading = false; going = false; whole = true; filled = 0 }) b out ≡ end_rule room (pending_of s b)
  unfolding end_rule
  nothing_left out e = ap ending (sym (empty_size (held_of s b) (held_size s b room ordered free) ∙ eq-eqb (s.size - s.start) 0 (omega (arith, e))))

  pub nothing_stands : (out : List ℕ) → Standing (record { station = s.station; number = s.number; start = s.start; size = s.size; cut = false; reading = false; going = false; whole = true; filled = 0 }) b out
  nothing_stands out =
      record {
        ordered = ordered;
        within = omega (arith, free);
        room = λ e. absurd (false≢true e);
        filled = omega arith;
      }

  pub ended_within : s.size + 1 ≤ length ended
  ended_within = omega (arith, free, length-set b s.size newline)

  pub ended_is : drop s.start (take (s.size + 1) ended) ≡ held_of s b ++ (newline ∷ [])
  ended_is =
      ap (λ (n : ℕ). drop s.start (take n ended)) (add-one s.size)
      ∙ ap (drop s.start) (take-suc-set b s.size newline free)
      ∙ drop-append-le s.start (take s.size b) (newline ∷ []) (omega (arith, ordered, length-take-le s.size b (omega (arith, free))))

  pub last_answered : {turned : Turned} → (s.start ≡ s.size → ⊥) → turned ≡ ended_with (share_rule s.station s.number (drop s.start (take (s.size + 1) ended)) room) → turned ≡ end_rule room (pending_of s b)
  last_answered some k =
      feed.last_answered s b room ordered free {size = s.size + 1} {b₁ = ended} k (omega (arith, ordered, some)) refl refl
