-- Laws of the functions of a turn: what they leave in the buffers is what the rule gives.
use Rattle.std.specs.Prelude.{ℕ, suc, ◌+◌, ◌-◌, ◌≤◌, ◌<◌, ◌≡◌, refl, Bool, true, false, cond, not, None, Some, ◌&&◌, eqb, take, drop, set}
use Rattle.std.proofs.Common.{sym, ◌∙◌, subst, add-one, not-suc-le-zero, arith, length-drop, length-take-le, drop_at, drop-drop, drop_of_length-le, take-add, take-suc-set}
use Rattle.std.proofs.Math.Path.{ap}
use mathlib.Core.List.{List, [], ◌∷◌, ◌++◌}
use Rattle.std.proofs.Math.ListN.{length}
use Rattle.std.proofs.lemmas.List.{drop-append-le}
use borrow.Author.Tests.{eq-eqb, ne_eqb}
use Rattle.replay_script.specs.Finding.{index_of, index_after, slice, found_in}
use Rattle.station.specs.declared.Station.{Station}
use Rattle.replay_script.specs.declared.Progress.{Progress}
use Rattle.replay_script.specs.ScriptContracts.{share_of}
use Rattle.replay_script.proofs.FindingLaws.{Found, found, not_found}
use Rattle.text.specs.Words.{newline}
use Rattle.replay_script.specs.Shares.{share_after, share_rule}
use Rattle.replay_feed.specs.declared.State.{State}
use Rattle.replay_feed.specs.InputContracts.{Moves}
use Rattle.replay_feed.specs.Turns.{is_nothing, from_newline, Turned, lines_wait, answered, passed_over, feed_rule, script_ended, ended_with, end_rule}
use Rattle.replay_feed.specs.TurnContracts.{held_of, input_of, pending_of, turned_of}
use Rattle.replay_feed.proofs.MoveLaws.{part_is}

pub empty_size : (t : List ℕ) {n : ℕ} → length t ≡ n → is_nothing t ≡ eqb n 0
empty_size [] {n} e = sym (eq-eqb n 0 (sym e))
empty_size (c ∷ t) {n} e = sym (ne_eqb n 0 (λ z. omega (arith, e, z)))

-- whole lines that are answered: others wait, or none is left
module _ (st : Station) (number : ℕ) (b : List ℕ) (start size : ℕ) (ordered : start ≤ size) (r : Progress) (room : ℕ) (out : List ℕ) where
  abbrev held : List ℕ
  held = drop start (take size b)

  abbrev left : List ℕ
  left = drop r.used held

  abbrev leaves : List ℕ → (waits : Bool) → Turned
  leaves l waits =
      record { text = take r.filled out; after = record { station = r.station; number = r.number; held = l; cut = false; reading = false; going = waits; whole = not waits } }

  by_full : (t : Bool) → leaves left t ≡ record { text = take r.filled out; after = cond t (lines_wait (share_of r held out)) (script_ended r.station r.number left) }
  by_full true = refl
  by_full false = refl

  pub lines_answered : share_of r (take (size - start) (drop start b)) out ≡ share_rule st number (take (size - start) (drop start b)) room → turned_of (record { station = r.station; number = r.number; start = start + r.used; size = size; cut = false; reading = false; going = r.full; whole = not r.full; filled = r.filled }) b out ≡ ended_with (share_rule st number held room)
  lines_answered answers =
      ap (λ (l : List ℕ). leaves l r.full) (sym (drop-drop r.used start (take size b)))
      ∙ by_full r.full
      ∙ ap ended_with (subst (λ (l : List ℕ). share_of r l out ≡ share_rule st number l room) (part_is b start size ordered) answers)

-- the text of what is held and what is read behind it
behind : (b : List ℕ) (start size count : ℕ) → start ≤ size → size + count ≤ length b → drop start (take (size + count) b) ≡ drop start (take size b) ++ take count (drop size b)
behind b start size count h room =
    ap (drop start) (take-add size count b)
    ∙ drop-append-le start (take size b) (take count (drop size b)) (omega (arith, h, length-take-le size b (omega (arith, room))))

-- the first newline of what is read behind a cut line
newline_by : (c : ℕ) (t : List ℕ) (k : ℕ) (nl : Bool) → index_after nl k < suc (length t) → (k < length t → from_newline t ≡ drop k t) → cond nl (c ∷ t) (from_newline t) ≡ drop (index_after nl k) (c ∷ t)
unfolding index_after
newline_by c t k true h next = refl
newline_by c t k false h next = next (omega (arith, h))

from_newline_law : (t : List ℕ) → index_of newline t < length t → from_newline t ≡ drop (index_of newline t) t
unfolding from_newline index_of
from_newline_law [] h = absurd (not-suc-le-zero h)
from_newline_law (c ∷ t) h = newline_by c t (index_of newline t) (eqb c newline) h (from_newline_law t)

none_by : (c : ℕ) (t : List ℕ) (k : ℕ) (nl : Bool) → suc (length t) ≤ index_after nl k → (length t ≤ k → from_newline t ≡ []) → cond nl (c ∷ t) (from_newline t) ≡ []
unfolding index_after
none_by c t k true h next = absurd (not-suc-le-zero h)
none_by c t k false h next = next (omega (arith, h))

no_newline : (t : List ℕ) → length t ≤ index_of newline t → from_newline t ≡ []
unfolding from_newline index_of
no_newline [] h = refl
no_newline (c ∷ t) h = none_by c t (index_of newline t) (eqb c newline) h (no_newline t)

-- what is read
module _ (s : State) (b : List ℕ) (count room : ℕ) (ordered : s.start ≤ s.size) (fits : s.size + count ≤ length b) where
  abbrev input : List ℕ
  input = input_of s count b

  pub input_is : drop s.size (take (s.size + count) b) ≡ input
  input_is =
      ap (drop s.size) (take-add s.size count b)
      ∙ drop_at (take s.size b) input s.size (length-take-le s.size b (omega (arith, fits)))

  pub input_size : length input ≡ count
  input_size = length-take-le count (drop s.size b) (omega (arith, length-drop s.size b, fits))

  -- by whether a line is cut, and whether it goes on behind what was read
  abbrev fed : (cut goes_on : Bool) → Turned
  fed cut goes_on =
      cond (cut && goes_on) (passed_over (pending_of s b))
      (answered (length b) (share_rule s.station s.number (held_of s b ++ cond cut (from_newline input) input) room))

  -- the bytes go to a line that is not cut
  pub goes : {turned : Turned} → s.cut ≡ false → turned ≡ answered (length b) (share_rule s.station s.number (drop s.start (take (s.size + count) b)) room) → turned ≡ feed_rule (length b) room (pending_of s b) input
  unfolding feed_rule
  goes e k =
      k
      ∙ ap (λ (l : List ℕ). answered (length b) (share_rule s.station s.number l room)) (behind b s.start s.size count ordered fits)
      ∙ ap (λ (t : Bool). fed t (is_nothing (from_newline input))) (sym e)

  -- a line that is cut goes on
  module _ (is_cut : s.cut ≡ true) where
    pub passes : (out : List ℕ) → None ≡ found_in newline s.size (s.size + count) b → turned_of (record s { reading = true; going = true; whole = false; filled = 0 }) b out ≡ feed_rule (length b) room (pending_of s b) input
    unfolding feed_rule slice
    passes out none =
        let past : length input ≤ index_of newline input = subst (λ (l : List ℕ). length l ≤ index_of newline l) input_is (not_found newline s.size (s.size + count) b none) in
        ap (λ (t : Bool). record { text = []; after = record { station = s.station; number = s.number; held = held_of s b; cut = t; reading = true; going = true; whole = false } }) is_cut
        ∙ ap (fed true) (sym (ap is_nothing (no_newline input past)))
        ∙ ap (λ (t : Bool). fed t (is_nothing (from_newline input))) (sym is_cut)

    -- it ends: what follows it is moved behind what is held
    pub resumes : {at n : ℕ} {b₁ : List ℕ} {turned : Turned} → Some at ≡ found_in newline s.size (s.size + count) b → Moves s.size at (s.size + count) b n b₁ → length b ≡ length b₁ → turned ≡ answered (length b₁) (share_rule s.station s.number (drop s.start (take n b₁)) room) → turned ≡ feed_rule (length b) room (pending_of s b) input
    unfolding feed_rule slice
    resumes {at} {n} {b₁} is m same k =
        k
        ∙ ap (λ (size : ℕ). answered size (share_rule s.station s.number (drop s.start (take n b₁)) room)) (sym same)
        ∙ ap (λ (l : List ℕ). answered (length b) (share_rule s.station s.number l room)) held_is
        ∙ ap (fed true) (sym some)
        ∙ ap (λ (t : Bool). fed t (is_nothing (from_newline input))) (sym is_cut)
      where
        there : Found newline s.size (s.size + count) b at
        there = found newline s.size (s.size + count) b is

        at_is : at ≡ s.size + index_of newline input
        at_is = subst (λ (l : List ℕ). at ≡ s.size + index_of newline l) input_is there.so

        index : index_of newline input < length input
        index = subst (λ (l : List ℕ). index_of newline l < length l) input_is there.within

        some : is_nothing (from_newline input) ≡ false
        some =
            empty_size (from_newline input) (ap length (from_newline_law input index) ∙ length-drop (index_of newline input) input)
            ∙ ne_eqb (length input - index_of newline input) 0 (λ e. omega (arith, index, e))

        rest_is : drop at (take (s.size + count) b) ≡ from_newline input
        rest_is =
            ap (λ (k : ℕ). drop k (take (s.size + count) b)) at_is
            ∙ sym (drop-drop (index_of newline input) s.size (take (s.size + count) b))
            ∙ ap (drop (index_of newline input)) input_is
            ∙ sym (from_newline_law input index)

        held_is : drop s.start (take n b₁) ≡ held_of s b ++ from_newline input
        held_is =
            ap (drop s.start) m.text
            ∙ drop-append-le s.start (take s.size b) (drop at (take (s.size + count) b)) (omega (arith, ordered, length-take-le s.size b (omega (arith, fits))))
            ∙ ap (λ (l : List ℕ). held_of s b ++ l) rest_is

-- the end of the script
module _ (s : State) (b : List ℕ) (room : ℕ) (ordered : s.start ≤ s.size) (free : s.size < length b) where
  pub held_size : length (held_of s b) ≡ s.size - s.start
  held_size =
      length-drop s.start (take s.size b)
      ∙ ap (λ (n : ℕ). n - s.start) (length-take-le s.size b (omega (arith, free)))

  abbrev ending : Bool → Turned
  ending t =
      cond t (record { text = []; after = script_ended s.station s.number (held_of s b) })
      (ended_with (share_rule s.station s.number (held_of s b ++ (newline ∷ [])) room))

  -- what is answered lies in a buffer up to an offset
  module _ {size : ℕ} {b₁ : List ℕ} {turned : Turned} (so : turned ≡ ended_with (share_rule s.station s.number (drop s.start (take size b₁)) room)) where
    pub nothing_left : s.size ≤ s.start → b₁ ≡ b → size ≡ s.size → turned ≡ end_rule room (pending_of s b)
    unfolding end_rule share_rule share_after
    nothing_left none same_buffer same_size =
        let empty : held_of s b ≡ [] = drop_of_length-le (take s.size b) (omega (arith, none, length-take-le s.size b (omega (arith, free)))) in
        so
        ∙ ap (λ (l : List ℕ). ended_with (share_rule s.station s.number (drop s.start (take size l)) room)) same_buffer
        ∙ ap (λ (n : ℕ). ended_with (share_rule s.station s.number (drop s.start (take n b)) room)) same_size
        ∙ ap (λ (l : List ℕ). ended_with (share_rule s.station s.number l room)) empty
        ∙ sym (ap (λ (l : List ℕ). cond (is_nothing l) (record { text = []; after = script_ended s.station s.number l }) (ended_with (share_rule s.station s.number (l ++ (newline ∷ [])) room))) empty)

    pub last_answered : s.start < s.size → b₁ ≡ set b s.size newline → size ≡ s.size + 1 → turned ≡ end_rule room (pending_of s b)
    unfolding end_rule
    last_answered some ended one_more =
        so
        ∙ ap (λ (l : List ℕ). ended_with (share_rule s.station s.number l room)) ended_is
        ∙ ap ending (sym (empty_size (held_of s b) held_size ∙ ne_eqb (s.size - s.start) 0 (λ e. omega (arith, some, e))))
      where
        ended_is : drop s.start (take size b₁) ≡ held_of s b ++ (newline ∷ [])
        ended_is =
            ap (λ (n : ℕ). drop s.start (take n b₁)) (one_more ∙ add-one s.size)
            ∙ ap (λ (l : List ℕ). drop s.start (take (suc s.size) l)) ended
            ∙ ap (drop s.start) (take-suc-set b s.size newline free)
            ∙ drop-append-le s.start (take s.size b) (newline ∷ []) (omega (arith, ordered, length-take-le s.size b (omega (arith, free))))
