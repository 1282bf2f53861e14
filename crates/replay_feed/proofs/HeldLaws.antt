-- Laws of what is held of a line: made shorter, it comes to the same run, whatever is read next.
use Rattle.std.specs.Prelude.{ℕ, zero, suc, ◌-◌, ◌<◌, ◌≡◌, refl, Bool, true, false, cond, List, [], ◌∷◌, ◌++◌, eqb, ltb, length, take, drop, get_or}
use Rattle.std.proofs.Common.{sym, ◌∙◌, ap, subst, append_assoc, append-nil, not-suc-le-zero, arith, length-append, length-drop, length-take-le, take-suc, leb-true, ltb-false}
use Rattle.std.proofs.Math.Seq.{take-length}
use Rattle.station.specs.declared.Station.{Station}
use Rattle.replay_line.specs.LineWords.{space}
use Rattle.replay_line.specs.LineCalls.{line_rule}
use Rattle.text.specs.Words.{newline}
use Rattle.replay_script.specs.ReplayRuns.{Unbroken, none, more, lines_after, run_lines, run_rule}
use Rattle.replay_script.proofs.ReplayRunLaws.{unbroken_append, run_read, same_answer_law, goes_on}
use Rattle.replay_feed.specs.LongLines.{is_spare, squeezed, squeezed_line, longest, is_cut, shortened, held_text, held_cut}
use Rattle.replay_feed.specs.Turns.{from_newline}
use Rattle.replay_feed.proofs.CutLaws.{going_on, cut_off}

-- parts of a text without a newline have none
unbroken_take : (n : ℕ) {t : List ℕ} → Unbroken t → Unbroken (take n t)
unbroken_take zero u = none
unbroken_take (suc n) none = none
unbroken_take (suc n) (more e u) = more e (unbroken_take n u)

unbroken_drop : (n : ℕ) {t : List ℕ} → Unbroken t → Unbroken (drop n t)
unbroken_drop zero u = u
unbroken_drop (suc n) none = none
unbroken_drop (suc n) (more e u) = unbroken_drop n u

either_unbroken : (t : Bool) {a b : List ℕ} → Unbroken a → Unbroken b → Unbroken (cond t a b)
either_unbroken true u v = u
either_unbroken false u v = v

unbroken_squeezed : (after : Bool) {t : List ℕ} → Unbroken t → Unbroken (squeezed after t)
unfolding squeezed
unbroken_squeezed after none = none
unbroken_squeezed after (more {c = c} e u) =
    either_unbroken (is_spare c after) (unbroken_squeezed after u) (more e (unbroken_squeezed (eqb c space) u))

unbroken_shortened : (line : List ℕ) → Unbroken line → Unbroken (shortened line)
unfolding shortened squeezed_line
unbroken_shortened line u = either_unbroken (is_cut line) (unbroken_take longest whole) whole
  where
    whole : Unbroken (squeezed false (take (length line - 1) line) ++ drop (length line - 1) line)
    whole =
        unbroken_append (unbroken_squeezed false (unbroken_take (length line - 1) u)) (unbroken_drop (length line - 1) u)

-- a line that is made shorter is not empty
some_left : (line : List ℕ) → 0 < length line → (t : Bool) → is_cut line ≡ t → 0 < length (cond t (take longest (squeezed_line line)) (squeezed_line line))
unfolding squeezed_line
some_left line some true e =
    omega (arith, length-take-le longest (squeezed_line line) (omega (arith, leb-true (suc longest) (length (squeezed_line line)) e)))
some_left line some false e =
    omega (arith, length-append (squeezed false (take (length line - 1) line)) (drop (length line - 1) line), length-drop (length line - 1) line)

shortened_some : (line : List ℕ) → 0 < length line → 0 < length (shortened line)
unfolding shortened
shortened_some line some = some_left line some (is_cut line) refl

goes_on_some : (st : Station) (number : ℕ) (a b t : List ℕ) → 0 < length a → 0 < length b → ((following : List ℕ) → line_rule (a ++ following) ≡ line_rule (b ++ following)) → run_lines st number (lines_after a t) ≡ run_lines st number (lines_after b t)
goes_on_some st number [] b t h k same = absurd (not-suc-le-zero h)
goes_on_some st number (x ∷ a) [] t h k same = absurd (not-suc-le-zero k)
goes_on_some st number (x ∷ a) (y ∷ b) t h k same = goes_on st number x y a b t same

-- a line that is cut: the rest of it is passed over
at_newline : (read : List ℕ) (c : ℕ) (t : List ℕ) → eqb c newline ≡ true → lines_after read (c ∷ t) ≡ read ∷ lines_after [] t
unfolding lines_after
at_newline read c t e = simp e

cut_by : (st : Station) (number : ℕ) (a b : List ℕ) (c : ℕ) (t : List ℕ) (nl : Bool) → eqb c newline ≡ nl → ((following : List ℕ) → line_rule a ≡ line_rule (b ++ following)) → run_lines st number (lines_after a (from_newline t)) ≡ run_lines st number (lines_after (b ++ (c ∷ [])) t) → run_lines st number (lines_after a (cond nl (c ∷ t) (from_newline t))) ≡ run_lines st number (cond nl (b ∷ lines_after [] t) (lines_after (b ++ (c ∷ [])) t))
cut_by st number a b c t true e same next =
    ap (run_lines st number) (at_newline a c t e)
    ∙ same_answer_law st number a b (lines_after [] t) (same [] ∙ ap line_rule (append-nil b))
cut_by st number a b c t false e same next = next

cut_run : (st : Station) (number x y : ℕ) (a b t : List ℕ) → ((following : List ℕ) → line_rule (x ∷ a) ≡ line_rule ((y ∷ b) ++ following)) → run_lines st number (lines_after (x ∷ a) (from_newline t)) ≡ run_lines st number (lines_after (y ∷ b) t)
unfolding lines_after from_newline
cut_run st number x y a b [] same =
    same_answer_law st number (x ∷ a) (y ∷ b) [] (same [] ∙ ap line_rule (append-nil (y ∷ b)))
cut_run st number x y a b (c ∷ t) same =
    cut_by st number (x ∷ a) (y ∷ b) c t (eqb c newline) refl same (cut_run st number x y a (b ++ (c ∷ [])) t (λ following. same (c ∷ following) ∙ ap line_rule (sym (append_assoc (y ∷ b) (c ∷ []) following))))

cut_run_some : (st : Station) (number : ℕ) (a b t : List ℕ) → 0 < length a → 0 < length b → ((following : List ℕ) → line_rule a ≡ line_rule (b ++ following)) → run_lines st number (lines_after a (from_newline t)) ≡ run_lines st number (lines_after b t)
cut_run_some st number [] b t h k same = absurd (not-suc-le-zero h)
cut_run_some st number (x ∷ a) [] t h k same = absurd (not-suc-le-zero k)
cut_run_some st number (x ∷ a) (y ∷ b) t h k same = cut_run st number x y a b t same

-- a line made shorter
module _ (st : Station) (number : ℕ) (following : List ℕ) where
  module _ (front : List ℕ) (last : ℕ) (u : Unbroken (front ++ (last ∷ []))) where
    abbrev whole : List ℕ
    whole = front ++ (last ∷ [])

    some : 0 < length whole
    some = omega (arith, length-append front (last ∷ []))

    shorter_by : (t : Bool) → is_cut whole ≡ t → run_rule st number (shortened whole ++ cond t (from_newline following) following) ≡ run_rule st number (whole ++ following)
    shorter_by true e =
        sym (run_read st number (from_newline following) (unbroken_shortened whole u))
        ∙ cut_run_some st number (shortened whole) whole following (shortened_some whole some) some (cut_off front last e)
        ∙ run_read st number following u
    shorter_by false e =
        sym (run_read st number following (unbroken_shortened whole u))
        ∙ goes_on_some st number (shortened whole) whole following (shortened_some whole some) some (going_on front last e)
        ∙ run_read st number following u

  shorter : (line : List ℕ) → Unbroken line → 0 < length line → run_rule st number (shortened line ++ cond (is_cut line) (from_newline following) following) ≡ run_rule st number (line ++ following)
  shorter line u some =
      subst (λ (l : List ℕ). run_rule st number (shortened l ++ cond (is_cut l) (from_newline following) following) ≡ run_rule st number (l ++ following)) (sym parts)
      (shorter_by (take (length line - 1) line) (get_or line (length line - 1) 0) (subst Unbroken parts u) (is_cut (take (length line - 1) line ++ (get_or line (length line - 1) 0 ∷ []))) refl)
    where
      size : length line ≡ suc (length line - 1)
      size = omega (arith, some)

      parts : line ≡ take (length line - 1) line ++ (get_or line (length line - 1) 0 ∷ [])
      parts =
          sym (take-length line)
          ∙ ap (λ (n : ℕ). take n line) size
          ∙ take-suc line (length line - 1) 0 (omega (arith, some))

-- what is held of a part of a line that is left over
module _ (size : ℕ) (part : List ℕ) (u : Unbroken part) (large : longest < size) where
  held_by : (t : Bool) → Unbroken (cond t part (shortened part))
  held_by true = u
  held_by false = unbroken_shortened part u

  pub held_unbroken : Unbroken (held_text size part)
  held_unbroken = held_by (ltb (length part) size)

  same_by : (st : Station) (number : ℕ) (following : List ℕ) (t : Bool) → ltb (length part) size ≡ t → run_rule st number (cond t part (shortened part) ++ cond (cond t false (is_cut part)) (from_newline following) following) ≡ run_rule st number (part ++ following)
  same_by st number following true e = refl
  same_by st number following false e =
      shorter st number following part u (omega (arith, large, ltb-false (length part) size e))

  pub held_same : (st : Station) (number : ℕ) (following : List ℕ) → run_rule st number (held_text size part ++ cond (held_cut size part) (from_newline following) following) ≡ run_rule st number (part ++ following)
  held_same st number following = same_by st number following (ltb (length part) size) refl
