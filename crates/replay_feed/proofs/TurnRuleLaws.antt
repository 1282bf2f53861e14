-- Laws of the rule of a turn: what a turn answers, and what is then still to come, are what was to come; and a script ends with its last line.
use Rattle.std.specs.Prelude.{ℕ, suc, ◌+◌, ◌≤◌, ◌<◌, ◌≡◌, Bool, cond, ◌&&◌, eqb, leb, length}
use Rattle.std.proofs.Math.Path.{refl, sym, ap, subst}
use Rattle.std.proofs.Common.{◌∙◌, true≢false, arith, length-append, le-leb}
use Rattle.std.proofs.Math.Bool.{true, false}
use Rattle.std.proofs.lemmas.Bool.{false≢true}
use mathlib.Core.List.{List, [], ◌∷◌, ◌++◌, append_assoc, append-nil}
use Rattle.station.specs.declared.Station.{Station}
use Rattle.replay_desk.specs.LineAnswers.{answer_room}
use Rattle.text.specs.Words.{newline}
use Rattle.replay_script.specs.ReplayRuns.{Unbroken, none, more, next_number, answer_to, before, lines_after, run_lines, run_rule}
use Rattle.replay_script.specs.Shares.{Share, share_none, before_share, share_after, share_rule}
use Rattle.replay_script.proofs.ReplayRunLaws.{run_read, share_runs, left_unbroken, left_shorter}
use Rattle.replay_feed.specs.LongLines.{longest}
use Rattle.replay_feed.specs.Turns.{is_nothing, from_newline, Pending, Turned, at_start, lines_wait, line_held, answered, passed_over, feed_rule, script_ended, ended_with, end_rule, to_come}
use Rattle.replay_feed.proofs.HeldLaws.{held_unbroken, held_same}

-- what holds between two turns: before a read, what is held is part of one line
pub record Sound (p : Pending) : Type 0 where
  pub part : p.reading ≡ true → Unbroken p.held
  pub cut : p.cut ≡ true → p.reading ≡ true

-- another turn is to follow
pub record GoesOn (p : Pending) : Type 0 where
  pub going : p.going ≡ true
  pub whole : p.whole ≡ false

pub sound_start : Sound at_start
sound_start = record { part = λ e. none; cut = λ e. absurd (false≢true e) }

-- the rest of a line that is cut, in two parts
from_by : (c : ℕ) (t u : List ℕ) (nl e : Bool) → is_nothing (cond nl (c ∷ t) (from_newline t)) ≡ e → (is_nothing (from_newline t) ≡ e → from_newline (t ++ u) ≡ cond e (from_newline u) (from_newline t ++ u)) → cond nl (c ∷ (t ++ u)) (from_newline (t ++ u)) ≡ cond e (from_newline u) (cond nl (c ∷ t) (from_newline t) ++ u)
from_by c t u true e k next = ap (λ (b : Bool). cond b (from_newline u) (c ∷ (t ++ u))) k
from_by c t u false e k next = next k

from_append : (t u : List ℕ) (e : Bool) → is_nothing (from_newline t) ≡ e → from_newline (t ++ u) ≡ cond e (from_newline u) (from_newline t ++ u)
unfolding from_newline
from_append [] u e k = ap (λ (b : Bool). cond b (from_newline u) u) k
from_append (c ∷ t) u e k = from_by c t u (eqb c newline) e k (from_append t u e)

fewer_by : (c : ℕ) (t : List ℕ) (nl : Bool) → length (from_newline t) ≤ length t → length (cond nl (c ∷ t) (from_newline t)) ≤ suc (length t)
fewer_by c t true h = omega arith
fewer_by c t false h = omega (arith, h)

from_fewer : (t : List ℕ) → length (from_newline t) ≤ length t
unfolding from_newline
from_fewer [] = omega arith
from_fewer (c ∷ t) = fewer_by c t (eqb c newline) (from_fewer t)

-- whole lines are answered while there is room
module _ (st : Station) (number size room : ℕ) (large : longest < size) (text : List ℕ) where
  abbrev share : Share
  share = share_rule st number text room

  abbrev after_by : Bool → Pending
  after_by t = cond t (lines_wait share) (line_held size share)

  left_comes : (unread : List ℕ) (t : Bool) → share.full ≡ t → run_rule share.station share.number (share.left ++ unread) ≡ to_come (after_by t) unread
  unfolding to_come
  left_comes unread true e = refl
  left_comes unread false e =
      sym (held_same size share.left (left_unbroken st number text room e) large share.station share.number unread)

  answered_comes : (unread : List ℕ) → run_rule st number (text ++ unread) ≡ before share.text (to_come (answered size share).after unread)
  answered_comes unread =
      share_runs st number text unread room
      ∙ ap (before share.text) (left_comes unread share.full refl)

  sound_by : (t : Bool) → share.full ≡ t → Sound (after_by t)
  sound_by true e = record { part = λ e. absurd (false≢true e); cut = λ e. absurd (false≢true e) }
  sound_by false e =
      record { part = λ f. held_unbroken size share.left (left_unbroken st number text room e) large; cut = λ f. refl }

  answered_sound : Sound (answered size share).after
  answered_sound = sound_by share.full refl

  goes_by : (t : Bool) → GoesOn (after_by t)
  goes_by true = record { going = refl; whole = refl }
  goes_by false = record { going = refl; whole = refl }

  answered_goes : GoesOn (answered size share).after
  answered_goes = goes_by share.full

  shorter_by : (t : Bool) → share.full ≡ t → answer_room ≤ room → (after_by t).reading ≡ false → length (after_by t).held < length text
  shorter_by true e fits f = left_shorter st number text room fits e
  shorter_by false e fits f = absurd (true≢false f)

  answered_shorter : answer_room ≤ room → (answered size share).after.reading ≡ false → length (answered size share).after.held < length text
  answered_shorter = shorter_by share.full refl

-- a turn that goes on
module _ (size room : ℕ) (large : longest < size) (p : Pending) (input : List ℕ) where
  abbrev fed : (cut goes_on : Bool) → Turned
  fed cut goes_on =
      cond (cut && goes_on) (passed_over p)
      (answered size (share_rule p.station p.number (p.held ++ cond cut (from_newline input) input) room))

  comes_by : (unread : List ℕ) (t e : Bool) → is_nothing (from_newline input) ≡ e → run_rule p.station p.number (p.held ++ cond t (from_newline (input ++ unread)) (input ++ unread)) ≡ before (fed t e).text (to_come (fed t e).after unread)
  unfolding to_come
  comes_by unread true true k =
      ap (λ (l : List ℕ). run_rule p.station p.number (p.held ++ l)) (from_append input unread true k)
  comes_by unread true false k =
      ap (λ (l : List ℕ). run_rule p.station p.number (p.held ++ l)) (from_append input unread false k)
      ∙ ap (run_rule p.station p.number) (sym (append_assoc p.held (from_newline input) unread))
      ∙ answered_comes p.station p.number size room large (p.held ++ from_newline input) unread
  comes_by unread false e k =
      ap (run_rule p.station p.number) (sym (append_assoc p.held input unread))
      ∙ answered_comes p.station p.number size room large (p.held ++ input) unread

  pub feed_comes : (unread : List ℕ) → to_come p (input ++ unread) ≡ before (feed_rule size room p input).text (to_come (feed_rule size room p input).after unread)
  unfolding to_come feed_rule
  feed_comes unread = comes_by unread p.cut (is_nothing (from_newline input)) refl

  fed_sound : Sound p → (t e : Bool) → p.cut ≡ t → Sound (fed t e).after
  fed_sound s true true k = record { part = λ f. s.part (s.cut k); cut = λ f. refl }
  fed_sound s true false k = answered_sound p.station p.number size room large (p.held ++ from_newline input)
  fed_sound s false e k = answered_sound p.station p.number size room large (p.held ++ input)

  pub feed_sound : Sound p → Sound (feed_rule size room p input).after
  unfolding feed_rule
  feed_sound s = fed_sound s p.cut (is_nothing (from_newline input)) refl

  fed_goes : (t e : Bool) → GoesOn (fed t e).after
  fed_goes true true = record { going = refl; whole = refl }
  fed_goes true false = answered_goes p.station p.number size room large (p.held ++ from_newline input)
  fed_goes false e = answered_goes p.station p.number size room large (p.held ++ input)

  pub feed_goes : GoesOn (feed_rule size room p input).after
  unfolding feed_rule
  feed_goes = fed_goes p.cut (is_nothing (from_newline input))

  fed_shorter : answer_room ≤ room → (t e : Bool) → (fed t e).after.reading ≡ false → length (fed t e).after.held < length p.held + length input
  fed_shorter fits true true f = absurd (true≢false f)
  fed_shorter fits true false f =
      omega (arith, answered_shorter p.station p.number size room large (p.held ++ from_newline input) fits f, length-append p.held (from_newline input), from_fewer input)
  fed_shorter fits false e f =
      omega (arith, answered_shorter p.station p.number size room large (p.held ++ input) fits f, length-append p.held input)

  pub feed_shorter : answer_room ≤ room → (feed_rule size room p input).after.reading ≡ false → length (feed_rule size room p input).after.held < length p.held + length input
  unfolding feed_rule
  feed_shorter fits = fed_shorter fits p.cut (is_nothing (from_newline input))

-- the end of a script: all that was to come is answered
pub record Ended (p : Pending) (t : Turned) : Type 0 where
  pub answers : before t.text (record { text = []; station = t.after.station; number = t.after.number }) ≡ to_come p []
  pub whole : t.after.whole ≡ true
  pub going : t.after.going ≡ false

-- a last line that lacks its newline
last_share : (st : Station) (number : ℕ) {line : List ℕ} (read : List ℕ) (room : ℕ) → Unbroken line → leb answer_room room ≡ true → share_after st number read (line ++ (newline ∷ [])) room ≡ before_share (answer_to st number (read ++ line)).text (share_none (answer_to st number (read ++ line)).station (next_number number) [] false)
unfolding share_after
last_share st number read room none fits =
    (simp fits)
    ∙ ap (λ (l : List ℕ). before_share (answer_to st number l).text (share_none (answer_to st number l).station (next_number number) [] false)) (sym (append-nil read))
last_share st number read room (more {c = c} {text = line} e u) fits =
    (simp e)
    ∙ last_share st number (read ++ (c ∷ [])) room u fits
    ∙ ap (λ (l : List ℕ). before_share (answer_to st number l).text (share_none (answer_to st number l).station (next_number number) [] false)) (append_assoc read (c ∷ []) line)

nothing_read : (t : Bool) → cond t (from_newline []) [] ≡ []
unfolding from_newline
nothing_read true = refl
nothing_read false = refl

module _ (room : ℕ) (fits : answer_room ≤ room) (p : Pending) where
  to_come_law : to_come p [] ≡ run_rule p.station p.number p.held
  unfolding to_come
  to_come_law = ap (run_rule p.station p.number) (ap (λ (l : List ℕ). p.held ++ l) (nothing_read p.cut) ∙ append-nil p.held)

  abbrev ending : List ℕ → Turned
  ending held =
      cond (is_nothing held) (record { text = []; after = script_ended p.station p.number held })
      (ended_with (share_rule p.station p.number (held ++ (newline ∷ [])) room))

  abbrev last_answer : List ℕ → Share
  last_answer line =
      before_share (answer_to p.station p.number line).text (share_none (answer_to p.station p.number line).station (next_number p.number) [] false)

  last_is : {line : List ℕ} → Unbroken line → last_answer line ≡ share_rule p.station p.number (line ++ (newline ∷ [])) room
  unfolding share_rule
  last_is u = sym (last_share p.station p.number [] room u (le-leb answer_room room fits))

  last_run : (c : ℕ) (line : List ℕ) → Unbroken (c ∷ line) → before (last_answer (c ∷ line)).text (record { text = []; station = (last_answer (c ∷ line)).station; number = (last_answer (c ∷ line)).number }) ≡ run_rule p.station p.number (c ∷ line)
  unfolding run_lines lines_after
  last_run c line u =
      ap (λ (l : List ℕ). record { text = l; station = (last_answer (c ∷ line)).station; number = next_number p.number }) (append-nil ((answer_to p.station p.number (c ∷ line)).text ++ []))
      ∙ run_read p.station p.number [] u
      ∙ ap (run_rule p.station p.number) (append-nil (c ∷ line))

  ended_by_law : (held : List ℕ) → Unbroken held → run_rule p.station p.number held ≡ to_come p [] → Ended p (ending held)
  unfolding run_rule lines_after run_lines
  ended_by_law [] u k = record { answers = k; whole = refl; going = refl }
  ended_by_law (c ∷ line) u k =
      subst (λ (s : Share). Ended p (ended_with s)) (last_is u)
      (record { answers = last_run c line u ∙ k; whole = refl; going = refl })

  pub end_comes : Unbroken p.held → Ended p (end_rule room p)
  unfolding end_rule
  end_comes u = ended_by_law p.held u (sym to_come_law)
