-- Laws of the run over a script's lines: what is answered of a text and the run over what is left are the run over the text, and a line gives what another gives that is the same call.
use Rattle.std.specs.Prelude.{◌≡◌, ℕ, suc, ◌+◌, ◌-◌, ◌<◌, ◌≤◌, Bool, true, false, cond, T, leb, List, [], ◌∷◌, ◌++◌, length, ◌==◌, nat_eq, nat_le, refl}
use Rattle.std.proofs.Math.Path.{sym, ap}
use Rattle.std.proofs.Common.{◌∙◌, subst, append_assoc, append-nil, arith, length-append, le-leb}
use Rattle.station.specs.declared.Station.{Station}
use Rattle.replay_line.specs.Commands.{Command}
use Rattle.replay_line.specs.LineCalls.{line_rule}
use Rattle.replay_desk.specs.LineAnswers.{answer_room, command_rule}
use Rattle.text.specs.Words.{newline}
use Rattle.replay_script.specs.ReplayRuns.{Unbroken, none, more, lines_after, next_number, answer_to, Ran, before, run_lines, run_rule}
use Rattle.replay_script.specs.Shares.{Share, share_none, before_share, share_after, share_rule}

pub unbroken_append : {s t : List ℕ} → Unbroken s → Unbroken t → Unbroken (s ++ t)
unbroken_append none u = u
unbroken_append (more e s) u = more e (unbroken_append s u)

-- what is read of a line is part of it
pub lines_read : {t : List ℕ} (read following : List ℕ) → Unbroken t → lines_after read (t ++ following) ≡ lines_after (read ++ t) following
unfolding lines_after
lines_read read following none = ap (λ (l : List ℕ). lines_after l following) (sym (append-nil read))
lines_read read following (more {c = c} {text = t} e u) =
    (simp e)
    ∙ lines_read (read ++ (c ∷ [])) following u
    ∙ ap (λ (l : List ℕ). lines_after l following) (append_assoc read (c ∷ []) t)

-- the run over a text whose first line is read up to here
pub run_read : (st : Station) (number : ℕ) {read : List ℕ} (t : List ℕ) → Unbroken read → run_lines st number (lines_after read t) ≡ run_rule st number (read ++ t)
unfolding run_rule
run_read st number t u = ap (run_lines st number) (sym (lines_read [] t u))

-- what a share leaves comes to the rest of the run
abbrev followed : Share → List ℕ → Ran
followed s following = before s.text (run_rule s.station s.number (s.left ++ following))

-- after a newline: the shares of the text that follows, and of the whole
abbrev rest_share : Station → (number : ℕ) → (read t : List ℕ) → (room : ℕ) → Share
rest_share st number read t room =
    share_after (answer_to st number read).station (next_number number) [] t (room - length (answer_to st number read).text)

abbrev ended_share : Station → (number : ℕ) → (read : List ℕ) → (c : ℕ) → (t : List ℕ) → (room : ℕ) → (fits : Bool) → Share
ended_share st number read c t room fits =
    cond fits (before_share (answer_to st number read).text (rest_share st number read t room))
    (share_none st number (read ++ (c ∷ t)) true)

-- by the next byte
module _ (st : Station) (number : ℕ) (read : List ℕ) (u : Unbroken read) (c : ℕ) (t following : List ℕ) (room : ℕ) where
  abbrev rest : Share
  rest = rest_share st number read t room

  abbrev ended : Bool → Share
  ended = ended_share st number read c t room

  is_line : nat_eq c newline ≡ true → run_lines st number (read ∷ lines_after [] (t ++ following)) ≡ run_lines st number (lines_after read (c ∷ (t ++ following)))
  unfolding lines_after
  is_line e = sym (simp e)

  line_run : nat_eq c newline ≡ true → run_lines (answer_to st number read).station (next_number number) (lines_after [] (t ++ following)) ≡ followed rest following → (fits : Bool) → run_lines st number (read ∷ lines_after [] (t ++ following)) ≡ followed (ended fits) following
  unfolding run_lines
  line_run e next true =
      let follows = run_rule rest.station rest.number (rest.left ++ following) in
      ap (before (answer_to st number read).text) next
      ∙ ap (λ (l : List ℕ). record { text = l; station = follows.station; number = follows.number }) (sym (append_assoc (answer_to st number read).text rest.text follows.text))
  line_run e next false =
      is_line e
      ∙ run_read st number ((c ∷ t) ++ following) u
      ∙ ap (run_rule st number) (sym (append_assoc read (c ∷ t) following))

  byte_run : (b : Bool) → (c == newline) ≡ b → run_lines (answer_to st number read).station (next_number number) (lines_after [] (t ++ following)) ≡ followed rest following → (Unbroken (read ++ (c ∷ [])) → run_lines st number (lines_after (read ++ (c ∷ [])) (t ++ following)) ≡ followed (share_after st number (read ++ (c ∷ [])) t room) following) → run_lines st number (cond b (read ∷ lines_after [] (t ++ following)) (lines_after (read ++ (c ∷ [])) (t ++ following))) ≡ followed (cond b (ended (nat_le answer_room room)) (share_after st number (read ++ (c ∷ [])) t room)) following
  byte_run true e next same = line_run e next (nat_le answer_room room)
  byte_run false e next same = same (unbroken_append u (more e none))

pub run_share : (st : Station) (number : ℕ) {read : List ℕ} (t following : List ℕ) (room : ℕ) → Unbroken read → run_lines st number (lines_after read (t ++ following)) ≡ followed (share_after st number read t room) following
unfolding share_after lines_after
run_share st number [] following room u = run_read st number following u
run_share st number {read} (c ∷ t) following room u =
    byte_run st number read u c t following room (c == newline) refl (run_share (answer_to st number read).station (next_number number) t following (room - length (answer_to st number read).text) none) (run_share st number t following room)

-- the run over a text is what is answered of it, and then the run over what is left
pub share_runs : (st : Station) (number : ℕ) (t following : List ℕ) (room : ℕ) → run_rule st number (t ++ following) ≡ followed (share_rule st number t room) following
unfolding run_rule share_rule
share_runs st number t following room = run_share st number t following room none

-- what is left is part of a line, unless there was no room
module _ (st : Station) (number : ℕ) (read : List ℕ) (u : Unbroken read) (c : ℕ) (t : List ℕ) (room : ℕ) where
  part_by : (fits : Bool) → ((rest_share st number read t room).full ≡ false → Unbroken (rest_share st number read t room).left) → (ended_share st number read c t room fits).full ≡ false → Unbroken (ended_share st number read c t room fits).left
  part_by true next e = next e
  part_by false next e = absurd (subst T e tt)

  left_by_law : (b : Bool) → (c == newline) ≡ b → ((rest_share st number read t room).full ≡ false → Unbroken (rest_share st number read t room).left) → (Unbroken (read ++ (c ∷ [])) → (share_after st number (read ++ (c ∷ [])) t room).full ≡ false → Unbroken (share_after st number (read ++ (c ∷ [])) t room).left) → (cond b (ended_share st number read c t room (nat_le answer_room room)) (share_after st number (read ++ (c ∷ [])) t room)).full ≡ false → Unbroken (cond b (ended_share st number read c t room (nat_le answer_room room)) (share_after st number (read ++ (c ∷ [])) t room)).left
  left_by_law true e next same = part_by (nat_le answer_room room) next
  left_by_law false e next same = same (unbroken_append u (more e none))

left_after : (st : Station) (number : ℕ) {read : List ℕ} (t : List ℕ) (room : ℕ) → Unbroken read → (share_after st number read t room).full ≡ false → Unbroken (share_after st number read t room).left
unfolding share_after
left_after st number [] room u e = u
left_after st number {read} (c ∷ t) room u e =
    left_by_law st number read u c t room (c == newline) refl (left_after (answer_to st number read).station (next_number number) t (room - length (answer_to st number read).text) none) (left_after st number t room) e

pub left_unbroken : (st : Station) (number : ℕ) (t : List ℕ) (room : ℕ) → (share_rule st number t room).full ≡ false → Unbroken (share_rule st number t room).left
unfolding share_rule
left_unbroken st number t room e = left_after st number t room none e

-- what is left is no longer than the text, and shorter where a line is left though there was room for an answer
module _ (st : Station) (number : ℕ) (read : List ℕ) (c : ℕ) (t : List ℕ) (room : ℕ) where
  abbrev after : Bool → Share
  after nl = cond nl (ended_share st number read c t room (nat_le answer_room room)) (share_after st number (read ++ (c ∷ [])) t room)

  ended_size : (fits : Bool) → length (rest_share st number read t room).left ≤ 0 + length t → length (ended_share st number read c t room fits).left ≤ length read + suc (length t)
  ended_size true next = omega (arith, next)
  ended_size false next = omega (arith, length-append read (c ∷ t))

  size_by : (nl : Bool) → length (rest_share st number read t room).left ≤ 0 + length t → length (share_after st number (read ++ (c ∷ [])) t room).left ≤ length (read ++ (c ∷ [])) + length t → length (after nl).left ≤ length read + suc (length t)
  size_by true next same = ended_size (nat_le answer_room room) next
  size_by false next same = omega (arith, same, length-append read (c ∷ []))

  shorter_by : leb answer_room room ≡ true → (nl : Bool) → length (rest_share st number read t room).left ≤ 0 + length t → ((share_after st number (read ++ (c ∷ [])) t room).full ≡ true → length (share_after st number (read ++ (c ∷ [])) t room).left < length (read ++ (c ∷ [])) + length t) → (after nl).full ≡ true → length (after nl).left < length read + suc (length t)
  shorter_by fits true next same e =
      subst (λ (b : Bool). length (ended_share st number read c t room b).left < length read + suc (length t)) (sym fits) (omega (arith, next))
  shorter_by fits false next same e = omega (arith, same e, length-append read (c ∷ []))

left_size : (st : Station) (number : ℕ) (read t : List ℕ) (room : ℕ) → length (share_after st number read t room).left ≤ length read + length t
unfolding share_after
left_size st number read [] room = omega arith
left_size st number read (c ∷ t) room =
    size_by st number read c t room (c == newline) (left_size (answer_to st number read).station (next_number number) [] t (room - length (answer_to st number read).text)) (left_size st number (read ++ (c ∷ [])) t room)

left_less : (st : Station) (number : ℕ) (read t : List ℕ) (room : ℕ) → nat_le answer_room room ≡ true → (share_after st number read t room).full ≡ true → length (share_after st number read t room).left < length read + length t
unfolding share_after
left_less st number read [] room fits e = absurd (subst T (sym e) tt)
left_less st number read (c ∷ t) room fits e =
    shorter_by st number read c t room fits (c == newline) (left_size (answer_to st number read).station (next_number number) [] t (room - length (answer_to st number read).text)) (left_less st number (read ++ (c ∷ [])) t room fits) e

pub left_shorter : (st : Station) (number : ℕ) (t : List ℕ) (room : ℕ) → answer_room ≤ room → (share_rule st number t room).full ≡ true → length (share_rule st number t room).left < length t
unfolding share_rule
left_shorter st number t room fits e = omega (arith, left_less st number [] t room (le-leb answer_room room fits) e)

-- the answer goes by the call that a line is
pub same_answer_law : (st : Station) (number : ℕ) (a b : List ℕ) (lines : List (List ℕ)) → line_rule a ≡ line_rule b → run_lines st number (a ∷ lines) ≡ run_lines st number (b ∷ lines)
unfolding run_lines
same_answer_law st number a b lines e =
    ap (λ (k : Command). before (command_rule st (next_number number) k).text (run_lines (command_rule st (next_number number) k).station (next_number number) lines)) e

-- a line that goes on: what is read of it may be another text that is the same call, whatever follows
goes_on_by : (st : Station) (number : ℕ) (a b : List ℕ) (c : ℕ) (t : List ℕ) (nl : Bool) → ((following : List ℕ) → line_rule (a ++ following) ≡ line_rule (b ++ following)) → run_lines st number (lines_after (a ++ (c ∷ [])) t) ≡ run_lines st number (lines_after (b ++ (c ∷ [])) t) → run_lines st number (cond nl (a ∷ lines_after [] t) (lines_after (a ++ (c ∷ [])) t)) ≡ run_lines st number (cond nl (b ∷ lines_after [] t) (lines_after (b ++ (c ∷ [])) t))
goes_on_by st number a b c t true same next =
    same_answer_law st number a b (lines_after [] t) (ap line_rule (sym (append-nil a)) ∙ same [] ∙ ap line_rule (append-nil b))
goes_on_by st number a b c t false same next = next

longer_same : (a b : List ℕ) (c : ℕ) → ((following : List ℕ) → line_rule (a ++ following) ≡ line_rule (b ++ following)) → (following : List ℕ) → line_rule ((a ++ (c ∷ [])) ++ following) ≡ line_rule ((b ++ (c ∷ [])) ++ following)
longer_same a b c same following =
    ap line_rule (append_assoc a (c ∷ []) following)
    ∙ same (c ∷ following)
    ∙ ap line_rule (sym (append_assoc b (c ∷ []) following))

pub goes_on : (st : Station) (number x y : ℕ) (a b t : List ℕ) → ((following : List ℕ) → line_rule ((x ∷ a) ++ following) ≡ line_rule ((y ∷ b) ++ following)) → run_lines st number (lines_after (x ∷ a) t) ≡ run_lines st number (lines_after (y ∷ b) t)
unfolding lines_after
goes_on st number x y a b [] same =
    same_answer_law st number (x ∷ a) (y ∷ b) [] (ap line_rule (sym (append-nil (x ∷ a))) ∙ same [] ∙ ap line_rule (append-nil (y ∷ b)))
goes_on st number x y a b (c ∷ t) same =
    goes_on_by st number (x ∷ a) (y ∷ b) c t (c == newline) same (goes_on st number x y (a ++ (c ∷ [])) (b ++ (c ∷ [])) t (longer_same (x ∷ a) (y ∷ b) c same))
