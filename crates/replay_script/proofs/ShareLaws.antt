-- Laws of a text answered line by line: each newline ends a line, and the answers lie end to end in the output buffer.
use Rattle.std.specs.Prelude.{◌≡◌, ℕ, suc, ◌+◌, ◌-◌, ◌<◌, ◌≤◌, Bool, true, false, cond, leb, List, [], ◌∷◌, ◌++◌, length, take, drop, ◌==◌, ◌≢◌, nat_le, Option, None, Some, Ok, Err, refl}
use Rattle.std.specs.Result.{result_unwrap_or}
use Rattle.std.proofs.Common.{sym, ◌∙◌, subst, append_assoc, append-nil, not-suc-le-zero, arith, length-append, length-take-le, take_at, drop_at, drop-drop}
use Rattle.std.proofs.Math.Path.{ap}
use Rattle.std.proofs.Math.Seq.{take-length}
use borrow.Author.Tests.{le-leb, lt-leb}
use Rattle.replay_script.specs.Finding.{index_of, index_after, slice, found_in}
use Rattle.frame.specs.Writing as writing
use Rattle.frame.specs.FrameContracts.{Written, written_of}
use Rattle.station.specs.declared.Station.{Station}
use Rattle.port.specs.declared.Called.{Called}
use Rattle.report.specs.declared.Refusal.{Refusal}
use Rattle.replay_desk.specs.LineAnswers.{LineAnswer, LineOutcome, answer_room, put, answer_rule, command_rule}
use Rattle.replay_desk.specs.DeskContracts.{answered_by, end_by, end_of}
use Rattle.replay_line.specs.LineCalls.{line_rule}
use Rattle.report.specs.ReportContracts.{number_of}
use Rattle.replay_script.specs.declared.Progress.{Progress}
use Rattle.text.specs.Words.{newline}
use Rattle.replay_script.specs.ReplayRuns.{next_number, answer_to}
use Rattle.replay_script.specs.Shares.{Share, share_none, before_share, share_after, share_rule}
use Rattle.replay_script.specs.ScriptContracts.{share_of, Adds}
use Rattle.replay_script.proofs.FindingLaws.{Found, found, not_found, found_within}

-- what the next whole line makes of the rest of a text
abbrev share_line : Station → (number : ℕ) → (line rest whole : List ℕ) → (room : ℕ) → Share
share_line st number line rest whole room =
    cond (nat_le answer_room room)
    (before_share (answer_to st number line).text
    (share_after (answer_to st number line).station (next_number number) [] rest (room - length (answer_to st number line).text)))
    (share_none st number whole true)

-- the first newline ends a line
first_by : (st : Station) (number : ℕ) (read : List ℕ) (c : ℕ) (t : List ℕ) (room k : ℕ) (b : Bool) → (c == newline) ≡ b → index_after b k < suc (length t) → (k < length t → share_after st number (read ++ (c ∷ [])) t room ≡ share_line st number ((read ++ (c ∷ [])) ++ take k t) (drop (suc k) t) ((read ++ (c ∷ [])) ++ t) room) → cond b (share_line st number read t (read ++ (c ∷ t)) room) (share_after st number (read ++ (c ∷ [])) t room) ≡ share_line st number (read ++ take (index_after b k) (c ∷ t)) (drop (suc (index_after b k)) (c ∷ t)) (read ++ (c ∷ t)) room
unfolding index_after
first_by st number read c t room k true e h next =
    ap (λ (l : List ℕ). share_line st number l t (read ++ (c ∷ t)) room) (sym (append-nil read))
first_by st number read c t room k false e h next =
    next (omega (arith, h))
    ∙ ap (λ (l : List ℕ). share_line st number l (drop (suc k) t) ((read ++ (c ∷ [])) ++ t) room) (append_assoc read (c ∷ []) (take k t))
    ∙ ap (λ (l : List ℕ). share_line st number (read ++ (c ∷ take k t)) (drop (suc k) t) l room) (append_assoc read (c ∷ []) t)

first_line : (st : Station) (number : ℕ) (read t : List ℕ) (room : ℕ) → index_of newline t < length t → share_after st number read t room ≡ share_line st number (read ++ take (index_of newline t) t) (drop (suc (index_of newline t)) t) (read ++ t) room
unfolding share_after index_of
first_line st number read [] room h = absurd (not-suc-le-zero h)
first_line st number read (c ∷ t) room h =
    first_by st number read c t room (index_of newline t) (c == newline) refl h (first_line st number (read ++ (c ∷ [])) t room)

-- a text without a newline has no whole line
none_by : (st : Station) (number : ℕ) (read : List ℕ) (c : ℕ) (t : List ℕ) (room k : ℕ) (b : Bool) → suc (length t) ≤ index_after b k → (length t ≤ k → share_after st number (read ++ (c ∷ [])) t room ≡ share_none st number ((read ++ (c ∷ [])) ++ t) false) → cond b (share_line st number read t (read ++ (c ∷ t)) room) (share_after st number (read ++ (c ∷ [])) t room) ≡ share_none st number (read ++ (c ∷ t)) false
unfolding index_after
none_by st number read c t room k true h next = absurd (not-suc-le-zero h)
none_by st number read c t room k false h next =
    next (omega (arith, h))
    ∙ ap (λ (l : List ℕ). share_none st number l false) (append_assoc read (c ∷ []) t)

no_line : (st : Station) (number : ℕ) (read t : List ℕ) (room : ℕ) → length t ≤ index_of newline t → share_after st number read t room ≡ share_none st number (read ++ t) false
unfolding share_after index_of
no_line st number read [] room h = ap (λ (l : List ℕ). share_none st number l false) (sym (append-nil read))
no_line st number read (c ∷ t) room h =
    none_by st number read c t room (index_of newline t) (c == newline) h (no_line st number (read ++ (c ∷ [])) t room)

-- an answer ends within the output
pub line_end_law : {w : Written} {size : ℕ} (at room : ℕ) → w ≡ Ok size → end_by at w ≤ room → at + size ≤ room
line_end_law at room e h = subst (λ (w : Written). end_by at w ≤ room) e h

-- one answer: it has its room, so it is put
module _ (run : Progress) (line b : List ℕ) (st : Station) (b₁ : List ℕ) where
  abbrev told : LineAnswer
  told = answer_to run.station run.number line

  put_by : (w : Written) → record { answer = written_of w; station = st; lent = b₁ } ≡ put told run.filled b → end_by run.filled w ≤ length b₁ → Adds run line b (record run { station = st; number = next_number run.number; filled = run.filled + result_unwrap_or w 0 }) b₁
  put_by (Err e) is within =
      let p : writing.refused (number_of e) ≡ writing.wrote (length told.text) = ap (λ (o : LineOutcome). o.answer) is in
      absurd (let z : ◌≡◌ {A = ℕ} 0 1 = cc in omega arith)
  put_by (Ok size) is within =
      let p : writing.wrote size ≡ writing.wrote (length told.text) = ap (λ (o : LineOutcome). o.answer) is in
      let same : size ≡ length told.text = cc in
      record {
        text = ap (λ (o : LineOutcome). o.lent) is;
        filled = ap (λ (n : ℕ). run.filled + n) same;
        station = ap (λ (o : LineOutcome). o.station) is;
        number = refl;
        full = refl;
        within = within;
      }

pub adds : (run : Progress) (line b : List ℕ) (r : Called Written Station) (size : ℕ) (b₁ : List ℕ) → writing.fits_at answer_room run.filled (length b) ≡ true → answered_by r b₁ ≡ answer_rule run.station (next_number run.number) line run.filled b → end_of run.filled r ≤ length b₁ → size ≡ result_unwrap_or r.answer 0 → Adds run line b (record run { station = r.next; number = next_number run.number; filled = run.filled + size }) b₁
unfolding answer_rule
adds run line b r size b₁ room is within size_is =
    subst (λ (n : ℕ). Adds run line b (record run { station = r.next; number = next_number run.number; filled = run.filled + n }) b₁) (sym size_is)
    (put_by run line b r.next b₁ r.answer (is ∙ (simp room)) within)

-- and so it is not refused
module _ (run : Progress) (line b : List ℕ) (number : ℕ) (r : Called Written Station) (b₁ : List ℕ) (room : writing.fits_at answer_room run.filled (length b) ≡ true) (next : number ≡ next_number run.number) (is : answered_by r b₁ ≡ answer_rule run.station number line run.filled b) where
  is_put : answered_by r b₁ ≡ put (answer_to run.station run.number line) run.filled b
  unfolding answer_rule
  is_put =
      is
      ∙ (simp room)
      ∙ ap (λ (n : ℕ). put (command_rule run.station n (line_rule line)) run.filled b) next

  abbrev text : List ℕ
  text = (answer_to run.station run.number line).text

  pub refused_not : {w : Refusal} → r.answer ≢ Err w
  refused_not {w} e =
      let p : writing.refused (number_of w) ≡ writing.wrote (length text) = sym (ap written_of e) ∙ ap (λ (o : LineOutcome). o.answer) is_put in
      let z : ◌≡◌ {A = ℕ} 0 1 = cc in
      omega arith

  pub adds_bytes : {size : ℕ} → r.answer ≡ Ok size → run.filled + size ≤ length b₁ → Adds run line b (record run { station = r.next; number = number; filled = run.filled + size }) b₁
  adds_bytes {size} e h =
      let of_bytes : record { answer = written_of (Ok size); station = r.next; lent = b₁ } ≡ put (answer_to run.station run.number line) run.filled b = sym (ap (λ (w : Written). record { answer = written_of w; station = r.next; lent = b₁ }) e) ∙ is_put in
      subst (λ (n : ℕ). Adds run line b (record run { station = r.next; number = n; filled = run.filled + size }) b₁) (sym next)
      (put_by run line b r.next b₁ (Ok size) of_bytes h)

-- the lines of a text are answered up to an offset; what is left comes to what the rule gives
pub record Answering (text out₀ : List ℕ) (run₀ : Progress) (out : List ℕ) (run : Progress) : Type 0 where
  pub within : run.used ≤ length text
  pub room : run.filled ≤ length out
  pub same : length out ≡ length out₀
  pub behind : drop run.filled out ≡ drop run.filled out₀
  pub full : run.full ≡ false
  pub so : before_share (take run.filled out) (share_rule run.station run.number (drop run.used text) (length out₀ - run.filled)) ≡ share_rule run₀.station run₀.number text (length out₀)

-- the search goes up to the end of the text
pub to_end : (text : List ℕ) (at : ℕ) → slice at (length text) text ≡ drop at text
unfolding slice
to_end text at = ap (drop at) (take-length text)

pub sliced : (text : List ℕ) (at end : ℕ) → end ≡ at + index_of newline (slice at (length text) text) → end ≡ at + index_of newline (drop at text)
sliced text at end e = e ∙ ap (λ (l : List ℕ). at + index_of newline l) (to_end text at)

module _ {text out₀ : List ℕ} {run₀ : Progress} {out : List ℕ} {run : Progress} (k : Answering text out₀ run₀ out run) where
  abbrev left : List ℕ
  left = drop run.used text

  abbrev room : ℕ
  room = length out₀ - run.filled

  abbrev next : Option ℕ
  next = found_in newline run.used (length text) text

  -- what is answered, where nothing more is
  answered_so_far : (full : Bool) → share_rule run.station run.number left room ≡ share_none run.station run.number left full → record { text = take run.filled out; station = run.station; number = run.number; left = left; full = full } ≡ share_rule run₀.station run₀.number text (length out₀)
  answered_so_far full none =
      ap (λ (l : List ℕ). record { text = l; station = run.station; number = run.number; left = left; full = full }) (sym (append-nil (take run.filled out)))
      ∙ ap (before_share (take run.filled out)) (sym none)
      ∙ k.so

  -- no newline is left
  pub all_answered : None ≡ next → share_of run text out ≡ share_rule run₀.station run₀.number text (length out₀)
  unfolding share_rule
  all_answered e =
      let index : length left ≤ index_of newline left = subst (λ (l : List ℕ). length l ≤ index_of newline l) (to_end text run.used) (not_found newline run.used (length text) text e) in
      ap (λ (t : Bool). record { text = take run.filled out; station = run.station; number = run.number; left = left; full = t }) k.full
      ∙ answered_so_far false (no_line run.station run.number [] left room index)

  pub has_room : answer_room ≤ length out - run.filled → writing.fits_at answer_room run.filled (length out) ≡ true
  has_room h = le-leb (run.filled + answer_room) (length out) (omega (arith, h, k.room))

  module _ {end : ℕ} (here : Some end ≡ next) where
    found_here : Found newline run.used (length text) text end
    found_here = found newline run.used (length text) text here

    newline_at : end ≡ run.used + index_of newline left
    newline_at = subst (λ (l : List ℕ). end ≡ run.used + index_of newline l) (to_end text run.used) found_here.so

    whole : index_of newline left < length left
    whole = subst (λ (l : List ℕ). index_of newline l < length l) (to_end text run.used) found_here.within

    pub ordered : run.used ≤ end
    ordered = omega (arith, newline_at)

    pub inside : end < length text
    inside = found_within newline run.used (length text) text (omega arith) found_here

    abbrev line : List ℕ
    line = take (index_of newline left) left

    by_line : share_rule run.station run.number left room ≡ share_line run.station run.number line (drop (suc (index_of newline left)) left) left room
    unfolding share_rule
    by_line = first_line run.station run.number [] left room whole

    -- there is no room for another answer
    pub stopped : length out - run.filled < answer_room → share_of (record run { full = true }) text out ≡ share_rule run₀.station run₀.number text (length out₀)
    stopped little =
        let test : leb answer_room room ≡ false = lt-leb answer_room room (omega (arith, little, k.same)) in
        answered_so_far true (by_line ∙ (simp test))

    -- the line is answered
    module _ (much : answer_room ≤ length out - run.filled) (r : Progress) {out₁ : List ℕ} (a : Adds run (take (end - run.used) left) out r out₁) (stays : length out ≡ length out₁) where
      abbrev given : LineAnswer
      given = answer_to run.station run.number line

      adds_line : Adds run line out r out₁
      adds_line =
          let e : end - run.used ≡ index_of newline left = omega (arith, newline_at) in
          subst (λ (n : ℕ). Adds run (take n left) out r out₁) e a

      front : length (take run.filled out) ≡ run.filled
      front = length-take-le run.filled out k.room

      put_is : out₁ ≡ (take run.filled out ++ given.text) ++ drop (run.filled + length given.text) out
      put_is =
          adds_line.text
          ∙ sym (append_assoc (take run.filled out) given.text (drop (run.filled + length given.text) out))

      filled_is : r.filled ≡ length (take run.filled out ++ given.text)
      filled_is = omega (arith, adds_line.filled, length-append (take run.filled out) given.text, front)

      text_put : take r.filled out₁ ≡ take run.filled out ++ given.text
      text_put =
          ap (take r.filled) put_is
          ∙ take_at (take run.filled out ++ given.text) (drop (run.filled + length given.text) out) r.filled (sym filled_is)

      rest_kept : drop r.filled out₁ ≡ drop r.filled out₀
      rest_kept =
          ap (drop r.filled) put_is
          ∙ drop_at (take run.filled out ++ given.text) (drop (run.filled + length given.text) out) r.filled (sym filled_is)
          ∙ sym (drop-drop (length given.text) run.filled out)
          ∙ ap (drop (length given.text)) k.behind
          ∙ drop-drop (length given.text) run.filled out₀
          ∙ ap (λ (n : ℕ). drop n out₀) (sym adds_line.filled)

      rest_text : drop (suc (index_of newline left)) left ≡ drop (end + 1) text
      rest_text =
          let e : run.used + suc (index_of newline left) ≡ end + 1 = omega (arith, newline_at) in
          drop-drop (suc (index_of newline left)) run.used text ∙ ap (λ (n : ℕ). drop n text) e

      one_more : before_share (take r.filled out₁) (share_rule r.station r.number (drop (end + 1) text) (length out₀ - r.filled)) ≡ before_share (take run.filled out) (share_rule run.station run.number left room)
      unfolding share_rule
      one_more =
          let test : leb answer_room room ≡ true = le-leb answer_room room (omega (arith, much, k.same)) in
          let rest_room : room - length given.text ≡ length out₀ - r.filled = omega (arith, adds_line.filled) in
          let next = share_after given.station (next_number run.number) [] (drop (suc (index_of newline left)) left) (room - length given.text) in
          ap (λ (l : List ℕ). before_share l (share_after r.station r.number [] (drop (end + 1) text) (length out₀ - r.filled))) text_put
          ∙ ap (λ (st : Station). before_share (take run.filled out ++ given.text) (share_after st r.number [] (drop (end + 1) text) (length out₀ - r.filled))) adds_line.station
          ∙ ap (λ (n : ℕ). before_share (take run.filled out ++ given.text) (share_after given.station n [] (drop (end + 1) text) (length out₀ - r.filled))) adds_line.number
          ∙ ap (λ (l : List ℕ). before_share (take run.filled out ++ given.text) (share_after given.station (next_number run.number) [] l (length out₀ - r.filled))) (sym rest_text)
          ∙ ap (λ (n : ℕ). before_share (take run.filled out ++ given.text) (share_after given.station (next_number run.number) [] (drop (suc (index_of newline left)) left) n)) (sym rest_room)
          ∙ ap (λ (l : List ℕ). record { text = l; station = next.station; number = next.number; left = next.left; full = next.full }) (append_assoc (take run.filled out) given.text next.text)
          ∙ ap (before_share (take run.filled out)) (sym (by_line ∙ (simp test)))

      pub answered_more : Answering text out₀ run₀ out₁ (record r { used = end + 1 })
      answered_more =
          record {
            within = omega (arith, inside);
            room = a.within;
            same = sym stays ∙ k.same;
            behind = rest_kept;
            full = a.full ∙ k.full;
            so = one_more ∙ k.so;
          }
