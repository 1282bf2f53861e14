-- Laws of lines answered: there is room for each text, and what the program shows of a call is the rules' step.
use Rattle.std.specs.Prelude.{ℕ, zero, suc, ◌+◌, ◌-◌, ◌≤◌, ◌≡◌, refl, false, List, ◌∷◌, ◌++◌, length, take, drop, replicate}
use Rattle.std.proofs.Math.Path.{sym, ap}
use Rattle.std.proofs.Common.{◌∙◌, subst, not-suc-le-zero, arith, length-append, length-take-le, leb-true}
use Rattle.std.proofs.lemmas.List.{length-replicate}
use Rattle.report.specs.Refusals.{no_room}
use Rattle.frame.specs.Writing as writing
use Rattle.station.specs.declared.Station.{Station}
use Rattle.text.specs.declared.Out.{Out}
use Rattle.text.specs.Putting.{Filled, filled, OutputsWhole}
use Rattle.text.proofs.PuttingLaws.{whole_with_room}
use Rattle.replay_line.specs.Commands.{Command}
use Rattle.replay_line.specs.LineFields.{most_lent}
use Rattle.replay_line.specs.LineCalls.{line_rule}
use Rattle.replay_line.specs.LineContracts.{lent_room}
use Rattle.replay_line.proofs.LineBoundsLaws.{line_lends}
use Rattle.replay_render.specs.AnswerLines.{written_most}
use Rattle.replay_desk.specs.LineAnswers.{LineAnswer, command_rule, answer_room, put, answer_rule}
use Rattle.replay_desk.specs.DeskContracts.{HasRoom, Shows}

-- a text whose room is within that of any answer is put whole
pub shown : {an a : LineAnswer} {most : ℕ} {o o₁ : Out} → HasRoom o → most ≤ answer_room → an ≡ a → OutputsWhole most an.text o o₁ → Shows a o an.station o₁
shown {an} {a} {most} {o} {o₁} room h e p =
    let wide : o.at + answer_room ≤ length o.buffer.now = leb-true _ _ room in
    record {
      text = p.whole ∙ whole_with_room most an.text o.at o.buffer.now (omega (arith, wide, h)) ∙ ap (λ (x : LineAnswer). filled (o.at + length x.text) (writing.pasted x.text o.at o.buffer.now)) e;
      station = ap (λ (x : LineAnswer). x.station) e;
      same = p.same;
    }

pub re_shown : {o : Out} {next : Station} {o₁ : Out} {a a' : LineAnswer} → a ≡ a' → Shows a o next o₁ → Shows a' o next o₁
re_shown {o} {next} {o₁} e s = subst (λ (a : LineAnswer). Shows a o next o₁) e s

-- a writer's line takes no more, with any buffer that is lent
pub written_room : {n : ℕ} → n ≤ most_lent → written_most n ≤ answer_room
written_room h = omega arith

-- the front of a buffer of one value
pub front : (x room n : ℕ) → room ≤ n → take room (replicate n x) ≡ replicate room x
front x zero n h = refl
front x (suc room) zero h = absurd (not-suc-le-zero h)
front x (suc room) (suc n) h = ap (λ (l : List ℕ). x ∷ l) (front x room n (omega (arith, h)))

pub lent_size_law : (x room n : ℕ) → room ≤ n → room ≡ length (take room (replicate n x))
lent_size_law x room n h = sym (ap length (front x room n h) ∙ length-replicate room x)

-- a line is lent no more than the longest buffer
pub lends_little : (line : List ℕ) (command : Command) → command ≡ line_rule line → lent_room command ≤ most_lent
lends_little line command e = subst (λ (c : Command). lent_room c ≤ most_lent) (sym e) (line_lends line)

-- a line whose answer has no room
pub refused : (st : Station) (number : ℕ) (line : List ℕ) (at : ℕ) (b : List ℕ) → writing.fits_at answer_room at (length b) ≡ false → record { answer = writing.refused no_room; station = st; lent = b } ≡ answer_rule st number line at b
unfolding answer_rule
refused st number line at b e = sym (simp e)

-- and one whose answer has its room; where the loan ends, the buffer that was lent is what was put in it
module _ (st : Station) (number : ℕ) (line : List ℕ) (command : Command) (is : command ≡ line_rule line) {o : Out} {next : Station} {o₁ : Out} {b₁ : List ℕ} (s : Shows (command_rule st number command) o next o₁) (back : o.buffer.ghost_name ≡ o₁.buffer.ghost_name → b₁ ≡ o₁.buffer.now) where
  abbrev text : List ℕ
  text = (command_rule st number command).text

  abbrev b : List ℕ
  b = o.buffer.now

  pub after : o.at ≤ o₁.at
  after = omega (arith, ap (λ (f : Filled). f.next) s.text)

  count : o₁.at - o.at ≡ length text
  count = omega (arith, ap (λ (f : Filled). f.next) s.text)

  module _ (room : HasRoom o) where
    pub answered : record { answer = writing.wrote (o₁.at - o.at); station = next; lent = b₁ } ≡ answer_rule st number line o.at b
    unfolding answer_rule
    answered = outcome ∙ ap (λ (c : Command). put (command_rule st number c) o.at b) is ∙ sym (simp room)
      where
        outcome : record { answer = writing.wrote (o₁.at - o.at); station = next; lent = b₁ } ≡ put (command_rule st number command) o.at b
        outcome =
            ap (λ (n : ℕ). record { answer = writing.wrote n; station = next; lent = b₁ }) count
            ∙ ap (λ (x : Station). record { answer = writing.wrote (length text); station = x; lent = b₁ }) s.station
            ∙ ap (λ (l : List ℕ). record { answer = writing.wrote (length text); station = (command_rule st number command).station; lent = l }) (back s.same)
            ∙ ap (λ (f : Filled). record { answer = writing.wrote (length text); station = (command_rule st number command).station; lent = f.lent }) s.text

    -- what is put ends within the buffer, since its length stays
    pub within : length b₁ ≡ length b → o.at + (o₁.at - o.at) ≤ length b₁
    within same =
        let wide : o.at + answer_room ≤ length b = leb-true (o.at + answer_room) (length b) room in
        let parts : length b₁ ≡ length (take o.at b ++ (text ++ drop (o.at + length text) b)) = ap length (back s.same) ∙ ap (λ (f : Filled). length f.lent) s.text in
        omega (arith, same, count, parts, length-append (take o.at b) (text ++ drop (o.at + length text) b), length-append text (drop (o.at + length text) b), length-take-le o.at b (omega (arith, wide)))
