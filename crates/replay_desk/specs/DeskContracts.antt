-- Helpers of contracts: the program's answers, in the terms of the rules.
use Rattle.std.specs.Prelude.{ℕ, ◌+◌, ◌≡◌, true, List, length, Ok, Err}
use Rattle.std.specs.Borrow.{MutBor}
use Rattle.frame.specs.Writing.{fits_at, pasted}
use Rattle.frame.specs.FrameContracts.{Written, written_of}
use Rattle.port.specs.declared.Called.{Called}
use Rattle.text.specs.declared.Out.{Out}
use Rattle.text.specs.Putting.{filled, OutputsWhole}
use Rattle.station.specs.declared.Station.{Station}
use Rattle.station.specs.StationCalls.{RequestOutcome}
use Rattle.replay_render.specs.AnswerLines.{written_text}
use Rattle.replay_desk.specs.LineAnswers.{LineAnswer, LineOutcome, answer_room}

-- how answering a line ended: its answer, the next station, and the buffer that it left
abbrev pub answered_by : Called Written Station → List ℕ → LineOutcome
answered_by r lent = record { answer = written_of r.answer; station = r.next; lent = lent }

-- the end of the text; 0 where the answer is a refusal
abbrev pub end_by : ℕ → Written → ℕ
end_by at (Err r) = 0
end_by at (Ok n) = at + n

abbrev pub end_of : ℕ → Called Written Station → ℕ
end_of at r = end_by at r.answer

-- there is room for any answer
abbrev pub HasRoom : Out → Type 0
HasRoom o = fits_at answer_room o.at (length o.buffer.now) ≡ true

-- the whole text is at its offset, and the next station is handed back
pub record Shows (a : LineAnswer) (o : Out) (next : Station) (o₁ : Out) : Type 0 where
  pub text : filled o₁.at o₁.buffer.now ≡ filled (o.at + length a.text) (pasted a.text o.at o.buffer.now)
  pub station : next ≡ a.station
  pub same : o.buffer.ghost_name ≡ o₁.buffer.ghost_name

-- each call puts the text of its answer, whole or not at all
abbrev pub PutsAnswer : {A : Type 0} → (MutBor Out → A → Unit {0} → MutBor Out → Type 0) → ℕ → (A → List ℕ) → Type 0
PutsAnswer {A} post most text =
    (o o₁ : MutBor Out) (x : A) → post o x tt o₁ → OutputsWhole most (text x) o.now o₁.now

-- the text of what a writer gave on its lent buffer
abbrev pub written_by : RequestOutcome → LineAnswer
written_by o = record { text = written_text o.answer o.lent; station = o.station }
