-- Laws of the loop of replay: what it writes is the rules' run over what it reads.
use Rattle.std.specs.Prelude.{ℕ, ◌+◌, ◌≤◌, ◌<◌, ◌≡◌, refl, Bool, ◌&&◌, leb, take, drop}
use Rattle.std.proofs.Common.{sym, ◌∙◌, subst, true≢false, arith, take_all}
use Rattle.std.proofs.Math.Path.{ap}
use Rattle.std.proofs.Math.Bool.{true, false, cond}
use Rattle.std.proofs.lemmas.Bool.{false≢true}
use mathlib.Core.List.{List, [], ◌∷◌, ◌++◌, append_assoc, append-nil}
use Rattle.std.proofs.Math.ListN.{length}
use Rattle.std.proofs.Math.Seq.{take-length}
use borrow.Author.Tests.{le-leb, eqb-true}
use Rattle.report.proofs.ChoicesLaws.{both}
use Rattle.station.specs.Stations.{fresh_station}
use Rattle.replay_script.specs.ReplayRuns.{Unbroken, Ran, before, run_rule}
use Rattle.replay_feed.specs.declared.State.{State}
use Rattle.replay_feed.specs.LongLines.{longest}
use Rattle.replay_feed.specs.Turns.{is_nothing, Pending, Turned, feed_rule, end_rule, turn_rule, refused_turn, to_come}
use Rattle.replay_feed.specs.TurnContracts.{held_of, input_of, pending_of, turned_of, Starts, Standing, read_offset, is_ready, turn_for, Leaves}
use Rattle.replay_feed.proofs.TurnRuleLaws.{Sound, sound_start, feed_comes, feed_sound, feed_goes, feed_shorter, Ended, end_comes}
use Rattle.replay_feed.proofs.FeedLaws.{empty_size, input_size}
use Rattle.replay_feed.proofs.TurnLaws.{Ready, ready, is_ready_law}
use Rattle.replay.specs.ReplayTurns.{ReadAt, Loop, done, turned, Large, FrontOf, Replays}

-- a list without an element
empty : (l : List ℕ) → is_nothing l ≡ true → l ≡ []
empty [] e = refl
empty (c ∷ l) e = absurd (false≢true e)

-- what holds at each turn
record Looping (s : State) (buffer output : List ℕ) : Type 0 where
  sound : Sound (pending_of s buffer)
  standing : Standing s buffer output
  large : Large buffer output
  going : s.going ≡ true
  whole : s.whole ≡ false

-- what a loop comes to
record Result (s : State) (buffer input text : List ℕ) (end : State) (buffer₁ output₁ : List ℕ) : Type 0 where
  whole : end.whole ≡ true → record { text = text; station = end.station; number = end.number } ≡ to_come (pending_of s buffer) input
  front : end.going ≡ true → (unread : List ℕ) → FrontOf text (to_come (pending_of s buffer) (input ++ unread)).text
  ends : end.going ≡ false → end.whole ≡ true
  after : end.going ≡ true → Looping end buffer₁ output₁

-- a read leaves what is held
module _ {s : State} {buffer read output : List ℕ} {count : ℕ} (k : Looping s buffer output) (at : ReadAt (read_offset s (length buffer)) count buffer read) where
  front_by : (t : Bool) → s.reading ≡ t → ReadAt (cond (t && leb s.size (length buffer)) s.size (length buffer)) count buffer read → (take s.size read ≡ take s.size buffer) × (s.size + count ≤ length buffer)
  front_by true e r = subst (λ (t : Bool). ReadAt (cond t s.size (length buffer)) count buffer read → (take s.size read ≡ take s.size buffer) × (s.size + count ≤ length buffer)) (sym (le-leb s.size (length buffer) k.standing.within)) (λ (x : ReadAt s.size count buffer read). (x.front, x.within)) r
  front_by false e r = (
    ap (take s.size) (sym (take_all (length buffer) read (omega (arith, r.same))) ∙ r.front ∙ take-length buffer),
    omega (arith, r.within, k.standing.within),
  )

  kept : (take s.size read ≡ take s.size buffer) × (s.size + count ≤ length buffer)
  kept = front_by s.reading refl at

  still_pending : pending_of s read ≡ pending_of s buffer
  still_pending =
      ap (λ (l : List ℕ). record { station = s.station; number = s.number; held = drop s.start l; cut = s.cut; reading = s.reading; going = s.going; whole = s.whole }) kept.0

  input_by : (t : Bool) → s.reading ≡ t → ReadAt (cond (t && leb s.size (length buffer)) s.size (length buffer)) count buffer read → take count (drop (cond (t && leb s.size (length buffer)) s.size (length buffer)) read) ≡ input_of s count read
  input_by true e r =
      ap (λ (t : Bool). take count (drop (cond t s.size (length buffer)) read)) (le-leb s.size (length buffer) k.standing.within)
  input_by false e r =
      let z : count ≡ 0 = omega (arith, r.within) in
      ap (λ (n : ℕ). take n (drop (length buffer) read)) z ∙ sym (ap (λ (n : ℕ). take n (drop s.size read)) z)

  read_input : take count (drop (read_offset s (length buffer)) read) ≡ input_of s count read
  read_input = input_by s.reading refl at

  can : is_ready s count (length read) (length output) ≡ true
  can =
      is_ready_law s count (length read) (length output) k.going k.standing.ordered (omega (arith, kept.1, at.same)) (omega (arith, k.large.line, at.same)) k.large.answer (λ e. omega (arith, k.standing.room e, at.same)) k.sound.cut

-- where no other turn is to follow, none does
record Stops (r : State) (input text : List ℕ) (end : State) : Type 0 where
  no_input : input ≡ []
  no_text : text ≡ []
  same_end : end ≡ r

stopped : {r end : State} {buffer output input text buffer₁ output₁ : List ℕ} → Loop r buffer output input text end buffer₁ output₁ → r.going ≡ false → Stops r input text end
stopped done g = record { no_input = refl; no_text = refl; same_end = refl }
stopped (turned κ κ' κ'' buffer read after output written offset count going at reads learnt loop) g =
    absurd (true≢false (sym going ∙ g))

-- a turn that is made: the last one, or one that goes on
module _ (s r : State) (buffer b o b₁ o₁ : List ℕ) (count : ℕ) (k : Looping s buffer o) (same : pending_of s b ≡ pending_of s buffer) where
  abbrev p : Pending
  p = pending_of s b

  abbrev input : List ℕ
  input = input_of s count b

  module _ (e : (s.reading && is_nothing input) ≡ true) (is : turned_of r b₁ o₁ ≡ end_rule (length o) p) where
    ended : Ended p (turned_of r b₁ o₁)
    ended =
        subst (Ended p) (sym is)
        (end_comes (length o) k.large.answer p (subst (λ (q : Pending). Unbroken q.held) (sym same) (k.sound.part (both s.reading (is_nothing input) e).0)))

    nothing : input ++ [] ≡ []
    nothing = append-nil input ∙ empty input (both s.reading (is_nothing input) e).1

    last_turn : {following text b₂ o₂ : List ℕ} {end : State} → Loop r b₁ o₁ following text end b₂ o₂ → Result s buffer (input ++ following) (take r.filled o₁ ++ text) end b₂ o₂
    last_turn {following} {text} {end = end} loop =
        let stops = stopped loop ended.going in
        record {
          whole = λ w. ap (λ (l : List ℕ). record { text = take r.filled o₁ ++ l; station = end.station; number = end.number }) stops.no_text
              ∙ ap (λ (x : State). record { text = take r.filled o₁ ++ []; station = x.station; number = x.number }) stops.same_end
              ∙ ended.answers
              ∙ ap (λ (q : Pending). to_come q []) same
              ∙ sym (ap (λ (l : List ℕ). to_come (pending_of s buffer) (input ++ l)) stops.no_input ∙ ap (to_come (pending_of s buffer)) nothing);
          front = λ g. absurd (true≢false (sym g ∙ ap (λ (x : State). x.going) stops.same_end ∙ ended.going));
          ends = λ g. ap (λ (x : State). x.whole) stops.same_end ∙ ended.whole;
          after = λ g. absurd (true≢false (sym g ∙ ap (λ (x : State). x.going) stops.same_end ∙ ended.going));
        }

  module _ (large : longest < length b) (is : turned_of r b₁ o₁ ≡ feed_rule (length b) (length o) p input) where
    comes : (unread : List ℕ) → to_come p (input ++ unread) ≡ before (take r.filled o₁) (to_come (pending_of r b₁) unread)
    comes unread =
        feed_comes (length b) (length o) large p input unread
        ∙ ap (λ (t : Turned). before t.text (to_come t.after unread)) (sym is)

    fed_turn : {following text b₂ o₂ : List ℕ} {end : State} → Result r b₁ following text end b₂ o₂ → Result s buffer (input ++ following) (take r.filled o₁ ++ text) end b₂ o₂
    fed_turn {following} {text} next =
        record {
          whole = λ w. ap (before (take r.filled o₁)) (next.whole w)
              ∙ sym (comes following)
              ∙ ap (λ (q : Pending). to_come q (input ++ following)) same;
          front = λ g unread. record {
            rest = (next.front g unread).rest;
            so =
                ap (λ (x : Ran). x.text) (ap (λ (q : Pending). to_come q ((input ++ following) ++ unread)) (sym same) ∙ ap (to_come p) (append_assoc input following unread) ∙ comes (following ++ unread))
                ∙ ap (λ (l : List ℕ). take r.filled o₁ ++ l) (next.front g unread).so
                ∙ sym (append_assoc (take r.filled o₁) text (next.front g unread).rest);
          };
          ends = next.ends;
          after = next.after;
        }

    fed_looping : Standing r b₁ o₁ → Large b₁ o₁ → Looping r b₁ o₁
    fed_looping stands enough =
        let goes = feed_goes (length b) (length o) large p input in
        record {
          sound = subst (λ (t : Turned). Sound t.after) (sym is) (feed_sound (length b) (length o) large p input (subst Sound (sym same) k.sound));
          standing = stands;
          large = enough;
          going = ap (λ (t : Turned). t.after.going) is ∙ goes.going;
          whole = ap (λ (t : Turned). t.after.whole) is ∙ goes.whole;
        }

-- a turn of the loop
module _ (s r : State) (buffer b o b₁ o₁ : List ℕ) (count : ℕ) (k : Looping s buffer o) (at : ReadAt (read_offset s (length buffer)) count buffer b) (is : turned_of r b₁ o₁ ≡ turn_for s count b (length o)) (leaves : Leaves s count b o r b₁ o₁) {input text b₂ o₂ : List ℕ} {end : State} (loop : Loop r b₁ o₁ input text end b₂ o₂) (next : Looping r b₁ o₁ → Result r b₁ input text end b₂ o₂) where
  by_end : (t : Bool) → (s.reading && is_nothing (input_of s count b)) ≡ t → turned_of r b₁ o₁ ≡ cond t (end_rule (length o) (pending_of s b)) (feed_rule (length b) (length o) (pending_of s b) (input_of s count b))
  unfolding turn_rule
  by_end t e =
      is
      ∙ ap (λ (x : Bool). cond x (turn_rule (length b) (length o) (pending_of s b) (input_of s count b)) (refused_turn (pending_of s b))) (can k at)
      ∙ ap (λ (x : Bool). cond x (end_rule (length o) (pending_of s b)) (feed_rule (length b) (length o) (pending_of s b) (input_of s count b))) e

  line : longest < length b
  line = omega (arith, k.large.line, at.same)

  enough : Large b₁ o₁
  enough =
      record {
        line = omega (arith, line, leaves.same_input);
        answer = omega (arith, k.large.answer, leaves.same_output);
      }

  turn_by : (t : Bool) → (s.reading && is_nothing (input_of s count b)) ≡ t → Result s buffer (input_of s count b ++ input) (take r.filled o₁ ++ text) end b₂ o₂
  turn_by true e = last_turn s r buffer b o b₁ o₁ count k (still_pending k at) e (by_end true e) loop
  turn_by false e =
      fed_turn s r buffer b o b₁ o₁ count k (still_pending k at) line (by_end false e)
      (next (fed_looping s r buffer b o b₁ o₁ count k (still_pending k at) line (by_end false e) (leaves.standing (can k at)) enough))

  turn_result : Result s buffer (input_of s count b ++ input) (take r.filled o₁ ++ text) end b₂ o₂
  turn_result = turn_by (s.reading && is_nothing (input_of s count b)) refl

result : {s end : State} {buffer output input text buffer₁ output₁ : List ℕ} → Looping s buffer output → Loop s buffer output input text end buffer₁ output₁ → Result s buffer input text end buffer₁ output₁
result {s} {buffer = buffer} k done =
    record {
      whole = λ w. absurd (true≢false (sym w ∙ k.whole));
      front = λ g unread. record { rest = (to_come (pending_of s buffer) unread).text; so = refl };
      ends = λ g. absurd (true≢false (sym k.going ∙ g));
      after = λ g. k;
    }
result {s} {end} {buffer₁ = last} {output₁ = last_output_law} k (turned {r = r} {input = input} {text = text} κ κ' κ'' buffer read after output written offset count going at reads learnt loop) =
    let reads_at = subst (λ (n : ℕ). ReadAt n count buffer.now read.now) at.0 reads in
    let input_is : take count (drop offset read.now) ≡ input_of s count read.now = ap (λ (n : ℕ). take count (drop n read.now)) at.0 ∙ read_input k reads_at in
    subst (λ (l : List ℕ). Result s buffer.now (l ++ input) (take r.filled written.now ++ text) end last last_output_law) (sym input_is)
    (turn_result s r buffer.now read.now output.now after.now written.now count k reads_at learnt.0 learnt.1 loop (λ next. result next loop))

-- the first turn
first : {s : State} {buffer output : List ℕ} → Starts s → Large buffer output → Looping s buffer output
first {s} {buffer} {output} start large =
    record {
      sound = subst Sound (sym (start.pending_is buffer)) sound_start;
      standing = record {
        ordered = omega (arith, start.empty, start.begins);
        within = omega (arith, start.empty);
        room = λ e. omega (arith, start.empty, large.line);
        filled = omega (arith, start.filled);
      };
      large = large;
      going = ap (λ (p : Pending). p.going) (start.pending_is buffer);
      whole = ap (λ (p : Pending). p.whole) (start.pending_is buffer);
    }

from_start : {s : State} (buffer : List ℕ) → Starts s → (unread : List ℕ) → to_come (pending_of s buffer) unread ≡ run_rule fresh_station 0 unread
unfolding to_come
from_start {s} buffer start unread = ap (λ (p : Pending). to_come p unread) (start.pending_is buffer)

-- a read that brings nothing
ends_whole : (s r : State) (b o b₁ o₁ : List ℕ) → Looping s b o → s.reading ≡ true → turned_of r b₁ o₁ ≡ turn_for s 0 b (length o) → r.whole ≡ true
unfolding turn_rule
ends_whole s r b o b₁ o₁ k reading is =
    let ready_now = is_ready_law s 0 (length b) (length o) k.going k.standing.ordered (omega (arith, k.standing.within)) k.large.line k.large.answer k.standing.room k.sound.cut in
    let e : (s.reading && is_nothing []) ≡ true = ap (λ (t : Bool). t && is_nothing []) reading in
    let ends : turned_of r b₁ o₁ ≡ end_rule (length o) (pending_of s b) =
    is
    ∙ ap (λ (x : Bool). cond x (turn_rule (length b) (length o) (pending_of s b) []) (refused_turn (pending_of s b))) ready_now
    ∙ ap (λ (x : Bool). cond x (end_rule (length o) (pending_of s b)) (feed_rule (length b) (length o) (pending_of s b) [])) e in
    (ended s r b b o b₁ o₁ 0 k refl e ends).whole

-- a turn after which the script is whole
module _ (s r : State) (b o b₁ o₁ : List ℕ) (count : ℕ) (is : turned_of r b₁ o₁ ≡ turn_for s count b (length o)) (whole : r.whole ≡ true) where
  abbrev read : List ℕ
  read = input_of s count b

  module _ (e : is_ready s count (length b) (length o) ≡ true) where
    made : Ready s count (length b) (length o)
    made = ready s count (length b) (length o) e

    is_turn : turned_of r b₁ o₁ ≡ turn_rule (length b) (length o) (pending_of s b) read
    is_turn =
        is
        ∙ ap (λ (x : Bool). cond x (turn_rule (length b) (length o) (pending_of s b) read) (refused_turn (pending_of s b))) e

    nothing_by : (t : Bool) → (s.reading && is_nothing read) ≡ t → (s.reading ≡ true) × (count ≡ 0)
    unfolding turn_rule
    nothing_by true f = (
      (both s.reading (is_nothing read) f).0,
      eqb-true count 0 (sym (empty_size read (input_size s b count (length o) made.ordered made.fits)) ∙ (both s.reading (is_nothing read) f).1),
    )
    nothing_by false f =
        absurd (true≢false (sym whole ∙ ap (λ (t : Turned). t.after.whole) (is_turn ∙ ap (λ (x : Bool). cond x (end_rule (length o) (pending_of s b)) (feed_rule (length b) (length o) (pending_of s b) read)) f) ∙ (feed_goes (length b) (length o) made.large (pending_of s b) read).whole))

  whole_by : (t : Bool) → is_ready s count (length b) (length o) ≡ t → (s.reading ≡ true) × (count ≡ 0)
  whole_by true e = nothing_by e (s.reading && is_nothing read) refl
  whole_by false e =
      absurd (true≢false (sym whole ∙ ap (λ (t : Turned). t.after.whole) is ∙ ap (λ (x : Bool). (cond x (turn_rule (length b) (length o) (pending_of s b) read) (refused_turn (pending_of s b))).after.whole) e))

-- a turn on lines that wait
module _ (s r : State) (b o b₁ o₁ : List ℕ) (waits : s.reading ≡ false) (is : turned_of r b₁ o₁ ≡ turn_for s 0 b (length o)) (going : r.going ≡ true) (waiting : r.reading ≡ false) where
  shorter_by : (t : Bool) → is_ready s 0 (length b) (length o) ≡ t → length (held_of r b₁) < length (held_of s b)
  unfolding turn_rule
  shorter_by true e =
      let fed : turned_of r b₁ o₁ ≡ feed_rule (length b) (length o) (pending_of s b) [] =
      is
      ∙ ap (λ (x : Bool). cond x (turn_rule (length b) (length o) (pending_of s b) []) (refused_turn (pending_of s b))) e
      ∙ ap (λ (x : Bool). cond (x && is_nothing []) (end_rule (length o) (pending_of s b)) (feed_rule (length b) (length o) (pending_of s b) [])) waits in
      let less = feed_shorter (length b) (length o) (ready s 0 (length b) (length o) e).large (pending_of s b) [] (ready s 0 (length b) (length o) e).answer (sym (ap (λ (t : Turned). t.after.reading) fed) ∙ waiting) in
      omega (arith, less, ap (λ (t : Turned). length t.after.held) fed)
  shorter_by false e =
      absurd (true≢false (sym going ∙ ap (λ (t : Turned). t.after.going) is ∙ ap (λ (x : Bool). (cond x (turn_rule (length b) (length o) (pending_of s b) []) (refused_turn (pending_of s b))).after.going) e))

pub replays : Replays
replays =
    record {
      whole = λ {s} {end} {buffer} start large loop w. (result (first start large) loop).whole w ∙ from_start buffer start _;
      front = λ {s} {end} {buffer} {output} {input} start large loop g unread.
          let f = (result (first start large) loop).front g unread in
          record { rest = f.rest; so = ap (λ (x : Ran). x.text) (sym (from_start buffer start (input ++ unread))) ∙ f.so };
      ends = λ start large loop g. (result (first start large) loop).ends g;
      at_end_law = λ {s} {end} {r} κ κ' read after last written start large loop going reading learnt. ends_whole end r read.now last.now after.now written.now ((result (first start large) loop).after going) reading learnt.0;
      only_at_end = λ {s} {r} κ κ' read after output written count learnt whole. whole_by s r read.now output.now after.now written.now count learnt.0 whole _ refl;
      answers_some = λ {s} {r} κ κ' buffer after output written waits learnt going waiting. shorter_by s r buffer.now output.now after.now written.now waits learnt.0 going waiting _ refl;
    }
