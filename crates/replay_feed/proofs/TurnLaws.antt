-- Laws of a turn of the program: where it is made it is the rule's, and else nothing changes.
use Rattle.std.specs.Prelude.{ℕ, ◌+◌, ◌≤◌, ◌<◌, ◌≡◌, refl, Bool, true, false, not, ◌&&◌, List, [], eqb, leb, ltb, length, drop}
use Rattle.std.proofs.Common.{sym, ◌∙◌, true≢false, arith, leb-true, ltb-true, le-leb, lt-ltb, eq-eqb, ne_eqb}
use mathlib.Core.Logic.{◌⊎◌, inl, inr}
use Rattle.std.proofs.Math.Path.{ap}
use Rattle.std.proofs.Math.Bool.{cond}
use Rattle.std.proofs.lemmas.Bool.{false≢true}
use Rattle.report.proofs.ChoicesLaws.{both}
use Rattle.station.specs.declared.Station.{Station}
use Rattle.station.specs.Stations.{fresh_station}
use Rattle.replay_desk.specs.LineAnswers.{answer_room}
use Rattle.replay_feed.specs.declared.State.{State}
use Rattle.replay_feed.specs.LongLines.{longest}
use Rattle.replay_feed.specs.Turns.{is_nothing, Turned, feed_rule, end_rule, turn_rule, refused_turn}
use Rattle.replay_feed.specs.TurnContracts.{input_of, pending_of, turned_of, Starts, Standing, is_ready, turn_for, refused_state, Leaves}
use Rattle.replay_feed.proofs.FeedLaws.{empty_size, input_size}

pub starts : {st : Station} → st ≡ fresh_station → Starts (record { station = st; number = 0; start = 0; size = 0; cut = false; reading = true; going = true; whole = false; filled = 0 })
starts e =
    record {
      pending_is = λ buffer. ap (λ (x : Station). record { station = x; number = 0; held = []; cut = false; reading = true; going = true; whole = false }) e;
      begins = refl;
      empty = refl;
      filled = refl;
    }

-- what a turn that is made can count on
pub record Ready (s : State) (count buffer output : ℕ) : Type 0 where
  pub ordered : s.start ≤ s.size
  pub fits : s.size + count ≤ buffer
  pub large : longest < buffer
  pub answer : answer_room ≤ output
  pub free : s.reading ≡ true → s.size < buffer
  pub cut : s.cut ≡ true → s.size < buffer

free_by : (s : State) (buffer : ℕ) (t : Bool) → s.reading ≡ t → cond t (ltb s.size buffer) (not s.cut) ≡ true → (s.reading ≡ true → s.size < buffer) × (s.cut ≡ true → s.size < buffer)
free_by s buffer true e k = (λ f. ltb-true s.size buffer k, λ f. ltb-true s.size buffer k)
free_by s buffer false e k = (
  λ f. absurd (true≢false (sym f ∙ e)),
  λ f. absurd (true≢false (sym k ∙ ap not f)),
)

pub ready : (s : State) (count buffer output : ℕ) → is_ready s count buffer output ≡ true → Ready s count buffer output
ready s count buffer output e =
    let going = both s.going _ e in
    let ordered = both (leb s.start s.size) _ going.1 in
    let fits = both (leb (s.size + count) buffer) _ ordered.1 in
    let large = both (ltb longest buffer) _ fits.1 in
    let answer = both (leb answer_room output) _ large.1 in
    let free = free_by s buffer s.reading refl answer.1 in
    record {
      ordered = leb-true s.start s.size ordered.0;
      fits = leb-true (s.size + count) buffer fits.0;
      large = ltb-true longest buffer large.0;
      answer = leb-true answer_room output answer.0;
      free = free.0;
      cut = free.1;
    }

behind_true : (a : Bool) {b : Bool} → a ≡ true → b ≡ (a && b)
behind_true true e = refl
behind_true false e = absurd (false≢true e)

-- where all else holds, it goes by the last test
pub ready_at : (s : State) (count buffer output : ℕ) {r : Bool} → s.going ≡ true → s.start ≤ s.size → s.size + count ≤ buffer → longest < buffer → answer_room ≤ output → r ≡ cond s.reading (ltb s.size buffer) (not s.cut) → r ≡ is_ready s count buffer output
ready_at s count buffer output going ordered fits large answer last =
    last
    ∙ behind_true (leb answer_room output) (le-leb answer_room output answer)
    ∙ behind_true (ltb longest buffer) (lt-ltb longest buffer large)
    ∙ behind_true (leb (s.size + count) buffer) (le-leb (s.size + count) buffer fits)
    ∙ behind_true (leb s.start s.size) (le-leb s.start s.size ordered)
    ∙ behind_true s.going going

not_cut : (s : State) (t : Bool) → s.cut ≡ t → s.reading ≡ false → (s.cut ≡ true → s.reading ≡ true) → not t ≡ true
not_cut s true e k cut = absurd (true≢false (sym (cut e) ∙ k))
not_cut s false e k cut = refl

is_free : (s : State) (buffer : ℕ) (t : Bool) → s.reading ≡ t → (s.reading ≡ true → s.size < buffer) → (s.cut ≡ true → s.reading ≡ true) → cond t (ltb s.size buffer) (not s.cut) ≡ true
is_free s buffer true e free cut = lt-ltb s.size buffer (free e)
is_free s buffer false e free cut = not_cut s s.cut refl e cut

pub is_ready_law : (s : State) (count buffer output : ℕ) → s.going ≡ true → s.start ≤ s.size → s.size + count ≤ buffer → longest < buffer → answer_room ≤ output → (s.reading ≡ true → s.size < buffer) → (s.cut ≡ true → s.reading ≡ true) → is_ready s count buffer output ≡ true
is_ready_law s count buffer output going ordered fits large answer free cut =
    sym (ready_at s count buffer output going ordered fits large answer (sym (is_free s buffer s.reading refl free cut)))

module _ (s : State) (count : ℕ) (b o : List ℕ) where
  abbrev chosen : Bool → Turned
  chosen t =
      cond t (turn_rule (length b) (length o) (pending_of s b) (input_of s count b)) (refused_turn (pending_of s b))

  -- a turn that is refused
  module _ (e : is_ready s count (length b) (length o) ≡ false) where
    pub refuses : turned_of (refused_state s) b o ≡ turn_for s count b (length o)
    refuses = ap chosen (sym e)

    pub refused_leaves : Leaves s count b o (refused_state s) b o
    refused_leaves =
        record {
          standing = λ t. absurd (true≢false (sym t ∙ e));
          refused = λ f. (refl, (refl, refl));
          filled = omega arith;
          behind = refl;
          same_input = refl;
          same_output = refl;
        }

  -- a turn that is made
  module _ (e : is_ready s count (length b) (length o) ≡ true) where
    made : Ready s count (length b) (length o)
    made = ready s count (length b) (length o) e

    abbrev ends : Bool
    ends = s.reading && eqb count 0

    is_empty_law : (s.reading && is_nothing (input_of s count b)) ≡ ends
    is_empty_law =
        ap (λ (t : Bool). s.reading && t) (empty_size (input_of s count b) (input_size s b count (length o) made.ordered made.fits))

    by_end : {turned : Turned} → turned ≡ cond ends (end_rule (length o) (pending_of s b)) (feed_rule (length b) (length o) (pending_of s b) (input_of s count b)) → turned ≡ turn_for s count b (length o)
    unfolding turn_rule
    by_end k =
        k
        ∙ ap (λ (t : Bool). cond t (end_rule (length o) (pending_of s b)) (feed_rule (length b) (length o) (pending_of s b) (input_of s count b))) (sym is_empty_law)
        ∙ ap chosen (sym e)

    -- by both tests at once
    pub made_at_end : {turned : Turned} → ends ≡ true → turned ≡ end_rule (length o) (pending_of s b) → turned ≡ turn_for s count b (length o)
    made_at_end f k =
        by_end (k ∙ ap (λ (t : Bool). cond t (end_rule (length o) (pending_of s b)) (feed_rule (length b) (length o) (pending_of s b) (input_of s count b))) (sym f))

    pub made_before : {turned : Turned} → ends ≡ false → turned ≡ feed_rule (length b) (length o) (pending_of s b) (input_of s count b) → turned ≡ turn_for s count b (length o)
    made_before f k =
        by_end (k ∙ ap (λ (t : Bool). cond t (end_rule (length o) (pending_of s b)) (feed_rule (length b) (length o) (pending_of s b) (input_of s count b))) (sym f))

    -- by each
    pub finishes : {turned : Turned} → s.reading ≡ true → count ≡ 0 → turned ≡ end_rule (length o) (pending_of s b) → turned ≡ turn_for s count b (length o)
    finishes reading none k =
        made_at_end (ap (λ (t : Bool). t && eqb count 0) reading ∙ eq-eqb count 0 none) k

    no_end : ((s.reading ≡ true) × (count ≡ 0 → ⊥)) ⊎ (s.reading ≡ false) → ends ≡ false
    no_end (inl h) = ap (λ (t : Bool). t && eqb count 0) h.0 ∙ ne_eqb count 0 h.1
    no_end (inr h) = ap (λ (t : Bool). t && eqb count 0) h

    pub feeds : {turned : Turned} → ((s.reading ≡ true) × (count ≡ 0 → ⊥)) ⊎ (s.reading ≡ false) → turned ≡ feed_rule (length b) (length o) (pending_of s b) (input_of s count b) → turned ≡ turn_for s count b (length o)
    feeds going_on k = made_before (no_end going_on) k

    pub made_leaves : (r : State) {b₁ o₁ : List ℕ} → Standing r b₁ o₁ → drop r.filled o₁ ≡ drop r.filled o → length b ≡ length b₁ → length o ≡ length o₁ → Leaves s count b o r b₁ o₁
    made_leaves r stands behind same_input same_output =
        record {
          standing = λ t. stands;
          refused = λ f. absurd (true≢false (sym e ∙ f));
          filled = stands.filled;
          behind = behind;
          same_input = sym same_input;
          same_output = sym same_output;
        }
