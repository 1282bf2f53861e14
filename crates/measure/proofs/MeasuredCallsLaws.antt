-- What each turn of the loop gives is what the rules give.
use Rattle.std.specs.Prelude.{◌≡◌, ℕ, ◌+◌, ◌-◌, ◌*◌, ◌/◌, ◌%◌, ◌<◌, ◌≤◌, List, length, take, drop, refl}
use Rattle.std.proofs.Common.{sym, ◌∙◌, arith, add-one}
use Rattle.std.proofs.Math.Path.{ap}
use borrow.Author.Tests.{ne_eqb}
use Rattle.report.specs.Sizes.{byte}
use Rattle.frame.specs.FrameContracts.{Written, written_of}
use Rattle.station.specs.declared.Station.{Station}
use Rattle.station.specs.StationContracts.{TakeCalled, RequestCalled, CancelCalled, TickCalled, RestoreCalled}
use Rattle.station.specs.Stations.{fresh_station}
use Rattle.station.specs.StationPromises.{TakePromise, RequestPromise, CancelPromise, TickPromise, ListPromise, StorePromise, RestorePromise}
use Rattle.measure.specs.Weights.{take_weight, write_weight, cancel_weight, tick_weight, restore_weight}
use Rattle.measure.specs.MeasuredCalls.{call_head_size, room_size, call_size, call_byte, lent_at, Course, added, measured_take, measured_request, measured_cancel, measured_tick, measured_text, measured_restore, measured_call, after, measured_in, measured, measured_by}
use Rattle.port.specs.PortContracts.{taken_of, cancel_of}
use Rattle.restore.specs.RestoreContracts.{restored_of}

abbrev pub course : ℕ → Station → List ℕ → Course
course sum s lent = record { sum = sum; station = s; lent = lent }

-- the bytes that a call lends
pub lent_part : (calls : List ℕ) (at : ℕ) → take ((at + call_head_size + call_byte calls at 1 % room_size) - (at + call_head_size)) (drop (at + call_head_size) calls) ≡ lent_at calls at
lent_part calls at =
    let e : (at + call_head_size + call_byte calls at 1 % room_size) - (at + call_head_size) ≡ call_byte calls at 1 % room_size = omega arith in
    ap (λ (n : ℕ). take n (drop (at + call_head_size) calls)) e

-- one turn, by the kind of its call
module _ (calls text : List ℕ) (sum : ℕ) (s : Station) (lent : List ℕ) (at : ℕ) {next w : ℕ} (a : next ≡ added sum w) where
  pub take_turn : (t : TakeCalled) {bytes : List ℕ} → byte calls at ≡ 0 → bytes ≡ lent_at calls at → TakePromise s bytes t → w ≡ take_weight (taken_of t.answer) → course next t.next lent ≡ measured_call (course sum s lent) calls text at
  unfolding measured_call
  take_turn t {bytes} k b p e = simp (k, ← b) (ap (λ (n : ℕ). course n t.next lent) (a ∙ ap (added sum) e) ∙ ap (measured_take (course sum s lent)) p)

  pub request_turn : (r : RequestCalled) {after params : List ℕ} {ticks : ℕ} → byte calls at ≡ 1 → params ≡ lent_at calls at → ticks ≡ call_byte calls at 5 → RequestPromise s (call_byte calls at 2) (call_byte calls at 3) (call_byte calls at 4) ticks params 0 lent r after → w ≡ write_weight (written_of r.answer) → course next r.next after ≡ measured_call (course sum s lent) calls text at
  unfolding measured_call
  request_turn r {after} k b q p e = simp (k, ← b, ← q) (ap (λ (n : ℕ). course n r.next after) (a ∙ ap (added sum) e) ∙ ap (measured_request (course sum s lent)) p)

  pub cancel_turn : (r : CancelCalled) → byte calls at ≡ 2 → CancelPromise s (call_byte calls at 2) (call_byte calls at 3) (call_byte calls at 4) r → w ≡ cancel_weight (cancel_of r.answer) → course next r.next lent ≡ measured_call (course sum s lent) calls text at
  unfolding measured_call
  cancel_turn r k p e = simp k (ap (λ (n : ℕ). course n r.next lent) (a ∙ ap (added sum) e) ∙ ap (measured_cancel (course sum s lent)) p)

  pub tick_turn : (r : TickCalled) → byte calls at ≡ 3 → TickPromise s r → w ≡ tick_weight r.answer → course next r.next lent ≡ measured_call (course sum s lent) calls text at
  unfolding measured_call
  tick_turn r k p e = simp k (ap (λ (n : ℕ). course n r.next lent) (a ∙ ap (added sum) e) ∙ ap (measured_tick (course sum s lent)) p)

  pub store_turn : (r : Written) {after : List ℕ} → byte calls at ≡ 5 → StorePromise s 0 lent r after → w ≡ write_weight (written_of r) → course next s after ≡ measured_call (course sum s lent) calls text at
  unfolding measured_call
  store_turn r {after} k p e = simp k (ap (λ (n : ℕ). course n s after) (a ∙ ap (added sum) e) ∙ ap (measured_text (course sum s lent)) p)

  pub restore_turn : (r : RestoreCalled) → byte calls at ≡ 6 → RestorePromise s text r → w ≡ restore_weight (restored_of r.answer) → course next r.next lent ≡ measured_call (course sum s lent) calls text at
  unfolding measured_call
  restore_turn r k p e = simp k (ap (λ (n : ℕ). course n r.next lent) (a ∙ ap (added sum) e) ∙ ap (measured_restore (course sum s lent)) p)

  pub list_turn : (r : Written) {after : List ℕ} → ¬ (byte calls at ≡ 0) → ¬ (byte calls at ≡ 1) → ¬ (byte calls at ≡ 2) → ¬ (byte calls at ≡ 3) → ¬ (byte calls at ≡ 5) → ¬ (byte calls at ≡ 6) → ListPromise s 0 lent r after → w ≡ write_weight (written_of r) → course next s after ≡ measured_call (course sum s lent) calls text at
  unfolding measured_call
  list_turn r {after} k0 k1 k2 k3 k5 k6 p e = simp (ne_eqb _ _ k0, ne_eqb _ _ k1, ne_eqb _ _ k2, ne_eqb _ _ k3, ne_eqb _ _ k5, ne_eqb _ _ k6) (ap (λ (n : ℕ). course n s after) (a ∙ ap (added sum) e) ∙ ap (measured_text (course sum s lent)) p)

-- the loop's state: what the first i calls have come to
pub record Running (calls text lent₀ lent : List ℕ) (s : Station) (sum i : ℕ) : Type 0 where
  pub within : i ≤ length calls / call_size
  pub long : length lent ≡ length lent₀
  pub so : course sum s lent ≡ after calls text lent₀ i

pub begun : (calls text lent : List ℕ) {s : Station} → s ≡ fresh_station → Running calls text lent lent s 0 0
unfolding after
begun calls text lent e = record { within = omega arith; long = refl; so = ap (λ (x : Station). course 0 x lent) e }

pub more : {calls text lent₀ lent next : List ℕ} {s t : Station} {sum n i : ℕ} → Running calls text lent₀ lent s sum i → i < length calls / call_size → length next ≡ length lent → course n t next ≡ measured_call (course sum s lent) calls text (call_size * i) → Running calls text lent₀ next t n (i + 1)
unfolding after
more {calls} {text} {lent₀} {i = i} r h l e =
    record {
      within = omega arith;
      long = l ∙ r.long;
      so = e ∙ ap (λ (c : Course). measured_call c calls text (call_size * i)) r.so ∙ ap (after calls text lent₀) (sym (add-one i));
    }

pub finished : {calls text lent₀ lent : List ℕ} {s : Station} {sum i : ℕ} → Running calls text lent₀ lent s sum i → length calls / call_size ≤ i → measured_by sum lent ≡ measured calls text lent₀
finished {calls} {text} {lent₀} {i = i} r h =
    let e : i ≡ length calls / call_size = omega (arith, r.within) in
    ap measured_in r.so ∙ ap (λ (n : ℕ). measured_in (after calls text lent₀ n)) e
