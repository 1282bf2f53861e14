-- Document 01, "Writing", "Taking a HID++ report" and "Taking a DJ report": what a call makes of each place of its port, and that its answer counts the places emptied.
use Prim.Native.Nat.{ℕ, zero, suc, ◌+◌, ◌≤◌, ◌<◌}
use Rattle.std.specs.Prelude.{◌≡◌, Bool, true, not, ◌&&◌, length, eqb}
use Rattle.std.proofs.Math.Path.{refl, ap}
use Rattle.std.proofs.Common.{sym, ◌∙◌, subst, true≢false, arith, get_or-set_same, get_or-set_other, eqb-true, eq-eqb, ne_eqb}
use Rattle.std.proofs.Math.Bool.{false, cond, and-false}
use Rattle.std.proofs.lemmas.Bool.{false≢true, not-true, not-false}
use mathlib.Core.List.{List, [], ◌∷◌}
use Rattle.std.proofs.Math.Decide.{ℕ_discrete}
use Rattle.std.proofs.Math.ListN.{set}
use Rattle.report.proofs.ChoicesLaws.{by_case, both}
use Rattle.report.specs.Sizes.{byte}
use Rattle.report.specs.Reading.{Report}
use Rattle.port.specs.declared.Port.{Port}
use Rattle.port.specs.declared.Request.{Request}
use Rattle.port.specs.Records.{place_count, empty_place, fresh_port, made_fresh, request_in, with_places, with_pairing, with_serial, with_link, with_reports}
use Rattle.port.specs.Places.{is_empty, matches, sum_over, one_if_waiting, count_waiting}
use Rattle.port.specs.Waiting as waiting
use Rattle.port.specs.Waiting.{waiting_at, ended_at}
use Rattle.port.specs.Answers.{reply, Result}
use Rattle.matching.specs.declared.Message.{Message}
use Rattle.matching.specs.Matching.{answers}
use Rattle.hidpp.specs.HidppTaking.{carried, named2, named3, code}
use Rattle.serial.specs.Serials.{parameter_for, SerialResult}
use Rattle.reach.proofs.ListsLaws.{sum_set, each_replicate}
use Rattle.reach.specs.Sound.{SoundPlaces}
use Rattle.reach.proofs.SoundLaws.{empty_fails, reply_records, error_records, event_records}
use Rattle.reach.specs.CallCases.{Waits, Answered, failed_place, replied_place, HidppCase, gives_failed, gives_reply, gives_stray, gives_plain, gives_event, replied_port, SerialCase, keeps_none, first_serial, same_serial, other_serial, DjCase, dj_refused, radio_taken, unpairs, paired_same, paired_new, link_set, other_notice, CancelCase, refused13, cancel_done, Placed}
use Rattle.reach.proofs.CallCasesLaws.{not_so, passes_there, none_answers, answers_matches, answered_waits}
use Rattle.reach.specs.Ends.{Way, by_reply, by_error, by_expiry, by_cancel, by_drop, way_number, is_way, Ending, nothing, one, dropped, expired, take_ending, cancel_ending, ends_by, one_if, ended_by, ended_in_all, waiting_on}

-- sums over the places
pub sum_zero : (f : Request → ℕ) → ((r : Request) → f r ≡ 0) → (rs : List Request) → sum_over f rs ≡ 0
unfolding sum_over
sum_zero f h [] = refl
sum_zero f h (r ∷ rs) = omega (arith, h r, sum_zero f h rs)

pub sum_same : (f g : Request → ℕ) → ((r : Request) → f r ≡ g r) → (rs : List Request) → sum_over f rs ≡ sum_over g rs
unfolding sum_over
sum_same f g h [] = refl
sum_same f g h (r ∷ rs) = omega (arith, h r, sum_same f g h rs)

-- a request that waits is counted
pub waiting_counts : (places : List Request) (place : ℕ) → is_empty (request_in places place) ≡ false → 1 ≤ count_waiting places
unfolding sum_over empty_place
waiting_counts [] place e = absurd (true≢false e)
waiting_counts (r ∷ rs) zero e = simp e (omega arith)
waiting_counts (r ∷ rs) (suc place) e = omega (arith, waiting_counts rs place e)

-- a test that one place passes, and no other
module _ (test : Request → Bool) (fails : test empty_place ≡ false) where
  abbrev Only : List Request → Type 0
  Only rs = (i j : ℕ) → test (request_in rs i) ≡ true → test (request_in rs j) ≡ true → i ≡ j

  none_passes : (rs : List Request) → ((i : ℕ) → test (request_in rs i) ≡ false) → sum_over (λ r. one_if (test r)) rs ≡ 0
  unfolding sum_over
  none_passes [] h = refl
  none_passes (r ∷ rs) h = simp (h 0) (omega (arith, none_passes rs (λ i. h (suc i))))

  pub one_passes : (rs : List Request) (k : ℕ) → Only rs → test (request_in rs k) ≡ true → sum_over (λ r. one_if (test r)) rs ≡ 1
  unfolding sum_over
  one_passes [] k u e = absurd (false≢true (sym fails ∙ e))
  one_passes (r ∷ rs) zero u e =
      simp e (omega (arith, none_passes rs (λ i. not_so _ (λ q. let z : 0 ≡ suc i = u 0 (suc i) e q in absurd (omega arith)))))
  one_passes (r ∷ rs) (suc k) u e =
      let first : test r ≡ false = not_so _ (λ q. let z : 0 ≡ suc k = u 0 (suc k) q e in absurd (omega arith)) in
      simp first (omega (arith, one_passes rs k (λ i j p q. let z : suc i ≡ suc j = u (suc i) (suc j) p q in omega arith) e))

-- what becomes of a place by what an answer says of the requests that ended
pub data Change (n : ℕ) (x : Ending) (before after : Request) : Type 0 where
  same : ((w : Way) → ends_by w n x before ≡ false) → after ≡ before → Change n x before after
  empties : (w : Way) → ends_by w n x before ≡ true → is_empty before ≡ false → after ≡ empty_place → Change n x before after

pub record EndingAt (n : ℕ) (x : Ending) (p q : Port) : Type 0 where
  pub change : (place : ℕ) → Change n x (request_in p.places place) (request_in q.places place)
  pub counted : (w : Way) → sum_over (λ r. one_if (ends_by w n x r)) p.places ≡ ended_by w n x
  pub balance : waiting_on q + ended_in_all n x ≡ waiting_on p

-- what an answer says is about another port, or counts none
abbrev pub Elsewhere : ℕ → Ending → Type 0
Elsewhere n nothing = Unit {0}
Elsewhere n (one way port byte2 byte3) = eqb port n ≡ false
Elsewhere n (dropped port count) = (eqb port n && not (eqb count 0)) ≡ false
Elsewhere n (expired counts) = ⊥

module _ (n : ℕ) (p q : Port) where
  apart_ends : (x : Ending) → Elsewhere n x → (w : Way) (r : Request) → ends_by w n x r ≡ false
  apart_ends nothing h w r = refl
  apart_ends (one way port byte2 byte3) h w r = simp h
  apart_ends (dropped port count) h w r = go (eqb port n) (is_way w by_drop) (is_empty r) (eqb count 0) h
    where
      go : (a b c d : Bool) → (a && not d) ≡ false → (a && (b && (not c && not d))) ≡ false
      go false b c d h = refl
      go true false c d h = refl
      go true true c false h = absurd (true≢false h)
      go true true true true h = refl
      go true true false true h = refl
  apart_ends (expired counts) h w r = absurd h

  apart_counts : (x : Ending) → Elsewhere n x → (w : Way) → ended_by w n x ≡ 0
  apart_counts nothing h w = refl
  apart_counts (one way port byte2 byte3) h w = simp h
  apart_counts (dropped port count) h w = go (eqb port n) (is_way w by_drop) h
    where
      go : (a b : Bool) → (a && not (eqb count 0)) ≡ false → cond (a && b) count 0 ≡ 0
      go false b h = refl
      go true false h = refl
      go true true h = eqb-true count 0 (not-false (eqb count 0) h)
  apart_counts (expired counts) h w = absurd h

  -- nothing ends here
  quiet : (x : Ending) → ((w : Way) (r : Request) → ends_by w n x r ≡ false) → ((w : Way) → ended_by w n x ≡ 0) → q.places ≡ p.places → EndingAt n x p q
  quiet x f g e =
      record {
        change = λ place. same (λ w. f w (request_in p.places place)) (ap (λ (l : List Request). request_in l place) e);
        counted = λ w. sum_zero (λ r. one_if (ends_by w n x r)) (λ r. ap one_if (f w r)) p.places ∙ sym (g w);
        balance = omega (arith, ap count_waiting e, g by_reply, g by_error, g by_expiry, g by_cancel, g by_drop);
      }

  pub elsewhere : (x : Ending) → Elsewhere n x → q.places ≡ p.places → EndingAt n x p q
  elsewhere x h e = quiet x (apart_ends x h) (apart_counts x h) e

  is_n : eqb n n ≡ true
  is_n = eq-eqb n n refl

  -- an answer that counts none
  drops_none : q.places ≡ p.places → EndingAt n (dropped n 0) p q
  drops_none e = elsewhere (dropped n 0) (and-false (eqb n n)) e

  -- one that counts all that waited
  all_counted : (b : Bool) → eqb (waiting_on p) 0 ≡ b → sum_over (λ r. one_if (not (is_empty r) && not b)) p.places ≡ waiting_on p
  all_counted true z = sum_zero _ (λ r. go (is_empty r)) p.places ∙ sym (eqb-true (waiting_on p) 0 z)
    where
      go : (c : Bool) → one_if (not c && false) ≡ 0
      go true = refl
      go false = refl
  all_counted false z = sum_same _ one_if_waiting (λ r. go (is_empty r)) p.places
    where
      go : (c : Bool) → one_if (not c && true) ≡ cond c 0 1
      go true = refl
      go false = refl

  drop_counts : (w : Way) (b : Bool) → is_way w by_drop ≡ b → sum_over (λ r. one_if (ends_by w n (dropped n (waiting_on p)) r)) p.places ≡ ended_by w n (dropped n (waiting_on p))
  drop_counts w true h = simp (is_n, h) (all_counted (eqb (waiting_on p) 0) refl)
  drop_counts w false h = simp (is_n, h) (sum_zero _ (λ r. refl) p.places)

  idle_drop : (w : Way) (r : Request) → is_empty r ≡ true → ends_by w n (dropped n (waiting_on p)) r ≡ false
  idle_drop w r h = simp (is_n, h) (and-false (is_way w by_drop))

  pub fresh_empty : q.places ≡ fresh_port.places → (place : ℕ) → request_in q.places place ≡ empty_place
  unfolding fresh_port
  fresh_empty e place =
      ap (λ (l : List Request). request_in l place) e ∙ each_replicate (λ (r : Request). r ≡ empty_place) empty_place place_count empty_place refl refl place

  drop_balance : q.places ≡ fresh_port.places → waiting_on q + ended_in_all n (dropped n (waiting_on p)) ≡ waiting_on p
  unfolding fresh_port sum_over empty_place
  drop_balance e = simp is_n (omega (arith, ap count_waiting e))

  drops_all : SoundPlaces p.places → q.places ≡ fresh_port.places → EndingAt n (dropped n (waiting_on p)) p q
  drops_all s e =
      record {
        change = λ place. go place (is_empty (request_in p.places place)) refl;
        counted = λ w. drop_counts w (is_way w by_drop) refl;
        balance = drop_balance e;
      }
    where
      go : (place : ℕ) (b : Bool) → is_empty (request_in p.places place) ≡ b → Change n (dropped n (waiting_on p)) (request_in p.places place) (request_in q.places place)
      go place true h =
          same (λ w. idle_drop w (request_in p.places place) h) (fresh_empty e place ∙ sym ((s.each place).empty h))
      go place false h =
          empties by_drop (simp (is_n, h, ne_eqb (waiting_on p) 0 (omega (arith, waiting_counts p.places place h)))) h (fresh_empty e place)

-- where a request waits
pub waits_there : (p : Port) → Placed p → (byte2 byte3 : ℕ) → Waits p byte2 byte3 → (waiting_at p byte2 byte3 < length p.places) × (matches byte2 byte3 (request_in p.places (waiting_at p byte2 byte3)) ≡ true)
waits_there p placed byte2 byte3 = passes_there p placed (matches byte2 byte3) (empty_fails byte2 byte3)

-- one request at most waits with the report's bytes 2 and 3: the one that it answers is found in either search
pub answered_place : (p : Port) → SoundPlaces p.places → (m : Message) → Answered p m → replied_place p m ≡ waiting_at p m.byte2.0 m.byte3
answered_place p s m w =
    let there = passes_there p s.all (answers m) (none_answers m) w in
    s.unique m.byte2.0 m.byte3 (replied_place p m) (waiting_at p m.byte2.0 m.byte3) (answers_matches m (request_in p.places (replied_place p m)) there.1) (waits_there p s.all m.byte2.0 m.byte3 (answered_waits p m w)).1

-- what matches waits
pub matched_waits : (byte2 byte3 : ℕ) (r : Request) → matches byte2 byte3 r ≡ true → is_empty r ≡ false
matched_waits byte2 byte3 r e = not-true (is_empty r) (both _ _ e).0

-- a place after one was emptied: that one, or one that did not match
pub data Emptied (byte2 byte3 : ℕ) (before after : Request) : Type 0 where
  hit : matches byte2 byte3 before ≡ true → after ≡ empty_place → Emptied byte2 byte3 before after
  miss : matches byte2 byte3 before ≡ false → after ≡ before → Emptied byte2 byte3 before after

pub emptied_at : (p : Port) → SoundPlaces p.places → (byte2 byte3 : ℕ) → Waits p byte2 byte3 → (place : ℕ) → Emptied byte2 byte3 (request_in p.places place) (request_in (set p.places (waiting_at p byte2 byte3) empty_place) place)
emptied_at p s byte2 byte3 w place = go (ℕ_discrete place k)
  where
    k : ℕ
    k = waiting_at p byte2 byte3

    there : (waiting_at p byte2 byte3 < length p.places) × (matches byte2 byte3 (request_in p.places (waiting_at p byte2 byte3)) ≡ true)
    there = waits_there p s.all byte2 byte3 w

    go : Dec (place ≡ waiting_at p byte2 byte3) → Emptied byte2 byte3 (request_in p.places place) (request_in (set p.places (waiting_at p byte2 byte3) empty_place) place)
    go (yes e) =
        hit (subst (λ (i : ℕ). matches byte2 byte3 (request_in p.places i) ≡ true) (sym e) there.1)
        (subst (λ (i : ℕ). request_in (set p.places (waiting_at p byte2 byte3) empty_place) i ≡ empty_place) (sym e) (get_or-set_same p.places (waiting_at p byte2 byte3) empty_place empty_place there.0))
    go (no e) =
        miss (not_so _ (λ q. e (s.unique byte2 byte3 place (waiting_at p byte2 byte3) q there.1)))
        (get_or-set_other p.places (waiting_at p byte2 byte3) place empty_place empty_place e)

module _ (n : ℕ) (way : Way) (byte2 byte3 : ℕ) (p q : Port) (s : SoundPlaces p.places) (waits : Waits p byte2 byte3) (e : q.places ≡ set p.places (waiting_at p byte2 byte3) empty_place) where
  one_change : {before after : Request} → Emptied byte2 byte3 before after → Change n (one way n byte2 byte3) before after
  one_change {before} (hit m z) =
      empties way (simp (is_n n p q, eq-eqb (way_number way) (way_number way) refl, m)) (matched_waits byte2 byte3 before m) z
  one_change {before} (miss m z) = same (λ w. simp (is_n n p q, m) (and-false (is_way w way))) z

  one_counts : (w : Way) (b : Bool) → is_way w way ≡ b → sum_over (λ r. one_if (ends_by w n (one way n byte2 byte3) r)) p.places ≡ ended_by w n (one way n byte2 byte3)
  one_counts w true h =
      simp (is_n n p q, h) (one_passes (matches byte2 byte3) (empty_fails byte2 byte3) p.places waits.0 (s.unique byte2 byte3) waits.1)
  one_counts w false h = simp (is_n n p q, h) (sum_zero _ (λ r. refl) p.places)

  -- the place counts one, and emptied none
  one_fewer : waiting_on q + 1 ≡ waiting_on p
  unfolding empty_place
  one_fewer =
      let there = waits_there p s.all byte2 byte3 waits in
      let r : Request = request_in p.places (waiting_at p byte2 byte3) in
      let waited : one_if_waiting r ≡ 1 = ap (λ (b : Bool). cond b 0 1) (matched_waits byte2 byte3 r there.1) in
      omega (arith, ap count_waiting e, sum_set one_if_waiting p.places (waiting_at p byte2 byte3) empty_place empty_place there.0, waited)

  one_in_all : ended_in_all n (one way n byte2 byte3) ≡ 1
  one_in_all = simp (is_n n p q) (go way)
    where
      go : (v : Way) → one_if (is_way by_reply v) + (one_if (is_way by_error v) + (one_if (is_way by_expiry v) + (one_if (is_way by_cancel v) + one_if (is_way by_drop v)))) ≡ 1
      go by_reply = refl
      go by_error = refl
      go by_expiry = refl
      go by_cancel = refl
      go by_drop = refl

  pub one_ends : EndingAt n (one way n byte2 byte3) p q
  one_ends =
      record {
        change = λ place. one_change (subst (λ (l : List Request). Emptied byte2 byte3 (request_in p.places place) (request_in l place)) (sym e) (emptied_at p s byte2 byte3 waits place));
        counted = λ w. one_counts w (is_way w way) refl;
        balance = omega (arith, one_fewer, one_in_all);
      }

-- a HID++ report, a DJ report and a cancel at their ports
module _ (p : Port) (s : SoundPlaces p.places) where
  pub reply_ends : (bytes : List ℕ) (m : Message) (count : ℕ) → Answered p m → EndingAt m.device.0 (take_ending m.device.0 bytes (carried (reply count) m)) p (replied_port p m)
  unfolding ended_at with_places
  reply_ends bytes m count h =
      simp (eq-eqb m.device.0 m.device.0 refl) (one_ends m.device.0 by_reply m.byte2.0 m.byte3 p (replied_port p m) s (answered_waits p m h) ((reply_records (ended_at p (replied_place p m)) m (request_in p.places (replied_place p m))).places ∙ ap (λ (place : ℕ). set p.places place empty_place) (answered_place p s m h)))

  pub hidpp_ends : (bytes : List ℕ) {m : Message} {r : Result} → HidppCase p m r → EndingAt m.device.0 (take_ending m.device.0 bytes r.answer) p r.port
  unfolding ended_at with_places
  hidpp_ends bytes {m} (gives_failed h) =
      one_ends m.device.0 by_error (named2 m) (named3 m) p _ s h.1.1 (error_records (ended_at p (failed_place p m)) m.byte2.0 (named2 m) (named3 m) (code m)).places
  hidpp_ends bytes {m} (gives_reply h) = reply_ends bytes m 0 h.1
  hidpp_ends bytes (gives_stray h) = elsewhere _ p _ nothing tt refl
  hidpp_ends bytes (gives_plain h) = elsewhere _ p _ nothing tt refl
  hidpp_ends bytes {m} (gives_event h) = elsewhere _ p _ nothing tt (event_records p m).places

  -- a serial at its device's port
  pub serial_ends : (n number : ℕ) {x : SerialResult} → SerialCase p number x → EndingAt n (dropped n x.dropped) p x.port
  unfolding with_serial with_pairing made_fresh
  serial_ends n number (keeps_none h) = drops_none n p _ refl
  serial_ends n number (first_serial h e) = drops_none n p _ refl
  serial_ends n number (same_serial h e) = drops_none n p _ refl
  serial_ends n number (other_serial known h e differs) = drops_all n p _ s refl

  pub dj_ends : {r : Report} {bytes : List ℕ} {x : Result} → DjCase p r bytes x → EndingAt r.device (take_ending r.device bytes x.answer) p x.port
  unfolding with_link with_reports with_pairing made_fresh
  dj_ends (dj_refused h) = elsewhere _ p _ nothing tt refl
  dj_ends (radio_taken l u d h) = elsewhere _ p _ nothing tt refl
  dj_ends (unpairs e) = drops_all _ p _ s refl
  dj_ends (paired_same e q) = drops_none _ p _ refl
  dj_ends (paired_new e q) = drops_all _ p _ s refl
  dj_ends (link_set e u) = elsewhere _ p _ nothing tt refl
  dj_ends (other_notice l) = elsewhere _ p _ nothing tt refl

  pub cancel_ends : (device : ℕ) {byte2 byte3 : ℕ} {r : waiting.CancelResult} → CancelCase p byte2 byte3 r → EndingAt device (cancel_ending device byte2 byte3 r.answer) p r.port
  unfolding ended_at with_places
  cancel_ends device (refused13 n) = elsewhere _ p _ nothing tt refl
  cancel_ends device {byte2} {byte3} (cancel_done w) = one_ends device by_cancel byte2 byte3 p _ s w refl

-- on another port
pub hidpp_apart : (n : ℕ) (bytes : List ℕ) {p : Port} {m : Message} {r : Result} → HidppCase p m r → eqb m.device.0 n ≡ false → Elsewhere n (take_ending n bytes r.answer)
hidpp_apart n bytes (gives_failed h) e = e
hidpp_apart n bytes (gives_reply h) e = simp e (by_case (Elsewhere n) (eqb (byte bytes 4) (parameter_for n)) (λ z. and-false (eqb n n)) (λ z. tt))
hidpp_apart n bytes (gives_stray h) e = tt
hidpp_apart n bytes (gives_plain h) e = tt
hidpp_apart n bytes (gives_event h) e = tt

pub dj_apart : (n : ℕ) {p : Port} {r : Report} {bytes : List ℕ} {x : Result} → DjCase p r bytes x → eqb r.device n ≡ false → Elsewhere n (take_ending n bytes x.answer)
dj_apart n (dj_refused h) e = tt
dj_apart n (radio_taken l u d h) e = tt
dj_apart n (unpairs q) e = simp e
dj_apart n (paired_same q z) e = simp e
dj_apart n (paired_new q z) e = simp e
dj_apart n (link_set q u) e = tt
dj_apart n (other_notice l) e = tt

pub cancel_apart : (n device : ℕ) {p : Port} {byte2 byte3 : ℕ} {r : waiting.CancelResult} → CancelCase p byte2 byte3 r → eqb device n ≡ false → Elsewhere n (cancel_ending device byte2 byte3 r.answer)
cancel_apart n device (refused13 w) e = tt
cancel_apart n device (cancel_done w) e = e
