-- Document 02, Asks 1 and 3: what stays, what is compared and which orders agree is what its words say.
use Rattle.std.specs.Prelude.{ℕ, ◌≡◌, ◌↔◌, Bool, ◌||◌, List, ◌∷◌, eqb}
use Rattle.std.proofs.Math.Path.{refl, ap}
use Rattle.std.proofs.Common.{sym, ◌∙◌, subst, arith, eqb-true, eq-eqb, ne_eqb}
use Rattle.std.proofs.Math.Bool.{true, false, cond}
use Rattle.std.proofs.lemmas.Bool.{false≢true}
use Rattle.report.specs.Ports.{receiver}
use Rattle.report.specs.Sizes.{byte}
use Rattle.port.specs.Answers as answers
use Rattle.station.proofs.StationsLaws.{device_number}
use Rattle.serial.specs.Serials.{parameter_for}
use Rattle.sequence.specs.Steps.{Call, CallAnswer, taken, written, cancelled, ticked, restoring, Returned, begins}
use Rattle.sequence.specs.Targets.{Target, none, one, all, is_for}
use Rattle.sequence.specs.Transcripts.{Entry, calls_of}
use Rattle.sequence.specs.Remaining.{is_left, remaining, with_drops_in, drops_in, drops_for, whole, drops, own_returned}
use Rattle.sequence.proofs.IndependenceLaws.{orders}
use Rattle.sequence.specs.Stays.{Stays, own_call, tick_call, receiver_call, Kept, kept_none, kept_call, begun_call, struck_call, SameButDrops, same_answer, same_reply, Drops, of_reply, of_other, ComparesOwn, ComparesReceiver, ComparesRead, ComparesDrops, OrdersAgree}

-- exactly those calls stay
or_true : (b : Bool) → (b || true) ≡ true
or_true true = refl
or_true false = refl

is_for_law : (n : ℕ) (t : Target) → Stays n t → is_for n t ≡ true
is_for_law n t own_call = simp (eq-eqb n n refl)
is_for_law n t tick_call = refl
is_for_law n t receiver_call = or_true (eqb 255 n)

pub stays_exactly : (n : ℕ) (t : Target) → (is_for n t ≡ true) ↔ Stays n t
stays_exactly n t = (to t, is_for_law n t)
  where
    named : (number : ℕ) (b : Bool) → eqb number n ≡ b → is_for n (one number) ≡ true → Stays n (one number)
    named number true f e = subst (λ (i : ℕ). Stays n (one i)) (sym (eqb-true number n f)) own_call
    named number false f e = subst (λ (i : ℕ). Stays n (one i)) (sym (eqb-true number receiver (simp f at e))) receiver_call

    to : (t : Target) → is_for n t ≡ true → Stays n t
    to none e = absurd (false≢true e)
    to (one number) e = named number (eqb number n) refl e
    to all e = tick_call

-- striking out leaves those, and nothing else
module _ (n : ℕ) (e : Entry) (es : List Entry) where
  pub left_in : Stays n e.label → remaining n (e ∷ es) ≡ e ∷ remaining n es
  unfolding remaining
  left_in s =
      ap (λ (b : Bool). cond (begins e.call || b) (e ∷ remaining n es) (remaining n es)) (is_for_law n e.label s) ∙ ap (λ (b : Bool). cond b (e ∷ remaining n es) (remaining n es)) (or_true (begins e.call))

  pub begun_left_in : begins e.call ≡ true → remaining n (e ∷ es) ≡ e ∷ remaining n es
  unfolding remaining
  begun_left_in anew = simp anew

  pub struck_out : ¬ Stays n e.label → begins e.call ≡ false → remaining n (e ∷ es) ≡ remaining n es
  unfolding remaining
  struck_out s goes_on = go (is_for n e.label) refl
    where
      go : (b : Bool) → is_for n e.label ≡ b → cond (is_left n e) (e ∷ remaining n es) (remaining n es) ≡ remaining n es
      go true q = absurd (s ((stays_exactly n e.label).0 q))
      go false q = simp (goes_on, q)

pub kept_calls : {n : ℕ} {es : List Entry} {cs : List Call} → Kept n es cs → calls_of (remaining n es) ≡ cs
unfolding remaining
kept_calls kept_none = refl
kept_calls {n} (kept_call {e} {es} s k) =
    ap calls_of (left_in n e es s) ∙ ap (λ (cs : List Call). e.call ∷ cs) (kept_calls k)
kept_calls {n} (begun_call {e} {es} anew k) =
    ap calls_of (begun_left_in n e es anew) ∙ ap (λ (cs : List Call). e.call ∷ cs) (kept_calls k)
kept_calls {n} (struck_call {e} {es} s goes_on k) = ap calls_of (struck_out n e es s goes_on) ∙ kept_calls k

pub orders_agree : OrdersAgree
orders_agree st begins cs ds h =
    orders st begins cs ds (λ n d. kept_calls (h n d).1.0 ∙ sym (kept_calls (h n d).1.1))

-- what is compared
same_whole : {r q : Returned} → whole r ≡ whole q → r ≡ q
same_whole e = cc e

pub compares_own : ComparesOwn
compares_own n d r q e =
    let is : eqb n n ≡ true = eq-eqb n n refl in
    let device : eqb n receiver ≡ false = ne_eqb n receiver (omega (arith, (device_number n d).1)) in
    let same : r ≡ q = same_whole (simp (is, device) at e) in
    (ap (λ (x : Returned). x.answer) same, (ap (λ (x : Returned). x.read) same, ap (λ (x : Returned). x.lent) same))

pub compares_read : ComparesRead
compares_read n r q e =
    let same : r ≡ q = same_whole e in
    (ap (λ (x : Returned). x.answer) same, (ap (λ (x : Returned). x.read) same, ap (λ (x : Returned). x.lent) same))

-- an answer is a reply, or has no drop count
data Shown (x : CallAnswer) : Type 0 where
  whole_answer : with_drops_in 0 x ≡ x → Shown x
  a_reply : (m : ℕ) (a : answers.About) → x ≡ taken (answers.reply m a) → Shown x

shown : (x : CallAnswer) → Shown x
shown (taken (answers.refused number)) = whole_answer refl
shown (taken (answers.reply m a)) = a_reply m a refl
shown (taken (answers.stray a)) = whole_answer refl
shown (taken (answers.plain a)) = whole_answer refl
shown (taken (answers.event a)) = whole_answer refl
shown (taken (answers.failed a code kind)) = whole_answer refl
shown (taken (answers.radio kind start size)) = whole_answer refl
shown (taken (answers.notice n)) = whole_answer refl
shown (written a) = whole_answer refl
shown (cancelled a) = whole_answer refl
shown (ticked counts) = whole_answer refl
shown (restoring a) = whole_answer refl

same_about : {m n : ℕ} {a b : answers.About} → taken (answers.reply m a) ≡ taken (answers.reply n b) → a ≡ b
same_about e = cc e

but_drops : (x y : CallAnswer) → Shown x → Shown y → with_drops_in 0 x ≡ with_drops_in 0 y → SameButDrops x y
but_drops x y (whole_answer p) (whole_answer q) e = same_answer (sym p ∙ e ∙ q)
but_drops x y (whole_answer p) (a_reply n b q) e = same_reply 0 n b (sym p ∙ e ∙ ap (with_drops_in 0) q) q
but_drops x y (a_reply m a p) (whole_answer q) e = same_reply m 0 a p (sym q ∙ sym e ∙ ap (with_drops_in 0) p)
but_drops x y (a_reply m a p) (a_reply n b q) e =
    same_reply m n a p (q ∙ ap (λ (c : answers.About). taken (answers.reply n c)) (sym (same_about (sym (ap (with_drops_in 0) p) ∙ e ∙ ap (with_drops_in 0) q))))

pub compares_receiver : ComparesReceiver
compares_receiver r q e =
    let same : own_returned 255 r ≡ own_returned 255 q = same_whole e in (
      but_drops r.answer q.answer (shown r.answer) (shown q.answer) (ap (λ (x : Returned). x.answer) same),
      (ap (λ (x : Returned). x.read) same, ap (λ (x : Returned). x.lent) same),
    )

same_drops : {m n : ℕ} {a b c d : List ℕ} → drops m a c ≡ drops n b d → (m ≡ n) × ((a ≡ b) × (c ≡ d))
same_drops e = (cc e, (cc e, cc e))

-- an answer that is no reply has none
none_dropped : (x : CallAnswer) → ((m : ℕ) (a : answers.About) → ¬ (x ≡ taken (answers.reply m a))) → drops_in x ≡ 0
none_dropped (taken (answers.refused number)) h = refl
none_dropped (taken (answers.reply m a)) h = absurd (h m a refl)
none_dropped (taken (answers.stray a)) h = refl
none_dropped (taken (answers.plain a)) h = refl
none_dropped (taken (answers.event a)) h = refl
none_dropped (taken (answers.failed a code kind)) h = refl
none_dropped (taken (answers.radio kind start size)) h = refl
none_dropped (taken (answers.notice n)) h = refl
none_dropped (written a) h = refl
none_dropped (cancelled a) h = refl
none_dropped (ticked counts) h = refl
none_dropped (restoring a) h = refl

drops_so : (n : ℕ) (r : Returned) {x : ℕ} → Drops n r x → drops_for n r ≡ x
drops_so n r (of_reply x a e h) = cc (eq-eqb (byte r.read 4) (parameter_for n) h, e)
drops_so n r (of_other h) = go (eqb (byte r.read 4) (parameter_for n)) refl
  where
    go : (b : Bool) → eqb (byte r.read 4) (parameter_for n) ≡ b → drops_for n r ≡ 0
    go true e =
        let first : byte r.read 4 ≡ parameter_for n = eqb-true _ _ e in
        simp e (none_dropped r.answer (λ m a q. h m a q first))
    go false e = simp e

pub compares_drops : ComparesDrops
compares_drops n d r q e =
    let device : eqb 255 n ≡ false = ne_eqb 255 n (omega (arith, (device_number n d).1)) in
    let same = same_drops (simp device at e) in
    (λ x y f g. sym (drops_so n r f) ∙ same.0 ∙ drops_so n q g, same.1)
