-- Document 01, "Sequences of calls", and document 02, Asks 1 and 3: the ports are independent of each other, but for 255, whose calls may give a device's serial. By cases on a call's target, and then over the calls, by any view of the station. An accepted read gives every port anew, whatever it was.
use Rattle.std.specs.Prelude.{ℕ, ◌<◌, ◌≡◌, Bool, cond, ◌||◌, eqb, length, get_or, set}
use Rattle.std.proofs.Math.Path.{refl, sym, ap}
use Rattle.std.proofs.Common.{◌∙◌, true≢false, arith, get_or-set_same, get_or-set_other, ext_get_or, eqb-true, eq-eqb}
use Rattle.std.proofs.Math.Bool.{true, false}
use Rattle.std.proofs.lemmas.Bool.{false≢true, eqb-false}
use mathlib.Core.List.{List, [], ◌∷◌}
use Rattle.std.proofs.Math.ListN.{length-set, get_or-map}
use Rattle.std.proofs.lemmas.List.{length-map}
use Rattle.report.proofs.ChoicesLaws.{neither}
use Rattle.report.specs.Ports.{receiver, is_device, is_port}
use Rattle.report.specs.Sizes.{byte}
use Rattle.port.specs.declared.Port.{Port}
use Rattle.port.specs.Answers as answers
use Rattle.port.specs.Records.{with_places}
use Rattle.port.specs.Places.{sum_over}
use Rattle.port.specs.Ticks.{tick_rule}
use Rattle.serial.specs.Serials.{parameter_for, Given, no_serial, serial_of, serial_rule}
use Rattle.restore.proofs.RestoredLaws.{seven_ports}
use Rattle.station.specs.declared.Station.{Station}
use Rattle.station.specs.Stations.{port_count, position_of, number_at, fresh_station, no_port, port_at, port_for, with_port}
use Rattle.station.proofs.StationsLaws.{device_number, position_within}
use Rattle.station.specs.StationCalls.{ticked_port, ended_on, tick_all}
use Rattle.sequence.specs.Starts.{Start, fresh, restored}
use Rattle.sequence.specs.Steps.{Call, CallAnswer, taken, written, cancelled, ticked, restoring, Outcome, step, run, begins, Returned, returned, label_of, target}
use Rattle.sequence.specs.Targets.{Target, none, one, all, is_for}
use Rattle.sequence.specs.Transcripts.{transcript}
use Rattle.sequence.specs.Remaining.{view, remaining, drops_in, drops_for, with_drops_in, Compared, whole, count, drops, own_returned, compared_of, compared}
use Rattle.sequence.specs.Independence.{remains, Alone, SameOrders}
use Rattle.sequence.proofs.NumbersLaws.{device_port, one_number, number_at_law}
use Rattle.sequence.proofs.LocalLaws.{outcome_from, also_step, AtPort, Shape, shape, begun_alike}
use Rattle.sequence.proofs.StartsLaws.{begun_start}

-- seven ports
abbrev pub Seven : Station → Type 0
Seven st = length st.ports ≡ port_count

pub stored : (st : Station) (position : ℕ) (q : Port) → position < port_count → Seven st → port_at (with_port st position q) position ≡ q
unfolding with_port
stored st position q h s = get_or-set_same st.ports position q no_port (omega (arith, s))

pub elsewhere : (st : Station) (position p : ℕ) (q : Port) → (p ≡ position → ⊥) → port_at (with_port st position q) p ≡ port_at st p
unfolding with_port
elsewhere st position p q h = get_or-set_other st.ports position p q no_port h

pub ticked_at : (st : Station) (p : ℕ) → port_at (tick_all st).station p ≡ ticked_port (port_at st p)
unfolding tick_all ticked_port tick_rule with_places
ticked_at st p = get_or-map ticked_port st.ports p no_port

pub counted_at : (st : Station) (p : ℕ) → get_or (tick_all st).ended p 0 ≡ ended_on (port_at st p)
unfolding tick_all ended_on tick_rule sum_over
counted_at st p = get_or-map ended_on st.ports p no_port

-- a way to look at the station, for the port of a number: the induction goes over it. A call that stays, and begins no new sequence, gives the next view, and what is compared of its answer, from the view alone; a call that is struck out leaves the view
pub record IsView {Seen : Type 0} (n : ℕ) (look : Station → Seen) : Type 0 where
  pub next : (c : Call) → begins c ≡ false → Seen → Seen
  pub shows : (c : Call) → begins c ≡ false → Seen → Compared
  pub stays : (st : Station) → Seven st → (c : Call) (b : begins c ≡ false) → is_for n (label_of st c) ≡ true → look (step st c).station ≡ next c b (look st)
  pub gives : (st : Station) (c : Call) (b : begins c ≡ false) → is_for n (label_of st c) ≡ true → compared_of n (label_of st c) (returned (step st c)) ≡ shows c b (look st)
  pub struck : (st : Station) → Seven st → (c : Call) → begins c ≡ false → is_for n (label_of st c) ≡ false → look (step st c).station ≡ look st

-- what the port of a number becomes by a serial that is given
abbrev beside : ℕ → Given → Port → Port
beside n no_serial q = q
beside n (serial_of device serial) q = cond (eqb device n) (serial_rule q serial).port q

-- a device is not the receiver
not_receiver : (device : ℕ) → is_device device ≡ true → device ≡ receiver → ⊥
not_receiver device h e = omega (arith, (device_number device h).1)

-- after a call for the port of a number: that port, and each other
module _ {c : Call} {number : ℕ} (s : AtPort c number) (st : Station) (seven : Seven st) (n : ℕ) (port : is_port n ≡ true) where
  abbrev own : Port
  own = port_for st number

  abbrev stored_own : Station
  stored_own = with_port st (position_of number) (s.next own)

  abbrev Becomes : Bool → Given → Type 0
  Becomes b g = port_for (also_step st g (outcome_from (s.returns own) stored_own)).station n ≡ cond b (s.next own) (beside n g (port_for st n))

  apart : {m : ℕ} → is_port m ≡ true → (m ≡ n → ⊥) → position_of n ≡ position_of m → ⊥
  apart {m} h differs q = differs (sym (one_number n m port h q))

  seven_own : Seven stored_own
  unfolding with_port
  seven_own = length-set st.ports (position_of number) _ ∙ seven

  own_by : (b : Bool) → eqb number n ≡ b → port_for stored_own n ≡ cond b (s.next own) (port_for st n)
  own_by true e =
      let is : number ≡ n = eqb-true number n e in
      ap (λ (i : ℕ). port_at stored_own (position_of i)) (sym is) ∙ stored st (position_of number) (s.next own) (position_within number) seven
  own_by false e = elsewhere st (position_of number) (position_of n) _ (apart s.names (eqb-false number n e))

  also_by : (b : Bool) → eqb number n ≡ b → (g : Given) → ((device serial : ℕ) → g ≡ serial_of device serial → (number ≡ receiver) × (is_device device ≡ true)) → Becomes b g
  also_by b e no_serial fits = own_by b e
  also_by b e (serial_of device serial) fits = at b e (eqb device n) refl
    where
      h : (number ≡ receiver) × (is_device device ≡ true)
      h = fits device serial refl

      at : (b : Bool) → eqb number n ≡ b → (d : Bool) → eqb device n ≡ d → port_for (with_port stored_own (position_of device) (serial_rule (port_for st device) serial).port) n ≡ cond b (s.next own) (cond d (serial_rule (port_for st n) serial).port (port_for st n))
      at true e true d =
          absurd (not_receiver device h.1 (eqb-true device n d ∙ sym (eqb-true number n e) ∙ h.0))
      at true e false d =
          elsewhere stored_own (position_of device) (position_of n) _ (apart (device_port device h.1) (eqb-false device n d)) ∙ own_by true e
      at false e true d =
          let is : device ≡ n = eqb-true device n d in
          ap (λ (i : ℕ). port_at (with_port stored_own (position_of device) (serial_rule (port_for st device) serial).port) (position_of i)) (sym is)
          ∙ stored stored_own (position_of device) _ (position_within device) seven_own
          ∙ ap (λ (i : ℕ). (serial_rule (port_for st i) serial).port) is
      at false e false d =
          elsewhere stored_own (position_of device) (position_of n) _ (apart (device_port device h.1) (eqb-false device n d)) ∙ own_by false e

  pub after : port_for (step st c).station n ≡ cond (eqb number n) (s.next own) (beside n (s.given own) (port_for st n))
  after =
      ap (λ (o : Outcome). port_for o.station n) (s.does st)
      ∙ also_by (eqb number n) refl (s.given own) (λ device serial e. let f = s.fits own device serial e in (f.0, f.1.0))

-- a call for a device gives no serial
gives_none : {c : Call} {number : ℕ} (s : AtPort c number) (n : ℕ) (p q : Port) → (number ≡ receiver → ⊥) → beside n (s.given p) q ≡ q
gives_none {c} {number} s n p q device_call = go (s.given p) (s.fits p)
  where
    go : (g : Given) → ((device serial : ℕ) → g ≡ serial_of device serial → (number ≡ receiver) × ((is_device device ≡ true) × (byte (s.returns p).read 4 ≡ parameter_for device))) → beside n g q ≡ q
    go no_serial fits = refl
    go (serial_of device serial) fits = absurd (device_call (fits device serial refl).0)

-- a port's own view is what it holds, and what 255 holds
abbrev Pair : Type 0
Pair = Port × Port

abbrev look : ℕ → Station → Pair
look n st = (view n st, view receiver st)

abbrev next_by : (n : ℕ) (c : Call) (t : Target) → Shape c t → Pair → Pair
next_by n c none s v = v
next_by n c (one number) s v =
    (cond (eqb number n) (s.next v.0) (beside n (s.given v.1) v.0), cond (eqb number receiver) (s.next v.1) v.1)
next_by n c all s v = (ticked_port v.0, ticked_port v.1)

-- what a call for 255 returns: a serial that it gives drops what waits on this port
abbrev dropping : Given → Port → Returned → Returned
dropping no_serial q r = r
dropping (serial_of device serial) q r =
    record { answer = with_drops_in (serial_rule q serial).dropped r.answer; read = r.read; lent = r.lent }

abbrev shown : ℕ → Returned → Compared
shown n r = drops (drops_for n r) r.read r.lent

abbrev shows_by : (n : ℕ) (c : Call) (t : Target) → Shape c t → Pair → Compared
shows_by n c none s v = count 0
shows_by n c (one number) s v =
    cond (eqb number n) (whole (own_returned n (s.returns v.0)))
    (shown n (dropping (s.given v.1) v.0 (s.returns v.1)))
shows_by n c all s v = count (ended_on v.0)

-- what stays for the port of a number is for that port or for 255
one_of : (number n : ℕ) → (eqb number n || eqb number receiver) ≡ true → eqb number n ≡ false → number ≡ receiver
one_of number n e f = eqb-true number receiver (simp f at e)

-- the drop count that is left out may be any
drops_out : (dropped : ℕ) (a : CallAnswer) → with_drops_in 0 (with_drops_in dropped a) ≡ with_drops_in 0 a
drops_out dropped (taken (answers.refused number)) = refl
drops_out dropped (taken (answers.reply before a)) = refl
drops_out dropped (taken (answers.stray a)) = refl
drops_out dropped (taken (answers.plain a)) = refl
drops_out dropped (taken (answers.event a)) = refl
drops_out dropped (taken (answers.failed a code kind)) = refl
drops_out dropped (taken (answers.radio kind start size)) = refl
drops_out dropped (taken (answers.notice n)) = refl
drops_out dropped (written a) = refl
drops_out dropped (cancelled a) = refl
drops_out dropped (ticked counts) = refl
drops_out dropped (restoring a) = refl

-- so what is compared of 255's own calls does not show it, and no other port's own call gives a serial
own_same : (n number : ℕ) → number ≡ n → (st next : Station) (g : Given) (r : Returned) → ((device serial : ℕ) → g ≡ serial_of device serial → number ≡ receiver) → own_returned n (returned (also_step st g (outcome_from r next))) ≡ own_returned n r
own_same n number is st next no_serial r fits = refl
own_same n number is st next (serial_of device serial) r fits =
    let at : eqb n receiver ≡ true = eq-eqb n receiver (sym is ∙ fits device serial refl) in
    simp at (ap (λ (a : CallAnswer). left a) (drops_out (serial_rule (port_for st device) serial).dropped r.answer))
  where
    left : CallAnswer → Returned
    left a = record { answer = a; read = r.read; lent = r.lent }

-- a device's drop count is that of its own port, whichever device the serial is of
drops_same : (n : ℕ) → is_device n ≡ true → (st next : Station) (g : Given) (r : Returned) → ((device serial : ℕ) → g ≡ serial_of device serial → (is_device device ≡ true) × (byte r.read 4 ≡ parameter_for device)) → shown n (returned (also_step st g (outcome_from r next))) ≡ shown n (dropping g (view n st) r)
drops_same n h st next no_serial r fits = refl
drops_same n h st next (serial_of device serial) r fits = ap (λ (m : ℕ). drops m r.read r.lent) (go (eqb (byte r.read 4) (parameter_for n)) refl)
  where
    f : (is_device device ≡ true) × (byte r.read 4 ≡ parameter_for device)
    f = fits device serial refl

    dropped : ℕ → ℕ
    dropped i = drops_in (with_drops_in (serial_rule (port_for st i) serial).dropped r.answer)

    go : (b : Bool) → eqb (byte r.read 4) (parameter_for n) ≡ b → cond (eqb (byte r.read 4) (parameter_for n)) (dropped device) 0 ≡ cond (eqb (byte r.read 4) (parameter_for n)) (dropped n) 0
    go true e =
        let is : device ≡ n = omega (arith, eqb-true (byte r.read 4) (parameter_for n) e, f.1, (device_number device f.0).0, (device_number n h).0) in
        ap (λ (i : ℕ). cond (eqb (byte r.read 4) (parameter_for n)) (dropped i) 0) is
    go false e = simp e

-- a port that is not 255 is a device
a_device : (n number : ℕ) → is_port n ≡ true → number ≡ receiver → eqb number n ≡ false → is_device n ≡ true
a_device n number h is e = go (is_device n) refl
  where
    go : (b : Bool) → is_device n ≡ b → is_device n ≡ true
    go true p = p
    go false p = absurd (eqb-false number n e (is ∙ sym (eqb-true n receiver (simp p at h))))

module _ (n : ℕ) (port : is_port n ≡ true) (c : Call) (st : Station) where
  stays_own : {number : ℕ} (s : AtPort c number) → Seven st → (b : Bool) → eqb number n ≡ b → (eqb number n || eqb number receiver) ≡ true → view n (step st c).station ≡ cond (eqb number n) (s.next (view n st)) (beside n (s.given (view receiver st)) (view n st))
  stays_own {number} s seven true f e =
      after s st seven n port ∙ (let is : number ≡ n = eqb-true number n f in simp f (ap (λ (i : ℕ). s.next (view i st)) is))
  stays_own {number} s seven false f e =
      after s st seven n port ∙ (let is : number ≡ receiver = one_of number n e f in simp f (ap (λ (i : ℕ). beside n (s.given (view i st)) (view n st)) is))

  stays_receiver : {number : ℕ} (s : AtPort c number) → Seven st → (b : Bool) → eqb number receiver ≡ b → view receiver (step st c).station ≡ cond (eqb number receiver) (s.next (view receiver st)) (view receiver st)
  stays_receiver {number} s seven true f =
      after s st seven receiver refl ∙ (let is : number ≡ receiver = eqb-true number receiver f in simp f (ap (λ (i : ℕ). s.next (view i st)) is))
  stays_receiver {number} s seven false f =
      after s st seven receiver refl ∙ simp f (gives_none s receiver (view number st) (view receiver st) (eqb-false number receiver f))

  stays_by : (t : Target) (s : Shape c t) → Seven st → is_for n t ≡ true → look n (step st c).station ≡ next_by n c t s (look n st)
  stays_by none s seven e = absurd (false≢true e)
  stays_by (one number) s seven e =
      λ i. (stays_own s seven (eqb number n) refl e i, stays_receiver s seven (eqb number receiver) refl i)
  stays_by all s seven e =
      ap (λ (o : Outcome). look n o.station) (s st) ∙ (λ i. (ticked_at st (position_of n) i, ticked_at st (position_of receiver) i))

  gives_by : (t : Target) (s : Shape c t) → is_for n t ≡ true → compared_of n t (returned (step st c)) ≡ shows_by n c t s (look n st)
  gives_by none s e = absurd (false≢true e)
  gives_by (one number) s e =
      ap (λ (o : Outcome). compared_of n (one number) (returned o)) (s.does st)
      ∙ go (with_port st (position_of number) (s.next (port_for st number))) (eqb number n) refl
    where
      by_receiver : Port → Compared
      by_receiver w = shown n (dropping (s.given w) (view n st) (s.returns w))

      go : (next : Station) (b : Bool) → eqb number n ≡ b → compared_of n (one number) (returned (also_step st (s.given (port_for st number)) (outcome_from (s.returns (port_for st number)) next))) ≡ shows_by n c (one number) s (look n st)
      go next true f =
          let is : number ≡ n = eqb-true number n f in
          simp f (ap whole (own_same n number is st next (s.given (port_for st number)) (s.returns (port_for st number)) (λ device serial q. (s.fits (port_for st number) device serial q).0) ∙ ap (λ (i : ℕ). own_returned n (s.returns (view i st))) is))
      go next false f =
          let is : number ≡ receiver = one_of number n e f in
          simp f (drops_same n (a_device n number port is f) st next (s.given (port_for st number)) (s.returns (port_for st number)) (λ device serial q. (s.fits (port_for st number) device serial q).1) ∙ ap (λ (i : ℕ). by_receiver (view i st)) is)
  gives_by all s e =
      ap (λ (o : Outcome). compared_of n all (returned o)) (s st) ∙ ap count (counted_at st (position_of n))

  struck_by : (t : Target) → Shape c t → Seven st → is_for n t ≡ false → look n (step st c).station ≡ look n st
  struck_by none s seven e = ap (look n) (s st)
  struck_by (one number) s seven e =
      let other = neither (eqb number n) (eqb number receiver) e in
      let device_call : number ≡ receiver → ⊥ = eqb-false number receiver other.1 in
      let own_kept : view n (step st c).station ≡ view n st = after s st seven n port ∙ simp other.0 (gives_none s n (view number st) (view n st) device_call) in
      let receiver_kept : view receiver (step st c).station ≡ view receiver st = stays_receiver s seven false other.1 ∙ simp other.1 in
      λ i. (own_kept i, receiver_kept i)
  struck_by all s seven e = absurd (true≢false e)

pub port_view : (n : ℕ) → is_port n ≡ true → IsView n (look n)
port_view n h =
    record {
      next = λ c b. next_by n c (target c) (shape c b);
      shows = λ c b. shows_by n c (target c) (shape c b);
      stays = λ st seven c b e. stays_by n h c st (target c) (shape c b) seven e;
      gives = λ st c b e. gives_by n h c st (target c) (shape c b) e;
      struck = λ st seven c b e. struck_by n h c st (target c) (shape c b) seven e;
    }

seven : (c : Call) (st : Station) (t : Target) → Shape c t → Seven st → Seven (step st c).station
unfolding with_port tick_all
seven c st none s n = ap (λ (x : Station). length x.ports) (s st) ∙ n
seven c st (one number) s n =
    ap (λ (o : Outcome). length o.station.ports) (s.does st) ∙ go (s.given (port_for st number))
  where
    go : (g : Given) → length (also_step st g (outcome_from (s.returns (port_for st number)) (with_port st (position_of number) (s.next (port_for st number))))).station.ports ≡ port_count
    go no_serial = length-set st.ports (position_of number) (s.next (port_for st number)) ∙ n
    go (serial_of device serial) =
        length-set (set st.ports (position_of number) (s.next (port_for st number))) (position_of device) (serial_rule (port_for st device) serial).port ∙ length-set st.ports (position_of number) (s.next (port_for st number)) ∙ n
seven c st all s n = ap (λ (o : Outcome). length o.station.ports) (s st) ∙ length-map st.ports ticked_port ∙ n

pub seven_start : {st : Station} → Start st → Seven st
unfolding fresh_station
seven_start fresh = refl
seven_start (restored text ports e) = seven_ports text ports e

pub seven_step : (c : Call) (st : Station) → Seven st → Seven (step st c).station
seven_step c st s = go (begins c) refl
  where
    go : (b : Bool) → begins c ≡ b → Seven (step st c).station
    go true e = seven_start (begun_start c st e)
    go false e = seven c st (target c) (shape c e) s

pub seven_run : (cs : List Call) (st : Station) → Seven st → Seven (run st cs)
unfolding run
seven_run [] st n = n
seven_run (c ∷ cs) st n = seven_run cs (step st c).station (seven_step c st n)

-- the run with all calls, and the run of those that remain, from stations with the same view
module _ {Seen : Type 0} (n : ℕ) (look : Station → Seen) (v : IsView n look) where
  abbrev Same : Station → Station → List Call → Type 0
  Same st other cs =
      (look (run st cs) ≡ look (run other (remains n st cs))) × (compared n (remaining n (transcript st cs)) ≡ compared n (transcript other (remains n st cs)))

  pub same : (cs : List Call) (st other : Station) → Seven st → Seven other → look st ≡ look other → Same st other cs
  unfolding run transcript remaining
  same [] st other s t e = (e, refl)
  same (c ∷ cs) st other s t e = by (same cs) (begins c) refl
    where
      go : ((x y : Station) → Seven x → Seven y → look x ≡ look y → Same x y cs) → begins c ≡ false → (b : Bool) → is_for n (label_of st c) ≡ b → Same st other (c ∷ cs)
      go rest goes_on true q =
          let r = rest (step st c).station (step other c).station (seven_step c st s) (seven_step c other t) (v.stays st s c goes_on q ∙ ap (v.next c goes_on) e ∙ sym (v.stays other t c goes_on q)) in
          let here : compared_of n (label_of st c) (returned (step st c)) ≡ compared_of n (label_of other c) (returned (step other c)) = v.gives st c goes_on q ∙ ap (v.shows c goes_on) e ∙ sym (v.gives other c goes_on q) in
          simp (goes_on, q) (r.0, cc (here, r.1))
      go rest goes_on false q =
          simp (goes_on, q) (rest (step st c).station other (seven_step c st s) t (v.struck st s c goes_on q ∙ e))

      by : ((x y : Station) → Seven x → Seven y → look x ≡ look y → Same x y cs) → (b : Bool) → begins c ≡ b → Same st other (c ∷ cs)
      by rest true anew =
          let alike : step st c ≡ step other c = begun_alike c anew st other in
          let r = rest (step st c).station (step other c).station (seven_step c st s) (seven_step c other t) (ap (λ (o : Outcome). look o.station) alike) in
          let here : compared_of n (label_of st c) (returned (step st c)) ≡ compared_of n (label_of other c) (returned (step other c)) = ap (λ (o : Outcome). compared_of n (target c) (returned o)) alike in
          simp anew (r.0, cc (here, r.1))
      by rest false goes_on = go rest goes_on (is_for n (label_of st c)) refl

pub alone : (n : ℕ) → is_port n ≡ true → (st : Station) → Start st → (cs : List Call) → Alone n st cs
alone n h st begins cs =
    let s = same n (look n) (port_view n h) cs st st (seven_start begins) (seven_start begins) refl in
    record { holds = ap (λ (v : Pair). v.0) s.0; returns = s.1 }

-- of 255, by what remains for any other port
receiver_holds : (n : ℕ) → is_port n ≡ true → (st : Station) → Start st → (cs : List Call) → view receiver (run st cs) ≡ view receiver (run st (remains n st cs))
receiver_holds n h st begins cs =
    ap (λ (v : Pair). v.1) (same n (look n) (port_view n h) cs st st (seven_start begins) (seven_start begins) refl).0

-- stations whose ports are the same, number by number, are the same
pub same_station : (st other : Station) → Seven st → Seven other → ((n : ℕ) → is_port n ≡ true → view n st ≡ view n other) → st ≡ other
same_station st other s t h = ap station (ext_get_or no_port st.ports other.ports (s ∙ sym t) at_each)
  where
    station : List Port → Station
    station ports = record { ports = ports }

    at_each : (position : ℕ) → position < length st.ports → port_at st position ≡ port_at other position
    at_each position q =
        let k = number_at_law position (omega (arith, s)) in
        cc (h (number_at position) k.0, k.1)

-- any two orders end in the same station: each device by its own calls, and 255 by those of device 1
pub orders : (st : Station) → Start st → (cs ds : List Call) → SameOrders st cs ds → run st cs ≡ run st ds
orders st begins cs ds h =
    same_station (run st cs) (run st ds) (seven_run cs st (seven_start begins)) (seven_run ds st (seven_start begins)) (λ n p. go n p (is_device n) refl)
  where
    go : (n : ℕ) → is_port n ≡ true → (b : Bool) → is_device n ≡ b → view n (run st cs) ≡ view n (run st ds)
    go n p true e = cc ((alone n p st begins cs).holds, h n e, (alone n p st begins ds).holds)
    go n p false e =
        let is : n ≡ receiver = eqb-true n receiver (simp e at p) in
        cc (is, receiver_holds 1 refl st begins cs, h 1 refl, receiver_holds 1 refl st begins ds)
