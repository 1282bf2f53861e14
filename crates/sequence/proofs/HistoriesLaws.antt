-- Document 01, "Sequences of calls", of the program: a history is the rules' run, and so the ports are independent of each other in the program, and two orders end in the same station.
use Rattle.std.specs.Prelude.{ℕ, ◌≡◌, refl, true, List, [], ◌∷◌, ◌++◌, map}
use Rattle.std.proofs.Common.{sym, ◌∙◌, ap}
use Rattle.report.specs.Ports.{is_device, is_port}
use Rattle.station.specs.declared.Station.{Station}
use Rattle.sequence.specs.Starts.{Start}
use Rattle.sequence.specs.Steps.{Call, Outcome, take_step, request_step, cancel_step, tick_step, write_step, restore_step, step, run}
use Rattle.sequence.specs.Transcripts.{Entry, transcript, calls_of}
use Rattle.sequence.specs.Remaining.{view, remaining, compared}
use Rattle.sequence.specs.Independence.{SameOrders}
use Rattle.sequence.proofs.IndependenceLaws as rules
use Rattle.sequence.specs.Histories.{Made, call_of, Ensured, by_take, by_request, by_cancel, by_tick, by_switch, by_get_paired, by_led, by_list, by_store, by_restore, History, station_after, made, ByTheRules}

-- what the program's function ensures is the rules' step
pub met : {st : Station} {c : Call} {o : Outcome} → Ensured st c o → o ≡ step st c
unfolding step
met (by_take κ bytes r e) = ap (take_step _) e
met (by_request κ κ' device byte2 byte3 ticks params buffer after offset r e) = ap (request_step _) e
met (by_cancel device byte2 byte3 r e) = ap cancel_step e
met (by_tick r e) = ap tick_step e
met {st} (by_switch κ bits timeout buffer after offset r e) = ap (write_step st) e
met {st} (by_get_paired κ buffer after offset r e) = ap (write_step st) e
met {st} (by_led κ device leds buffer after offset r e) = ap (write_step st) e
met {st} (by_list κ buffer after offset r e) = ap (write_step st) e
met {st} (by_store κ buffer after offset r e) = ap (write_step st) e
met (by_restore κ text r e) = ap (restore_step _) e

pub history : (st : Station) (ms : List Made) → History st ms → ByTheRules st ms
unfolding History station_after made run transcript
history st [] k = record { station = refl; entries = refl }
history st (m ∷ ms) k =
    let e : m.outcome ≡ step st m.call = met k.0 in
    let rest = history m.outcome.station ms k.1 in
    record { station = cc (e, rest.station); entries = cc (e, rest.entries) }

-- the port of a number ends two histories alike, and its calls return the same
pub record AloneInProgram (n : ℕ) (st : Station) (ms ns : List Made) : Type 0 where
  pub holds : view n (station_after st ms) ≡ view n (station_after st ns)
  pub returns : compared n (remaining n (made st ms)) ≡ compared n (made st ns)

-- striking out leaves, for each device, the same calls in the same order
abbrev pub SameOrdersInProgram : Station → List Made → List Made → Type 0
SameOrdersInProgram st ms ns =
    (n : ℕ) → is_device n ≡ true → calls_of (remaining n (made st ms)) ≡ calls_of (remaining n (made st ns))

pub alone : (n : ℕ) → is_port n ≡ true → (st : Station) → Start st → (ms ns : List Made) → History st ms → History st ns → map call_of ns ≡ calls_of (remaining n (made st ms)) → AloneInProgram n st ms ns
alone n h st begins ms ns k l e =
    let full = history st ms k in
    let part = history st ns l in
    let ports = rules.alone n h st begins (map call_of ms) in
    let left : map call_of ns ≡ calls_of (remaining n (transcript st (map call_of ms))) = e ∙ ap (λ (es : List Entry). calls_of (remaining n es)) full.entries in
    record {
      holds = ap (view n) full.station ∙ ports.holds ∙ ap (λ (cs : List Call). view n (run st cs)) (sym left) ∙ sym (ap (view n) part.station);
      returns = ap (λ (es : List Entry). compared n (remaining n es)) full.entries ∙ ports.returns ∙ ap (λ (cs : List Call). compared n (transcript st cs)) (sym left) ∙ sym (ap (compared n) part.entries);
    }

pub orders : (st : Station) → Start st → (ms ns : List Made) → History st ms → History st ns → SameOrdersInProgram st ms ns → station_after st ms ≡ station_after st ns
orders st begins ms ns k l h =
    let first = history st ms k in
    let second = history st ns l in
    let same : SameOrders st (map call_of ms) (map call_of ns) = λ n p. cc (h n p, first.entries, second.entries) in
    first.station ∙ rules.orders st begins (map call_of ms) (map call_of ns) same ∙ sym second.station

-- a history may be cut in two anywhere: the second part begins where the first one ends
pub cut : (st : Station) (ms ns : List Made) → History st (ms ++ ns) → History st ms × History (station_after st ms) ns
unfolding History station_after
cut st [] ns k = (tt, k)
cut st (m ∷ ms) ns k = let rest = cut m.outcome.station ms ns k.1 in ((k.0, rest.0), rest.1)
