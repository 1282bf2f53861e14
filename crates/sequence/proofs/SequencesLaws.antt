-- Document 02, Ask 3: every history from a start is made of sequences, each on a start of its own.
use Rattle.std.specs.Prelude.{ℕ, ◌≡◌, refl, Bool, true, false, List, [], ◌∷◌, ◌++◌, map}
use Rattle.std.proofs.Common.{sym, ap, subst}
use Rattle.port.specs.declared.Port.{Port}
use Rattle.restore.specs.Restoring.{store_of, read_store}
use Rattle.station.specs.declared.Station.{Station}
use Rattle.sequence.specs.Starts.{Start}
use Rattle.sequence.proofs.StartsLaws.{begun_start}
use Rattle.sequence.specs.Steps.{Call, restore, Outcome, is_store, begins}
use Rattle.sequence.specs.Histories.{Ensured, Made, call_of, History, station_after}
use Rattle.sequence.proofs.HistoriesLaws.{met}
use Rattle.sequence.specs.Sequences.{Unread, Sequences, last, next}

-- of a sequence no call begins another, the first and those after it
pub none_begins : (c : Call) (cs : List Call) → Unread (c ∷ cs) → (begins c ≡ false) × Unread cs
unfolding Unread
none_begins c cs u = u

-- a read of a store begins one
pub read_begins : (text : List ℕ) (ports : List Port) → read_store text ≡ store_of ports → begins (restore text) ≡ true
unfolding begins
read_begins text ports e = ap is_store e

-- the same on any station: calls up to the first accepted read, and the sequences from there
data Parted : Station → List Made → Type 0 where
  whole : (st : Station) (ms : List Made) → History st ms → Unread (map call_of ms) → Parted st ms
  parted : (st : Station) (ms : List Made) (m : Made) (ns : List Made) → History st ms → Unread (map call_of ms) → Ensured (station_after st ms) m.call m.outcome → begins m.call ≡ true → Sequences m.outcome.station ns → Parted st (ms ++ (m ∷ ns))

on_start : {st : Station} {ms : List Made} → Start st → Parted st ms → Sequences st ms
on_start s (whole st ms h u) = last st ms (record { start = s; history = h; unread = u })
on_start s (parted st ms m ns h u by e rest) = next st ms m ns (record { start = s; history = h; unread = u }) by e rest

parts : (st : Station) (ms : List Made) → History st ms → Parted st ms
unfolding History Unread station_after
parts st [] k = whole st [] tt tt
parts st (m ∷ ms) k = by (begins m.call) refl (parts m.outcome.station ms k.1)
  where
    begun : begins m.call ≡ true → Start m.outcome.station
    begun e = subst (λ (o : Outcome). Start o.station) (sym (met k.0)) (begun_start m.call st e)

    longer : {x : Station} {ns : List Made} → x ≡ m.outcome.station → begins m.call ≡ false → Parted x ns → Parted st (m ∷ ns)
    longer q e (whole x ns h u) = whole st (m ∷ ns) (k.0, subst (λ (y : Station). History y ns) q h) (e, u)
    longer q e (parted x ns n rest h u made f s) =
        parted st (m ∷ ns) n rest (k.0, subst (λ (y : Station). History y ns) q h) (e, u) (subst (λ (y : Station). Ensured (station_after y ns) n.call n.outcome) q made) f s

    by : (b : Bool) → begins m.call ≡ b → Parted m.outcome.station ms → Parted st (m ∷ ms)
    by true e rest = parted st [] m ms tt tt k.0 e (on_start (begun e) rest)
    by false e rest = longer refl e rest

pub sequences : (st : Station) → Start st → (ms : List Made) → History st ms → Sequences st ms
sequences st s ms k = on_start s (parts st ms k)
