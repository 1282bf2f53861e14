-- Document 02, Ask 3: a history as its sequences. The first begins on the station that the history begins on; each accepted read ends one, and begins the next on the station that it restores. Refused reads are calls of the sequence that they are made in.
use Rattle.std.specs.Prelude.{◌≡◌, true, false, List, [], ◌∷◌, ◌++◌, map}
use Rattle.station.specs.declared.Station.{Station}
use Rattle.sequence.specs.Starts.{Start}
use Rattle.sequence.specs.Steps.{Call, begins}
use Rattle.sequence.specs.Histories.{Ensured, Made, call_of, History, station_after}

-- none of the calls is an accepted read
unfoldable pub Unread : List Call → Type 0
Unread [] = Unit
Unread (c ∷ cs) = (begins c ≡ false) × Unread cs

-- one sequence: it begins on a start, and goes on to its end without an accepted read
pub record Sequence (st : Station) (ms : List Made) : Type 0 where
  pub start : Start st
  pub history : History st ms
  pub unread : Unread (map call_of ms)

-- a history: one sequence, or one, an accepted read on the station at its end, and what follows on the station that the read restores
pub data Sequences : Station → List Made → Type 0 where
  last : (st : Station) (ms : List Made) → Sequence st ms → Sequences st ms
  next : (st : Station) (ms : List Made) (m : Made) (ns : List Made) → Sequence st ms → Ensured (station_after st ms) m.call m.outcome → begins m.call ≡ true → Sequences m.outcome.station ns → Sequences st (ms ++ (m ∷ ns))
