-- Document 01, "Sequences of calls": the calls of a run, each with the port that it is for and with what it returned.
use Rattle.std.specs.Prelude.{List, [], ◌∷◌, map}
use Rattle.station.specs.declared.Station.{Station}
use Rattle.sequence.specs.Steps.{Call, Outcome, step, Returned, returned, label_of}
use Rattle.sequence.specs.Targets.{Target}

-- one call of a run: the call, its label, which says the port that it is for, and what it returned
pub record Entry : Type 0 where
  pub call : Call
  pub label : Target
  pub result : Returned

-- a call made on a station, with its outcome
abbrev pub entry : Station → Call → Outcome → Entry
entry st c o = record { call = c; label = label_of st c; result = returned o }

-- the rules' run of the calls
unfoldable pub transcript : Station → List Call → List Entry
transcript st [] = []
transcript st (c ∷ cs) = entry st c (step st c) ∷ transcript (step st c).station cs

-- the calls of a transcript
abbrev pub calls_of : List Entry → List Call
calls_of es = map (λ (e : Entry). e.call) es
