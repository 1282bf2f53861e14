-- Document 01, "Sequences of calls", and document 02, Ask 1: each port ends as if the other ports' calls had never been made, but for those of 255, and so do any two orders. Of the rules.
use Rattle.std.specs.Prelude.{ℕ, ◌≡◌, true, List}
use Rattle.report.specs.Ports.{is_device}
use Rattle.station.specs.declared.Station.{Station}
use Rattle.sequence.specs.Steps.{Call, run}
use Rattle.sequence.specs.Transcripts.{transcript, calls_of}
use Rattle.sequence.specs.Remaining.{view, remaining, compared}

-- the calls that remain of a run for the port of a number
abbrev pub remains : ℕ → Station → List Call → List Call
remains n st cs = calls_of (remaining n (transcript st cs))

-- what the port holds at the end, and what is compared of its calls, are those of the run of what remains for it
pub record Alone (n : ℕ) (st : Station) (cs : List Call) : Type 0 where
  pub holds : view n (run st cs) ≡ view n (run st (remains n st cs))
  pub returns : compared n (remaining n (transcript st cs)) ≡ compared n (transcript st (remains n st cs))

-- two orders: striking out leaves, for each device, the same calls in the same order; its own, the ticks, those for 255 and the accepted reads keep one sequence
abbrev pub SameOrders : Station → List Call → List Call → Type 0
SameOrders st cs ds = (n : ℕ) → is_device n ≡ true → remains n st cs ≡ remains n st ds
