-- Document 01, "Sequences of calls", and document 02, Asks 1 and 3, of the rules and of runs of encoded calls. Crate demands states it of the program's own calls.
use Rattle.std.specs.Prelude.{ℕ, ◌≤◌, ◌≡◌, true, List, length}
use Rattle.report.specs.Ports.{is_port}
use Rattle.station.specs.declared.Station.{Station}
use Rattle.station.specs.Stations.{port_count}
use Rattle.sequence.specs.Starts.{Start}
use Rattle.sequence.specs.Steps.{Call, run, returned_by}
use Rattle.sequence.specs.Independence as ports
use Rattle.sequence.specs.Histories as histories
use Rattle.sequence.specs.Sequences.{Sequences}
use Rattle.encoded.specs.Decoding.{calls, decode}
use Rattle.encoded.specs.Encoding.{Bytes, AllWithin, Encoded}
use Rattle.encoded.specs.EncodedRuns.{AllFit, ReadsBack, rows_size, ran}
use Rattle.encoded.specs.EncodedContracts.{RunCalled, outcome_of, EncodedPromise}

pub record Demand3 : Type 0 where
  -- from a fresh station or one that a store restores, for every list of calls, accepted and refused reads of stores among them, and each of the seven ports: strike out every call for another device or for none, keep the ticks, the accepted reads, each of which begins a new sequence, and, for a device, every call for 255; the port then holds what it holds after the full run, and each call left has the same answer and leaves the same lent bytes: of a tick that port's count; of a call for 255, for a device that device's drop count and the lent bytes, and for 255 itself all but the drop count
  pub alone : (n : ℕ) → is_port n ≡ true → (st : Station) → Start st → (cs : List Call) → ports.Alone n st cs
  -- two orders of calls in which each device has its own calls, the ticks, all calls for 255 and the accepted reads in one sequence end in the same station
  pub orders : (st : Station) → Start st → (cs ds : List Call) → ports.SameOrders st cs ds → run st cs ≡ run st ds
  -- every history of the program's calls, of any length, from any station: every answer, every lent byte and the final station are those of the rules' run
  pub program : (st : Station) (ms : List histories.Made) → histories.History st ms → histories.ByTheRules st ms
  -- and from a start it is made of sequences: each accepted read ends one, and begins the next on the station that it restores, which is a start
  pub sequences : (st : Station) → Start st → (ms : List histories.Made) → histories.History st ms → Sequences st ms
  -- a run of encoded calls by the program: the final station, every lent byte and every row of the answers are those of the rules' run of the calls
  pub run_encoded : (st : Station) (encoded arena answers : List ℕ) (r : RunCalled) (arena_after answers_after : List ℕ) → EncodedPromise st encoded arena answers r arena_after answers_after → (cs : List Call) → decode encoded arena ≡ calls cs → rows_size cs ≤ length answers → outcome_of r arena_after answers_after ≡ ran st cs answers
  -- every list of calls within the encoding's bounds has an encoding
  pub encoded : (cs : List Call) → AllWithin cs → Encoded cs
  -- and the calls that bytes decode to are within them
  pub within : (encoded arena : List ℕ) → Bytes encoded → Bytes arena → (cs : List Call) → decode encoded arena ≡ calls cs → AllWithin cs
  -- from any station with its seven ports, every answer to calls within those bounds fits its row, so the rows that a run leaves at the front of the answers read back as the answers
  pub rows_fit : (st : Station) → length st.ports ≡ port_count → (cs : List Call) → AllWithin cs → AllFit (returned_by st cs)
  pub rows_read_back : (st : Station) → length st.ports ≡ port_count → (cs : List Call) → AllWithin cs → (answers : List ℕ) → ReadsBack st cs (ran st cs answers).answers
  -- and so do those that the program leaves, whatever bytes it was given
  pub program_rows : (st : Station) → length st.ports ≡ port_count → (encoded arena answers : List ℕ) (r : RunCalled) (arena_after answers_after : List ℕ) → EncodedPromise st encoded arena answers r arena_after answers_after → (cs : List Call) → decode encoded arena ≡ calls cs → rows_size cs ≤ length answers → Bytes encoded → Bytes arena → ReadsBack st cs answers_after
