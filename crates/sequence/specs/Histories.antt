-- Document 01, "Sequences of calls", of the program: histories of calls with the outcomes that the program gave, each call made on the station that the call before it handed back or left.
use Rattle.std.specs.Prelude.{ℕ, ◌≡◌, List, [], ◌∷◌, map}
use Rattle.std.specs.Borrow.{Bor, MutBor}
use Rattle.report.specs.declared.Device.{Device}
use Rattle.report.specs.declared.FeatureIndex.{FeatureIndex}
use Rattle.frame.specs.FrameContracts.{Written, written_outcome}
use Rattle.station.specs.declared.Station.{Station}
use Rattle.station.specs.StationContracts.{TakeCalled, RequestCalled, CancelCalled, TickCalled, RestoreCalled, take_outcome, request_outcome, cancel_outcome, tick_outcome, restore_outcome}
use Rattle.station.proofs.Station.take.Reads as take_reads
use Rattle.station.proofs.Station.request.Reads as request_reads
use Rattle.station.proofs.Station.cancel.Reads as cancel_reads
use Rattle.station.proofs.Station.tick.Reads as tick_reads
use Rattle.station.proofs.Station.switch.Reads as switch_reads
use Rattle.station.proofs.Station.get_paired.Reads as get_paired_reads
use Rattle.station.proofs.Station.led.Reads as led_reads
use Rattle.station.proofs.Station.list.Reads as list_reads
use Rattle.station.proofs.Station.store.Reads as store_reads
use Rattle.station.proofs.Station.restore.Reads as restore_reads
use Rattle.sequence.specs.Steps.{switch, get_paired, led, list, store, Call, take, request, cancel, tick, write, restore, Outcome, take_step, request_step, cancel_step, tick_step, write_step, restore_step, run}
use Rattle.sequence.specs.Transcripts.{Entry, entry, transcript}

-- bytes that are lent: a reference r, whose bytes are `r.now`
abbrev pub LentBytes : Type 0
LentBytes = Bor (List ℕ)

-- a buffer that is lent to be written: its bytes before a call are those of one such reference, and after it of another
abbrev pub LentBuffer : Type 0
LentBuffer = MutBor (List ℕ)

-- what the program's own function was proved to ensure of a call made on this station, with the outcome that it gave: its contract, word for word. `Learnt` is what the prover recorded of a function's `ensures`: for its lifetimes (κ), its arguments, its result, and its arguments afterwards
pub data Ensured (st : Station) : Call → Outcome → Type 0 where
  by_take : (κ : List ℕ) (bytes : LentBytes) (r : TakeCalled) → take_reads.Learnt (κ, tt) (st, (bytes, tt)) r (st, (bytes, tt)) → Ensured st (take bytes.now) (take_step bytes.now (take_outcome r))
  by_request : (κ κ' : List ℕ) (device : Device) (byte2 : FeatureIndex) (byte3 ticks : ℕ) (params : LentBytes) (buffer after : LentBuffer) (offset : ℕ) (r : RequestCalled) → request_reads.Learnt (κ, (κ', tt)) (st, (device, (byte2, (byte3, (ticks, (params, (buffer, (offset, tt)))))))) r (st, (device, (byte2, (byte3, (ticks, (params, (after, (offset, tt)))))))) → Ensured st (request device.0 byte2.0 byte3 ticks params.now offset buffer.now) (request_step params.now (request_outcome r after.now))
  by_cancel : (device : Device) (byte2 : FeatureIndex) (byte3 : ℕ) (r : CancelCalled) → cancel_reads.Learnt tt (st, (device, (byte2, (byte3, tt)))) r (st, (device, (byte2, (byte3, tt)))) → Ensured st (cancel device.0 byte2.0 byte3) (cancel_step (cancel_outcome r))
  by_tick : (r : TickCalled) → tick_reads.Learnt tt (st, tt) r (st, tt) → Ensured st tick (tick_step (tick_outcome r))
  by_switch : (κ : List ℕ) (bits timeout : ℕ) (buffer after : LentBuffer) (offset : ℕ) (r : Written) → switch_reads.Learnt (κ, tt) (st, (bits, (timeout, (buffer, (offset, tt))))) r (st, (bits, (timeout, (after, (offset, tt))))) → Ensured st (write (switch bits timeout) offset buffer.now) (write_step st (written_outcome r after.now))
  by_get_paired : (κ : List ℕ) (buffer after : LentBuffer) (offset : ℕ) (r : Written) → get_paired_reads.Learnt (κ, tt) (st, (buffer, (offset, tt))) r (st, (after, (offset, tt))) → Ensured st (write get_paired offset buffer.now) (write_step st (written_outcome r after.now))
  by_led : (κ : List ℕ) (device : Device) (leds : ℕ) (buffer after : LentBuffer) (offset : ℕ) (r : Written) → led_reads.Learnt (κ, tt) (st, (device, (leds, (buffer, (offset, tt))))) r (st, (device, (leds, (after, (offset, tt))))) → Ensured st (write (led device.0 leds) offset buffer.now) (write_step st (written_outcome r after.now))
  by_list : (κ : List ℕ) (buffer after : LentBuffer) (offset : ℕ) (r : Written) → list_reads.Learnt (κ, tt) (st, (buffer, (offset, tt))) r (st, (after, (offset, tt))) → Ensured st (write list offset buffer.now) (write_step st (written_outcome r after.now))
  by_store : (κ : List ℕ) (buffer after : LentBuffer) (offset : ℕ) (r : Written) → store_reads.Learnt (κ, tt) (st, (buffer, (offset, tt))) r (st, (after, (offset, tt))) → Ensured st (write store offset buffer.now) (write_step st (written_outcome r after.now))
  by_restore : (κ : List ℕ) (text : LentBytes) (r : RestoreCalled) → restore_reads.Learnt (κ, tt) (st, (text, tt)) r (st, (text, tt)) → Ensured st (restore text.now) (restore_step text.now (restore_outcome r))

-- a call that the program made, with the outcome that it gave
pub record Made : Type 0 where
  pub call : Call
  pub outcome : Outcome

abbrev pub call_of : Made → Call
call_of m = m.call

-- a history: each call is one that the program made on the station that the one before it handed back or left
unfoldable pub History : Station → List Made → Type 0
History st [] = Unit {0}
History st (m ∷ ms) = Ensured st m.call m.outcome × History m.outcome.station ms

-- the station at its end
unfoldable pub station_after : Station → List Made → Station
station_after st [] = st
station_after st (m ∷ ms) = station_after m.outcome.station ms

-- its transcript: each call, the port that it is for, and what the program returned
unfoldable pub made : Station → List Made → List Entry
made st [] = []
made st (m ∷ ms) = entry st m.call m.outcome ∷ made m.outcome.station ms

-- every answer, every lent byte and the final station of a history are those of the rules' run
pub record ByTheRules (st : Station) (ms : List Made) : Type 0 where
  pub station : station_after st ms ≡ run st (map call_of ms)
  pub entries : made st ms ≡ transcript st (map call_of ms)
