-- Document 01, "Sequences of calls", of the program: what each function was proved to ensure makes its call one of a history, and a history of one call.
use Rattle.std.specs.Prelude.{ℕ, refl, List, [], ◌∷◌, Err}
use Rattle.report.specs.declared.Device.{Device}
use Rattle.report.specs.declared.FeatureIndex.{FeatureIndex}
use Rattle.report.specs.declared.Refusal.TheVariants.{EmptyReport}
use Rattle.report.specs.Reading.{read_rule}
use Rattle.frame.specs.FrameContracts.{Written, written_outcome}
use Rattle.station.specs.declared.Station.{Station}
use Rattle.station.specs.StationContracts.{TakeCalled, RequestCalled, CancelCalled, TickCalled, RestoreCalled, take_outcome, request_outcome, cancel_outcome, tick_outcome, restore_outcome}
use Rattle.station.specs.Stations.{fresh_station}
use Rattle.station.specs.StationTaking.{take_by, take_rule}
use Rattle.station.proofs.Station.take.Reads as take_reads
use Rattle.station.proofs.Station.request.Reads as request_reads
use Rattle.station.proofs.Station.cancel.Reads as cancel_reads
use Rattle.station.proofs.Station.tick.Reads as tick_reads
use Rattle.station.proofs.Station.switch.Reads as switch_reads
use Rattle.station.proofs.Station.get_paired.Reads as get_paired_reads
use Rattle.station.proofs.Station.led.Reads as led_reads
use Rattle.station.proofs.Station.list.Reads as list_reads
use Rattle.station.proofs.Station.store.Reads as store_reads
use Rattle.station.proofs.Station.restore.Reads as restore_reads
use Rattle.sequence.specs.Steps.{switch, get_paired, led, list, store, take, request, cancel, tick, write, restore, take_step, request_step, cancel_step, tick_step, write_step, restore_step}
use Rattle.sequence.specs.Histories.{LentBytes, LentBuffer, Ensured, by_take, by_request, by_cancel, by_tick, by_switch, by_get_paired, by_led, by_list, by_store, by_restore, Made, History}

-- each of the ten calls, with any arguments, result and lent bytes of which its contract holds
record EachCall : Type 0 where
  of_take : (κ : List ℕ) (st : Station) (bytes : LentBytes) (r : TakeCalled) → take_reads.Learnt (κ, tt) (st, (bytes, tt)) r (st, (bytes, tt)) → Ensured st (take bytes.now) (take_step bytes.now (take_outcome r))
  of_request : (κ κ' : List ℕ) (st : Station) (device : Device) (byte2 : FeatureIndex) (byte3 ticks : ℕ) (params : LentBytes) (buffer after : LentBuffer) (offset : ℕ) (r : RequestCalled) → request_reads.Learnt (κ, (κ', tt)) (st, (device, (byte2, (byte3, (ticks, (params, (buffer, (offset, tt)))))))) r (st, (device, (byte2, (byte3, (ticks, (params, (after, (offset, tt)))))))) → Ensured st (request device.0 byte2.0 byte3 ticks params.now offset buffer.now) (request_step params.now (request_outcome r after.now))
  of_cancel : (st : Station) (device : Device) (byte2 : FeatureIndex) (byte3 : ℕ) (r : CancelCalled) → cancel_reads.Learnt tt (st, (device, (byte2, (byte3, tt)))) r (st, (device, (byte2, (byte3, tt)))) → Ensured st (cancel device.0 byte2.0 byte3) (cancel_step (cancel_outcome r))
  of_tick : (st : Station) (r : TickCalled) → tick_reads.Learnt tt (st, tt) r (st, tt) → Ensured st tick (tick_step (tick_outcome r))
  of_switch : (κ : List ℕ) (st : Station) (bits timeout : ℕ) (buffer after : LentBuffer) (offset : ℕ) (r : Written) → switch_reads.Learnt (κ, tt) (st, (bits, (timeout, (buffer, (offset, tt))))) r (st, (bits, (timeout, (after, (offset, tt))))) → Ensured st (write (switch bits timeout) offset buffer.now) (write_step st (written_outcome r after.now))
  of_get_paired : (κ : List ℕ) (st : Station) (buffer after : LentBuffer) (offset : ℕ) (r : Written) → get_paired_reads.Learnt (κ, tt) (st, (buffer, (offset, tt))) r (st, (after, (offset, tt))) → Ensured st (write get_paired offset buffer.now) (write_step st (written_outcome r after.now))
  of_led : (κ : List ℕ) (st : Station) (device : Device) (leds : ℕ) (buffer after : LentBuffer) (offset : ℕ) (r : Written) → led_reads.Learnt (κ, tt) (st, (device, (leds, (buffer, (offset, tt))))) r (st, (device, (leds, (after, (offset, tt))))) → Ensured st (write (led device.0 leds) offset buffer.now) (write_step st (written_outcome r after.now))
  of_list : (κ : List ℕ) (st : Station) (buffer after : LentBuffer) (offset : ℕ) (r : Written) → list_reads.Learnt (κ, tt) (st, (buffer, (offset, tt))) r (st, (after, (offset, tt))) → Ensured st (write list offset buffer.now) (write_step st (written_outcome r after.now))
  of_store : (κ : List ℕ) (st : Station) (buffer after : LentBuffer) (offset : ℕ) (r : Written) → store_reads.Learnt (κ, tt) (st, (buffer, (offset, tt))) r (st, (after, (offset, tt))) → Ensured st (write store offset buffer.now) (write_step st (written_outcome r after.now))
  of_restore : (κ : List ℕ) (st : Station) (text : LentBytes) (r : RestoreCalled) → restore_reads.Learnt (κ, tt) (st, (text, tt)) r (st, (text, tt)) → Ensured st (restore text.now) (restore_step text.now (restore_outcome r))

each_call : EachCall
each_call =
    record {
      of_take = λ κ st bytes r e. by_take κ bytes r e;
      of_request = λ κ κ' st device byte2 byte3 ticks params buffer after offset r e. by_request κ κ' device byte2 byte3 ticks params buffer after offset r e;
      of_cancel = λ st device byte2 byte3 r e. by_cancel device byte2 byte3 r e;
      of_tick = λ st r e. by_tick r e;
      of_switch = λ κ st bits timeout buffer after offset r e. by_switch κ bits timeout buffer after offset r e;
      of_get_paired = λ κ st buffer after offset r e. by_get_paired κ buffer after offset r e;
      of_led = λ κ st device leds buffer after offset r e. by_led κ device leds buffer after offset r e;
      of_list = λ κ st buffer after offset r e. by_list κ buffer after offset r e;
      of_store = λ κ st buffer after offset r e. by_store κ buffer after offset r e;
      of_restore = λ κ st text r e. by_restore κ text r e;
    }

-- case a: the empty report, refused with 1, on a fresh station
nothing_lent : LentBytes
nothing_lent = record { ref_ptr = (0, 0); now = [] }

refused_empty : TakeCalled
refused_empty = record { answer = Err EmptyReport; next = fresh_station }

one_call : Made
one_call = record { call = take []; outcome = take_step [] (take_outcome refused_empty) }

history_of_one : History fresh_station (one_call ∷ [])
unfolding History one_call refused_empty take_rule take_by read_rule nothing_lent
history_of_one = (by_take [] nothing_lent refused_empty refl, tt)
