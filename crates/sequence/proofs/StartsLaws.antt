-- Document 02, Ask 3: an accepted read begins a new sequence, on a start.
use Rattle.std.specs.Prelude.{◌≡◌, refl, ◌↔◌, Bool, true, false}
use Rattle.std.proofs.Common.{sym, ap, true≢false}
use Rattle.restore.specs.Restoring as answers
use Rattle.restore.specs.Restoring.{StoreRead, store_of, of_other, broken_at, read_store, restored_by, restore_ports}
use Rattle.station.specs.declared.Station.{Station}
use Rattle.station.specs.StationCalls.{restored_to, restore_rule}
use Rattle.sequence.specs.Starts.{Start, restored}
use Rattle.sequence.specs.Steps.{Call, take, request, cancel, tick, write, restore, CallAnswer, taken, written, cancelled, ticked, restoring, step, is_store, begins}

pub begun_start : (c : Call) (st : Station) → begins c ≡ true → Start (step st c).station
unfolding begins step restore_rule restore_ports
begun_start (take bytes) st e = absurd (true≢false (sym e))
begun_start (request device byte2 byte3 ticks params offset lent) st e = absurd (true≢false (sym e))
begun_start (cancel device byte2 byte3) st e = absurd (true≢false (sym e))
begun_start tick st e = absurd (true≢false (sym e))
begun_start (write writer offset lent) st e = absurd (true≢false (sym e))
begun_start (restore text) st e = go (read_store text) refl e
  where
    go : (x : StoreRead) → read_store text ≡ x → is_store x ≡ true → Start (restored_to (restored_by st.ports x)).station
    go (store_of ports) q z = restored text ports q
    go of_other q z = absurd (true≢false (sym z))
    go (broken_at line) q z = absurd (true≢false (sym z))

-- what begins a new sequence is what answers that it restored the station
is_restored : CallAnswer → Bool
is_restored (taken a) = false
is_restored (written a) = false
is_restored (cancelled a) = false
is_restored (ticked counts) = false
is_restored (restoring answers.restored) = true
is_restored (restoring (answers.refused number)) = false
is_restored (restoring (answers.refused_at number line)) = false

pub begun_exactly : (c : Call) (st : Station) → (begins c ≡ true) ↔ ((step st c).answer ≡ restoring answers.restored)
unfolding begins step restore_rule restore_ports is_restored
begun_exactly (take bytes) st = ((λ e. absurd (true≢false (sym e))), (λ e. ap is_restored e))
begun_exactly (request device byte2 byte3 ticks params offset lent) st =
    ((λ e. absurd (true≢false (sym e))), (λ e. ap is_restored e))
begun_exactly (cancel device byte2 byte3) st = ((λ e. absurd (true≢false (sym e))), (λ e. ap is_restored e))
begun_exactly tick st = ((λ e. absurd (true≢false (sym e))), (λ e. ap is_restored e))
begun_exactly (write writer offset lent) st =
    ((λ e. absurd (true≢false (sym e))), (λ e. ap is_restored e))
begun_exactly (restore text) st = go (read_store text)
  where
    go : (x : StoreRead) → (is_store x ≡ true) ↔ (restoring (restored_by st.ports x).answer ≡ restoring answers.restored)
    go (store_of ports) = ((λ e. refl), (λ e. refl))
    go of_other = ((λ e. absurd (true≢false (sym e))), (λ e. ap is_restored e))
    go (broken_at line) = ((λ e. absurd (true≢false (sym e))), (λ e. ap is_restored e))
