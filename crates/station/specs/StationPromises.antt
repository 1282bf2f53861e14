-- What each call of the program promises: its outcome is the one that the rules give.
use Rattle.std.specs.Prelude.{ℕ, ◌≡◌, List}
use Rattle.frame.specs.FrameContracts.{Written, written_outcome}
use Rattle.frame.specs.Writing.{switch_rule, get_paired_rule, led_rule}
use Rattle.listing.specs.Listing.{listing_rule}
use Rattle.store.specs.Stores.{store_rule}
use Rattle.station.specs.declared.Station.{Station}
use Rattle.station.specs.StationContracts.{TakeCalled, RequestCalled, CancelCalled, TickCalled, RestoreCalled, take_outcome, request_outcome, cancel_outcome, tick_outcome, restore_outcome}
use Rattle.station.specs.StationTaking.{take_rule}
use Rattle.station.specs.StationCalls.{request_rule, cancel_rule, tick_all, restore_rule}

abbrev pub TakePromise : Station → List ℕ → TakeCalled → Type 0
TakePromise st bytes r = take_outcome r ≡ take_rule st bytes

abbrev pub RequestPromise : Station → ℕ → ℕ → ℕ → ℕ → List ℕ → ℕ → List ℕ → RequestCalled → List ℕ → Type 0
RequestPromise st device byte2 byte3 ticks params offset lent r after =
    request_outcome r after ≡ request_rule st device byte2 byte3 ticks params offset lent

abbrev pub CancelPromise : Station → ℕ → ℕ → ℕ → CancelCalled → Type 0
CancelPromise st device byte2 byte3 r = cancel_outcome r ≡ cancel_rule st device byte2 byte3

abbrev pub TickPromise : Station → TickCalled → Type 0
TickPromise st r = tick_outcome r ≡ tick_all st

abbrev pub SwitchPromise : ℕ → ℕ → ℕ → List ℕ → Written → List ℕ → Type 0
SwitchPromise bits timeout offset lent r after = written_outcome r after ≡ switch_rule bits timeout offset lent

abbrev pub GetPairedPromise : ℕ → List ℕ → Written → List ℕ → Type 0
GetPairedPromise offset lent r after = written_outcome r after ≡ get_paired_rule offset lent

abbrev pub LedPromise : ℕ → ℕ → ℕ → List ℕ → Written → List ℕ → Type 0
LedPromise device leds offset lent r after = written_outcome r after ≡ led_rule device leds offset lent

abbrev pub ListPromise : Station → ℕ → List ℕ → Written → List ℕ → Type 0
ListPromise st offset lent r after = written_outcome r after ≡ listing_rule st.ports offset lent

abbrev pub StorePromise : Station → ℕ → List ℕ → Written → List ℕ → Type 0
StorePromise st offset lent r after = written_outcome r after ≡ store_rule st.ports offset lent

abbrev pub RestorePromise : Station → List ℕ → RestoreCalled → Type 0
RestorePromise st text r = restore_outcome r ≡ restore_rule st text
