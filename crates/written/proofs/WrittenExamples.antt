-- What follows from the statement of the texts that stations write which calls reach, for texts at hand.
use Rattle.std.specs.Prelude.{ℕ, ◌≡◌, refl, length, replicate}
use Rattle.std.proofs.Common.{sym, ◌∙◌, ap, arith}
use mathlib.Core.List.{List, [], ◌∷◌}
use Rattle.store.specs.Stores.{store_text, Store}
use Rattle.restore.specs.Restoring.{store_of, read_store}
use Rattle.keeping.specs.Lines.{IsStore}
use Rattle.keeping.proofs.ReadingLaws.{store_not_broken, reads_exactly}
use Rattle.keeping.proofs.KeepingExamples.{device_lines}
use Rattle.keeping.proofs.KeptExamples.{asked, asked_ports, falling}
use Rattle.station.specs.declared.Station.{Station}
use Rattle.station.specs.Stations.{fresh_station}
use Rattle.sequence.specs.Starts.{Start, restored}
use Rattle.sequence.specs.Steps.{Call, take, cancel, tick, write, restore, store, step, run}
use Rattle.widths.specs.Widths.{AllRead}
use Rattle.written.specs.Building.{AllBytes, TakesOrAsks, AllTakeOrAsk}
use Rattle.written.specs.Written.{AllWritten}

asked_read : read_store asked ≡ store_of asked_ports
asked_read = device_lines.after_f_and_c

asked_store : Store asked asked_ports
asked_store = (reads_exactly asked asked_ports).0 asked_read

-- the calls that build a station are takes and requests alone
no_cancel : (device byte2 byte3 : ℕ) → ¬ TakesOrAsks (cancel device byte2 byte3)
unfolding TakesOrAsks
no_cancel device byte2 byte3 h = h

no_tick : ¬ TakesOrAsks tick
unfolding TakesOrAsks
no_tick h = h

no_restore : (text : List ℕ) → ¬ TakesOrAsks (restore text)
unfolding TakesOrAsks
no_restore text h = h

-- of bytes
no_larger : ¬ TakesOrAsks (take (256 ∷ []))
unfolding TakesOrAsks AllBytes
no_larger h = omega (arith, h.0)

module _ (w : AllWritten) where
  asked_built : (cs : List Call) × (run fresh_station cs ≡ record { ports = asked_ports })
  asked_built = let b = w.built asked asked_ports asked_store in (b.calls, b.so)

  asked_bytes : AllTakeOrAsk (w.built asked asked_ports asked_store).calls
  asked_bytes = (w.built asked asked_ports asked_store).bytes

  asked_written : (cs : List Call) × (AllTakeOrAsk cs × (store_text (run fresh_station cs).ports ≡ asked))
  asked_written =
      let b = (w.exactly asked).0 (asked_ports, asked_store) in
      (b.built.calls, (b.built.bytes, ap (λ (st : Station). store_text st.ports) b.built.so ∙ sym b.so))

  -- after no such calls is a lower port written after a higher one
  falling_unwritten : (cs : List Call) → AllTakeOrAsk cs → ¬ (store_text (run fresh_station cs).ports ≡ falling)
  falling_unwritten cs h e =
      let s : IsStore falling = (w.exactly falling).1 (record { ports = (run fresh_station cs).ports; built = record { calls = cs; bytes = h; so = refl }; so = sym e }) in
      store_not_broken (sym ((reads_exactly falling s.0).1 s.1) ∙ device_lines.falling)

  -- a restored station writes a store, and after a tick too
  restored_accepted : IsStore (store_text asked_ports)
  unfolding run AllRead
  restored_accepted = w.accepted (record { ports = asked_ports }) (restored asked asked_ports asked_read) [] tt

  ticked_accepted : (st : Station) → Start st → IsStore (store_text (run st (tick ∷ [])).ports)
  unfolding AllRead
  ticked_accepted st start = w.accepted st start (tick ∷ []) ((λ i. omega arith), tt)

  asked_wrote : (step (record { ports = asked_ports }) (write store 0 (replicate (length (store_text asked_ports)) 0))).lent ≡ store_text asked_ports
  asked_wrote = w.wrote (record { ports = asked_ports })
