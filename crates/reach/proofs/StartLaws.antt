-- Document 01, "Ports and their records", and document 02, Ask 3: what holds of every port of a start, fresh or restored.
use Rattle.std.specs.Prelude.{ℕ, zero, suc, ◌≤◌, ◌<◌, ◌≡◌, refl, Bool, true, false, List, [], ◌∷◌, ◌++◌, length, get_or}
use Rattle.std.proofs.Common.{sym, ◌∙◌, ap, subst, true≢false, le_of_suc-le-suc, arith, lit≤}
use Rattle.std.proofs.lemmas.List.{get_or-replicate}
use Rattle.report.specs.declared.FeatureIndex.{FeatureIndex}
use Rattle.port.specs.declared.Port.{Port}
use Rattle.port.specs.Records.{max_index, fresh_port, feature_at}
use Rattle.store.specs.Stores.{pad_port, IndexesFit, StoredDevice, AllStored}
use Rattle.keeping.proofs.ReadingLaws.{reads_exactly, fresh_stored, unpaired_fresh}
use Rattle.keeping.proofs.KeepingLaws.{kept_paired}
use Rattle.station.specs.declared.Station.{Station}
use Rattle.station.specs.Stations.{port_count, receiver_position, fresh_station, no_port, port_at}
use Rattle.sequence.specs.Starts.{Start, fresh, restored}
use Rattle.reach.specs.Sound.{SoundPlaces, SoundPort}
use Rattle.reach.proofs.SoundLaws.{sound_fresh}

-- a port as a store has it; the receiver's is not paired
abbrev pub StartPort : ℕ → Port → Type 0
StartPort position p = StoredDevice p × (position ≡ receiver_position → p.paired ≡ false)

fresh_port_law : (position : ℕ) → StartPort position fresh_port
unfolding fresh_port
fresh_port_law position = (fresh_stored, λ e. refl)

-- each of the devices, and then port 255
stored_at : (devices : List Port) (position : ℕ) → AllStored devices → position < suc (length devices) → StoredDevice (get_or (devices ++ (fresh_port ∷ [])) position no_port)
unfolding AllStored
stored_at [] zero a h = fresh_stored
stored_at [] (suc position) a h = absurd (omega (arith, h))
stored_at (p ∷ devices) zero a h = a.0
stored_at (p ∷ devices) (suc position) a h = stored_at devices position a.1 (le_of_suc-le-suc h)

last_fresh : (devices : List Port) (position : ℕ) → position ≡ length devices → get_or (devices ++ (fresh_port ∷ [])) position no_port ≡ fresh_port
last_fresh [] zero e = refl
last_fresh [] (suc position) e = absurd (omega (arith, e))
last_fresh (p ∷ devices) zero e = absurd (omega (arith, e))
last_fresh (p ∷ devices) (suc position) e = last_fresh devices position (omega (arith, e))

pub start_port : {st : Station} → Start st → (position : ℕ) → position < port_count → StartPort position (port_at st position)
unfolding fresh_station fresh_port
start_port fresh position h =
    subst (StartPort position) (sym (get_or-replicate port_count position fresh_port no_port h)) (fresh_port_law position)
start_port (restored text ports e) position h =
    let s = (reads_exactly text ports).0 e in
    let at : get_or ports position no_port ≡ get_or (s.devices ++ (fresh_port ∷ [])) position no_port = ap (λ (l : List Port). get_or l position no_port) s.all in (
      subst StoredDevice (sym at) (stored_at s.devices position s.each (omega (arith, h, s.six))),
      λ q. ap (λ (p : Port). p.paired) (at ∙ last_fresh s.devices position (q ∙ sym s.six)),
    )

indexes_sound : (features : List FeatureIndex) → IndexesFit features → (slot : ℕ) → feature_at features slot ≤ max_index
unfolding IndexesFit
indexes_sound [] f slot = lit≤ tt
indexes_sound (index ∷ features) f zero = f.0
indexes_sound (index ∷ features) f (suc slot) = indexes_sound features f.1 slot

-- nothing waits
pub stored_places : (p : Port) → StoredDevice p → p.places ≡ fresh_port.places
unfolding pad_port fresh_port
stored_places p s = go p.paired refl
  where
    go : (b : Bool) → p.paired ≡ b → p.places ≡ fresh_port.places
    go true e = ap (λ (q : Port). q.places) (s.rest ∙ kept_paired p e)
    go false e = ap (λ (q : Port). q.places) (unpaired_fresh p s e)

pub stored_sound : (position : ℕ) (p : Port) → StartPort position p → SoundPort position p
stored_sound position p s = go p.paired refl
  where
    go : (b : Bool) → p.paired ≡ b → SoundPort position p
    go true e =
        let f = s.0.fits e in
        record {
          receiver = s.1;
          unpaired = λ q. absurd (true≢false (sym e ∙ q));
          indexes = record { all = f.all; each = indexes_sound p.features f.indexes };
          waiting = subst SoundPlaces (sym (stored_places p s.0)) (sound_fresh position).waiting;
        }
    go false e = subst (SoundPort position) (sym (unpaired_fresh p s.0 e)) (sound_fresh position)
