-- Laws of the seven ports.
use Rattle.std.specs.Prelude.{ℕ, ◌-◌, ◌≤◌, ◌<◌, ◌≡◌, refl, Bool, true, false, List, leb}
use Rattle.std.proofs.Common.{ap, subst, arith, lit<, leb-true}
use Rattle.std.proofs.lemmas.List.{set-get_or}
use Rattle.port.specs.declared.Port.{Port}
use Rattle.report.specs.Ports.{device_count, is_device}
use Rattle.report.proofs.ChoicesLaws.{both}
use Rattle.station.specs.declared.Station.{Station}
use Rattle.station.specs.Stations.{port_count, receiver_position, position_of, no_port, port_at, with_port}

-- a device's number
pub device_number : (device : ℕ) → is_device device ≡ true → (1 ≤ device) × (device ≤ device_count)
device_number device e =
    let h = both (leb 1 device) (leb device device_count) e in
    (leb-true _ _ h.0, leb-true _ _ h.1)

pub device_position : (device : ℕ) → is_device device ≡ true → (device - 1 ≡ position_of device) × (device - 1 < port_count)
unfolding position_of
device_position device e = let h = device_number device e in (simp e, omega (arith, h.0, h.1))

pub other_position : (device : ℕ) → is_device device ≡ false → (receiver_position ≡ position_of device) × (receiver_position < port_count)
unfolding position_of
other_position device e = (simp e, lit< tt)

-- storing a port where it stood changes nothing
pub same_port : (st : Station) (position : ℕ) → with_port st position (port_at st position) ≡ st
unfolding with_port
same_port st position = ap (λ (ports : List Port). station ports) (set-get_or st.ports position no_port)
  where
    station : List Port → Station
    station ports = record { ports = ports }

-- every number has a position among the seven
pub position_within : (device : ℕ) → position_of device < port_count
position_within device = go (is_device device) refl
  where
    go : (b : Bool) → is_device device ≡ b → position_of device < port_count
    go true e = let h = device_position device e in subst (λ (n : ℕ). n < port_count) h.0 h.1
    go false e = let h = other_position device e in subst (λ (n : ℕ). n < port_count) h.0 h.1
