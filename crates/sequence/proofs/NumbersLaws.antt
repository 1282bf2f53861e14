-- Document 01, "Ports and their records": the seven numbers of ports, and their positions.
use Rattle.std.specs.Prelude.{ℕ, suc, ◌<◌, ◌≡◌, refl, Bool, true, false, cond, ◌||◌, ltb, eqb}
use Rattle.std.proofs.Common.{ap, arith, eqb-true, ltb-true, ltb-false, le-leb}
use Rattle.report.specs.Ports.{device_count, receiver, is_device, is_port}
use Rattle.station.specs.Stations.{port_count, receiver_position, position_of, number_at}
use Rattle.station.proofs.StationsLaws.{device_number, device_position, other_position}

-- a device is a port
pub device_port : (device : ℕ) → is_device device ≡ true → is_port device ≡ true
device_port device h = ap (λ (b : Bool). b || eqb device receiver) h

-- two ports have two positions
pub one_number : (a b : ℕ) → is_port a ≡ true → is_port b ≡ true → position_of a ≡ position_of b → a ≡ b
one_number a b h k e = go (is_device a) (is_device b) refl refl
  where
    go : (x y : Bool) → is_device a ≡ x → is_device b ≡ y → a ≡ b
    go true true p q =
        omega (arith, e, (device_number a p).0, (device_number b q).0, (device_position a p).0, (device_position b q).0)
    go true false p q =
        absurd (omega (arith, e, (device_number a p).0, (device_number a p).1, (device_position a p).0, (other_position b q).0))
    go false true p q =
        absurd (omega (arith, e, (device_number b q).0, (device_number b q).1, (device_position b q).0, (other_position a p).0))
    go false false p q =
        omega (arith, eqb-true a receiver (simp p at h), eqb-true b receiver (simp q at k))

-- every position is that of a port
pub number_at_law : (position : ℕ) → position < port_count → (is_port (number_at position) ≡ true) × (position_of (number_at position) ≡ position)
number_at_law position h = go (ltb position receiver_position) refl
  where
    Named : ℕ → Type 0
    Named n = (is_port n ≡ true) × (position_of n ≡ position)

    go : (b : Bool) → ltb position receiver_position ≡ b → Named (cond b (suc position) receiver)
    go true e =
        let l : position < device_count = ltb-true position receiver_position e in
        let d : is_device (suc position) ≡ true = simp (le-leb 1 (suc position) (omega arith), le-leb (suc position) device_count (omega arith)) in
        (simp d, omega (arith, (device_position (suc position) d).0))
    go false e =
        (refl, omega (arith, ltb-false position receiver_position e, (other_position receiver refl).0))
