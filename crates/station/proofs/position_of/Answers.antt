-- `station::position_of` meets its contract.
use Rattle.std.proofs.Common.{ℕ, ◌≡◌, ◌-◌, sym, ◌∙◌, ap, arith}
use Rattle.station.proofs.StationsLaws.{device_position, other_position}
use Rattle.station.proofs.position_of.Goals as goal

pub returns-then-is_device : goal.returns-then-is_device
returns-then-is_device c =
    let known = device_position c.args.device.0 (sym c.is_device.ensures.named ∙ c.if-is_device.true) in
    let same : c.from.result - 1 ≡ c.args.device.0 - 1 = ap (λ (n : ℕ). n - 1) c.from.ensures in
    record {
      position = same ∙ known.0;
      within = omega (arith, same, known.1);
    }

pub returns-else-is_device : goal.returns-else-is_device
returns-else-is_device c =
    let known = other_position c.args.device.0 (sym c.is_device.ensures.named ∙ c.if-is_device.false) in
    record { position = known.0; within = known.1 }
