-- Laws of the listing: its lines are the texts of devices 1 to 6, and only a paired one has a line.
use Rattle.std.specs.Prelude.{ℕ, ◌+◌, ◌≡◌, refl, true, false, List, [], take}
use Rattle.report.specs.Ports.{device_count}
use Rattle.port.specs.declared.Port.{Port}
use Rattle.text.specs.Texts.{each, paired_text, paired_lines}
use Rattle.listing.specs.Listing.{device_line, device_text, lines}

-- the device at each position has the number after it
lines_law : (ports : List Port) → lines ports ≡ each (λ (position : ℕ) (p : Port). device_text (position + 1) p) (take device_count ports)
unfolding paired_lines
lines_law ports = refl

paired_law : (number : ℕ) (p : Port) → p.paired ≡ true → device_text number p ≡ device_line number p
unfolding paired_text
paired_law number p paired = simp paired

unpaired_law : (number : ℕ) (p : Port) → p.paired ≡ false → device_text number p ≡ []
unfolding paired_text
unpaired_law number p unpaired = simp unpaired
