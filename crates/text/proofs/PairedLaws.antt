-- Laws of putting the lines of paired devices, over any line.
use Rattle.std.specs.Prelude.{ℕ, ◌+◌, ◌*◌, ◌≤◌, ◌<◌, ◌≡◌, refl, Bool, true, false, cond, List, [], length, take, get_or}
use Rattle.std.proofs.Common.{sym, ap, subst, arith, length-take-le}
use Rattle.report.specs.Ports.{device_count}
use Rattle.port.specs.declared.Port.{Port}
use Rattle.text.specs.declared.Out.{Out}
use Rattle.text.specs.Putting.{Outputs}
use Rattle.text.specs.Texts.{each, paired_text, paired_lines}
use Rattle.text.proofs.PuttingLaws.{nothing_out, out_at_most, same_out}
use Rattle.text.proofs.EachLaws.{Outputting, out_each, out_done}

module _ (line : ℕ → Port → List ℕ) where
  paired_out : {most : ℕ} {o o₁ : Out} (number : ℕ) (p : Port) → p.paired ≡ true → Outputs most (line number p) o o₁ → Outputs most (paired_text line number p) o o₁
  unfolding paired_text
  paired_out number p paired added =
      same_out (ap (λ (b : Bool). cond b (line number p) []) (sym paired)) added

  unpaired_out : (most number : ℕ) (p : Port) (o : Out) → p.paired ≡ false → Outputs most (paired_text line number p) o o
  unfolding paired_text
  unpaired_out most number p o unpaired =
      same_out (ap (λ (b : Bool). cond b (line number p) []) (sym unpaired)) (out_at_most most (omega arith) (nothing_out o))

  module _ {most : ℕ} {o o₁ : Out} {ports : List Port} {i : ℕ} (p : Outputting (λ (position : ℕ) (p : Port). paired_text line (position + 1) p) most (length ports) ports o o₁ i) (more : i < length ports) (d : Port) where
    pub paired_each : {o₂ o₃ : Out} → (get_or ports i d).paired ≡ true → Outputs most (line (i + 1) (get_or ports i d)) o₁ o₂ → o₃ ≡ o₂ → Outputting (λ (position : ℕ) (p : Port). paired_text line (position + 1) p) most (length ports) ports o o₃ (i + 1)
    paired_each paired added is =
        out_each p d more more refl (subst (λ (out : Out). Outputs most (paired_text line (i + 1) (get_or ports i d)) o₁ out) (sym is) (paired_out (i + 1) (get_or ports i d) paired added))

    pub unpaired_each : {o₃ : Out} → (get_or ports i d).paired ≡ false → o₃ ≡ o₁ → Outputting (λ (position : ℕ) (p : Port). paired_text line (position + 1) p) most (length ports) ports o o₃ (i + 1)
    unpaired_each unpaired is =
        out_each p d more more refl (subst (λ (out : Out). Outputs most (paired_text line (i + 1) (get_or ports i d)) o₁ out) (sym is) (unpaired_out most (i + 1) (get_or ports i d) o₁ unpaired))

  pub lines_out : {most i : ℕ} {o o₁ : Out} (ports : List Port) → device_count ≤ length ports → Outputting (λ (position : ℕ) (p : Port). paired_text line (position + 1) p) most (length (take device_count ports)) (take device_count ports) o o₁ i → length (take device_count ports) ≤ i → Outputs (most * device_count) (paired_lines line ports) o o₁
  unfolding paired_lines
  lines_out {most} {i} {o} {o₁} ports all p out =
      subst (λ (n : ℕ). Outputs (most * n) (each (λ (position : ℕ) (p : Port). paired_text line (position + 1) p) (take device_count ports)) o o₁) (length-take-le device_count ports all) (out_done p refl out)
