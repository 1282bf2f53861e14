-- Laws of bytes moved down in a buffer.
use Rattle.std.specs.Prelude.{ℕ, ◌+◌, ◌-◌, ◌≤◌, ◌≡◌, List, ◌++◌, length, take, drop}
use Rattle.std.specs.List.{copy_within}
use Rattle.std.proofs.Common.{sym, ◌∙◌, ap, arith, length-drop}
use Rattle.std.proofs.lemmas.List.{drop-take}
use Rattle.std.proofs.lemmas.List.Edits.{take-paste}

-- the part of a buffer between two offsets
pub part_is : (b : List ℕ) (start size : ℕ) → start ≤ size → take (size - start) (drop start b) ≡ drop start (take size b)
part_is b start size h =
    let e : start + (size - start) ≡ size = omega arith in
    sym (drop-take start (size - start) b) ∙ ap (λ (n : ℕ). drop start (take n b)) e

-- the bytes between two offsets are moved down to another one
pub moved : (b : List ℕ) (to from end : ℕ) → to ≤ from → from ≤ end → end ≤ length b → take (to + (end - from)) (copy_within b from end to) ≡ take to b ++ drop from (take end b)
moved b to from end down part within =
    take-paste b to (drop from b) (end - from) (omega arith) (omega (arith, length-drop from b))
    ∙ ap (λ (l : List ℕ). take to b ++ l) (part_is b from end part)
