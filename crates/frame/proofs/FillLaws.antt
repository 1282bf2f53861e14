-- Laws of filling the front of a part with one frame, over any length of the rest.
use Rattle.std.specs.Prelude.{ℕ, suc, ◌+◌, ◌-◌, ◌≤◌, ◌<◌, ◌≡◌, refl, List, [], ◌∷◌, ◌++◌, length, get_or, set, take, drop}
use Rattle.std.proofs.Common.{sym, ◌∙◌, ap, arith, add-one, length-set, drop-drop}
use Rattle.frame.specs.Writing.{pasted}
use Rattle.std.proofs.Math.Seq.{paste, paste-zero, paste-suc, take-length}
use Rattle.std.proofs.lemmas.List.Edits.{length-paste}

-- four stores at the front
abbrev pub headed : List ℕ → ℕ → ℕ → ℕ → ℕ → List ℕ
headed part a b c d = set (set (set (set part 0 a) 1 b) 2 c) 3 d

pub length_headed : (part : List ℕ) (a b c d : ℕ) → length (headed part a b c d) ≡ length part
length_headed part a b c d = simp length-set

-- the head's four stores on a part that has room for them
pub behind : (part : List ℕ) (a b c d : ℕ) → 4 ≤ length part → headed part a b c d ≡ a ∷ b ∷ c ∷ d ∷ drop 4 part
behind [] a b c d h = absurd (omega arith)
behind (x ∷ []) a b c d h = absurd (omega arith)
behind (x ∷ y ∷ []) a b c d h = absurd (omega arith)
behind (x ∷ y ∷ z ∷ []) a b c d h = absurd (omega arith)
behind (x ∷ y ∷ z ∷ w ∷ part) a b c d h = refl

-- four stores and a copy behind them are the frame at the front
pub copied : (part rest copy : List ℕ) (a b c d : ℕ) → 4 + length rest ≤ length part → copy ≡ rest → take 4 (headed part a b c d) ++ (copy ++ drop (4 + length rest - 4) (drop 4 (headed part a b c d))) ≡ pasted (a ∷ b ∷ c ∷ d ∷ rest) 0 part
copied part rest copy a b c d room same =
    let long : 4 ≤ length part = omega (arith, room) in
    let size : 4 + length rest - 4 ≡ length rest = omega arith in
    let e : 0 + suc (suc (suc (suc (length rest)))) ≡ 4 + length rest = omega arith in
    rw (behind part a b c d long) rw same rw size
    (ap (λ (l : List ℕ). a ∷ b ∷ c ∷ d ∷ (rest ++ l)) (drop-drop (length rest) 4 part ∙ ap (λ (k : ℕ). drop k part) (sym e)))
