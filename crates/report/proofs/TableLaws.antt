-- A table that lists the values of a rule has the rule's value at each of its places.
use Rattle.std.specs.Prelude.{ℕ, zero, suc, ◌+◌, ◌<◌, ◌≤◌, ◌≡◌, List, [], ◌∷◌, get_or}
use Rattle.std.proofs.Common.{ap, ◌∙◌, sym, add-zero, zero-add, add-suc, suc-add, le_of_suc-le-suc, not-suc-le-zero, arith}

-- the rule's values at `count` places from `first` on
abbrev pub listed : (ℕ → ℕ) → ℕ → ℕ → List ℕ
listed rule first zero = []
listed rule first (suc count) = rule first ∷ listed rule (suc first) count

listed_from : (rule : ℕ → ℕ) (first count k : ℕ) → k < count → get_or (listed rule first count) k 0 ≡ rule (first + k)
listed_from rule first zero k h = absurd (not-suc-le-zero h)
listed_from rule first (suc count) zero h = ap rule (sym (add-zero first))
listed_from rule first (suc count) (suc k) h =
    listed_from rule (suc first) count k (le_of_suc-le-suc h) ∙ ap rule (suc-add first k ∙ sym (add-suc first k))

pub listed_at : (rule : ℕ → ℕ) (count k : ℕ) → k < count → get_or (listed rule 0 count) k 0 ≡ rule k
listed_at rule count k h = listed_from rule 0 count k h ∙ ap rule (zero-add k)

listed_or_from : (rule : ℕ → ℕ) (first count k : ℕ) → (count ≤ k → rule (first + k) ≡ 0) → get_or (listed rule first count) k 0 ≡ rule (first + k)
listed_or_from rule first zero k past = sym (past (omega arith))
listed_or_from rule first (suc count) zero past = ap rule (sym (add-zero first))
listed_or_from rule first (suc count) (suc k) past =
    let same : suc first + k ≡ first + suc k = suc-add first k ∙ sym (add-suc first k) in
    listed_or_from rule (suc first) count k (λ h. ap rule same ∙ past (omega (arith, h))) ∙ ap rule same

-- and past its end too, where the rule has 0 from there on
pub listed_or : (rule : ℕ → ℕ) (count k : ℕ) → (count ≤ k → rule k ≡ 0) → get_or (listed rule 0 count) k 0 ≡ rule k
listed_or rule count k past = listed_or_from rule 0 count k (λ h. ap rule (zero-add k) ∙ past h) ∙ ap rule (zero-add k)
