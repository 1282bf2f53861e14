-- Laws of a loop that goes over the padding byte by byte: what it has asked, and what is left to ask.
use Rattle.std.specs.Prelude.{ℕ, suc, ◌+◌, ◌≤◌, ◌<◌, ◌≡◌, refl, Bool, true, false, ◌&&◌, List, length, get_or, eqb}
use Rattle.std.proofs.Common.{sym, ◌∙◌, ap, arith, drop_of_length-le, drop-cons, ne_eqb}
use Rattle.dj.specs.Padding.{all_zero, is_zero_from}

module _ (bytes : List ℕ) where
  -- the state of that loop: what is asked of the bytes from the offset on is what is left to ask from i on
  pub record ZeroUpTo (offset i : ℕ) : Type 0 where
    pub left : is_zero_from bytes offset ≡ is_zero_from bytes i

  pub zero_begun : (offset : ℕ) → ZeroUpTo offset offset
  zero_begun offset = record { left = refl }

  here : {i : ℕ} (d : ℕ) → i < length bytes → is_zero_from bytes i ≡ (eqb (get_or bytes i d) 0 && is_zero_from bytes (suc i))
  here {i} d h = ap all_zero (drop-cons bytes i d h)

  pub zero_more : {offset i : ℕ} (d : ℕ) → ZeroUpTo offset i → i < length bytes → get_or bytes i d ≡ 0 → ZeroUpTo offset (i + 1)
  zero_more {offset} {i} d s h e =
      let next : suc i ≡ i + 1 = omega arith in
      record { left = s.left ∙ here d h ∙ ap (λ (x : ℕ). eqb x 0 && is_zero_from bytes (suc i)) e ∙ ap (is_zero_from bytes) next }

  pub zero_ends : {offset i : ℕ} (d : ℕ) → ZeroUpTo offset i → i < length bytes → ¬ (get_or bytes i d ≡ 0) → false ≡ is_zero_from bytes offset
  zero_ends {offset} {i} d s h n =
      sym (s.left ∙ here d h ∙ ap (λ (b : Bool). b && is_zero_from bytes (suc i)) (ne_eqb _ _ n))

  pub zero_out : {offset i : ℕ} → ZeroUpTo offset i → length bytes ≤ i → true ≡ is_zero_from bytes offset
  zero_out s h = sym (s.left ∙ ap all_zero (drop_of_length-le bytes h))
