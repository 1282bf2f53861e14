-- Laws of "Report sizes and bytes".
use Rattle.std.specs.Prelude.{ℕ, zero, suc, ◌≤◌, ◌≡◌, refl, Bool, true, false, cond, ◌||◌, eqb, Option, Some, None}
use Rattle.std.proofs.Common.{arith, lit≤, sym, ◌∙◌, subst}
use Rattle.report.specs.Sizes.{length_of, is_report_id, shortest_size, hidpp_short, hidpp_long, dj_short, dj_long}
use Rattle.report.specs.ReportContracts.{length_found}

abbrev row : Bool → Bool → Bool → Bool → ℕ
row a b c d = cond a 7 (cond b 20 (cond c 15 (cond d 32 0)))

-- a length other than 0 goes with one of the four ids, and is that of the shortest report or more
pub sized : (id : ℕ) → (length_of id ≡ 0 → ⊥) → (is_report_id id ≡ true) × (shortest_size ≤ length_of id)
unfolding length_of
sized id = go (eqb id hidpp_short) (eqb id hidpp_long) (eqb id dj_short) (eqb id dj_long)
  where
    go : (a b c d : Bool) → (row a b c d ≡ 0 → ⊥) → (((a || b) || (c || d)) ≡ true) × (shortest_size ≤ row a b c d)
    go true b c d h = (refl, lit≤ tt)
    go false true c d h = (refl, lit≤ tt)
    go false false true d h = (refl, lit≤ tt)
    go false false false true h = (refl, lit≤ tt)
    go false false false false h = absurd (h refl)

-- and the length 0 with none
pub unsized : (id : ℕ) → length_of id ≡ 0 → is_report_id id ≡ false
unfolding length_of
unsized id = go (eqb id hidpp_short) (eqb id hidpp_long) (eqb id dj_short) (eqb id dj_long)
  where
    go : (a b c d : Bool) → row a b c d ≡ 0 → ((a || b) || (c || d)) ≡ false
    go true b c d h = absurd (omega arith)
    go false true c d h = absurd (omega arith)
    go false false true d h = absurd (omega arith)
    go false false false true h = absurd (omega arith)
    go false false false false h = refl

-- an id with a length is one of the four
pub found_sized : (id size : ℕ) → Some size ≡ length_found id → (is_report_id id ≡ true) × ((size ≡ length_of id) × (shortest_size ≤ size))
found_sized id size h = go (length_of id) refl h
  where
    go : (n : ℕ) → n ≡ length_of id → Some size ≡ cond (eqb n 0) None (Some n) → (is_report_id id ≡ true) × ((size ≡ length_of id) × (shortest_size ≤ size))
    go zero e h = absurd (grind arith)
    go (suc n) e h =
        let same : size ≡ suc n = grind arith in
        let known = sized id (λ z. omega arith) in
        (known.0, (same ∙ e, subst (λ (m : ℕ). shortest_size ≤ m) (sym (same ∙ e)) known.1))

-- and one without is none of them
pub none_unsized : (id : ℕ) → None ≡ length_found id → is_report_id id ≡ false
none_unsized id h = go (length_of id) refl h
  where
    go : (n : ℕ) → n ≡ length_of id → ◌≡◌ {A = Option ℕ} None (cond (eqb n 0) None (Some n)) → is_report_id id ≡ false
    go zero e h = unsized id (sym e)
    go (suc n) e h = absurd (grind arith)
