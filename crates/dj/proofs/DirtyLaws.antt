-- Laws of dirty padding: the rule is what document 02 says.
use Rattle.std.specs.Prelude.{ℕ, ◌+◌, ◌-◌, ◌≤◌, ◌≡◌, refl, false, List, length}
use Rattle.std.proofs.Common.{sym, ◌∙◌, ap, subst, true≢false, arith, drop_of_length-le}
use Rattle.std.proofs.Math.Decide.{ℕ_discrete}
use borrow.Author.Tests.{ne_eqb}
use Rattle.report.specs.Sizes.{dj_start}
use Rattle.report.specs.Radio.{table_length, payload_length}
use Rattle.dj.specs.Padding.{all_zero, is_clean}
use Rattle.dj.proofs.PaddingLaws.{not_zero, find_rubbish}
use Rattle.dj.specs.Dirty.{Padded, type1, type2, type3, type4, type8, Dirty, DirtyExactly}

-- the length of a padded type's payload is that of the table
payload_of : (kind size payload : ℕ) → Padded kind payload → payload_length kind size ≡ payload
unfolding payload_length table_length
payload_of kind size payload type1 = refl
payload_of kind size payload type2 = refl
payload_of kind size payload type3 = refl
payload_of kind size payload type4 = refl
payload_of kind size payload type8 = refl

-- a type is padded, or its payload is all that follows; 14, which the table has too, only goes down
module _ {P : Type 0} (kind size : ℕ) (up : ¬ (kind ≡ 14)) (padded : Padded kind (payload_length kind size) → P) (whole : payload_length kind size ≡ size → P) where
  -- this type, or another
  type_or : (k : ℕ) → Padded k (payload_length k size) → (¬ (kind ≡ k) → P) → P
  type_or k p other = go (ℕ_discrete kind k)
    where
      go : Dec (kind ≡ k) → P
      go (yes e) = padded (subst (λ (t : ℕ). Padded t (payload_length t size)) (sym e) p)
      go (no n) = other n

  by_type : P
  unfolding payload_length table_length
  by_type =
      type_or 1 type1 (λ n1. type_or 2 type2 (λ n2. type_or 3 type3 (λ n3. type_or 4 type4 (λ n4. type_or 8 type8 (λ n8.
      whole (simp (ne_eqb kind 1 n1, ne_eqb kind 2 n2, ne_eqb kind 3 n3, ne_eqb kind 4 n4, ne_eqb kind 8 n8, ne_eqb kind 14 up)))))))

-- the rule is that of document 02, for every type that goes up
module _ (kind : ℕ) (bytes : List ℕ) (up : ¬ (kind ≡ 14)) where
  abbrev size : ℕ
  size = length bytes - dj_start

  found : is_clean kind size bytes ≡ false → Padded kind (payload_length kind size) → Dirty kind bytes
  found e p =
      let n = find_rubbish bytes (dj_start + payload_length kind size) e in
      record { payload = payload_length kind size; padded = p; offset = n.offset; behind = n.behind; within = n.within; rubbish = n.rubbish }

  none : is_clean kind size bytes ≡ false → payload_length kind size ≡ size → Dirty kind bytes
  none e q =
      let past : length bytes ≤ dj_start + payload_length kind size = omega (arith, q) in
      absurd (true≢false (sym (ap all_zero (drop_of_length-le bytes past)) ∙ e))

  is_so : Dirty kind bytes → is_clean kind size bytes ≡ false
  is_so d =
      let start : dj_start + payload_length kind size ≤ d.offset = omega (arith, payload_of kind size d.payload d.padded, d.behind) in
      not_zero bytes (dj_start + payload_length kind size) d.offset start d.rubbish

  pub dirty_exactly : DirtyExactly kind bytes
  dirty_exactly = (λ e. by_type kind size up (found e) (none e), is_so)
