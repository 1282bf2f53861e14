-- Laws of what the program finds at a HID++ report: the slot of a feature, and the kind of an error.
use Rattle.std.specs.Prelude.{ℕ, ◌<◌, ◌≤◌, ◌≡◌, refl, Bool, true, false, cond, not, ◌&&◌, length, ltb, eqb, Some, None}
use Rattle.std.proofs.Common.{sym, ◌∙◌, ap, subst, ltb-true, ltb-false}
use Rattle.std.proofs.lemmas.List.{get_or_past}
use Rattle.std.proofs.lemmas.Option.{cond_some, none-some}
use Rattle.report.specs.declared.FeatureIndex.{FeatureIndex}
use Rattle.port.specs.declared.Port.{Port}
use Rattle.port.specs.Records.{feature_count, slot_of, feature_at}
use Rattle.hidpp.specs.HidppRecords.{holds}
use Rattle.hidpp.specs.HidppTaking.{is_error}
use Rattle.hidpp.specs.HidppContracts.{slot_found, error_found}

nothing : {A : Type 0} (b : Bool) (x : A) → None ≡ cond b (Some x) None → b ≡ false
nothing true x e = absurd (none-some x e)
nothing false x e = refl

-- a slot that is found is the rules', and below their number
pub slot_some : (feature : ℕ) {slot : ℕ} → Some slot ≡ slot_found feature → (slot ≡ slot_of feature) × (slot < feature_count)
unfolding slot_found
slot_some feature {slot} e =
    let h = cond_some (ltb (slot_of feature) feature_count) (slot_of feature) slot (sym e) in
    (sym h.1, subst (λ (n : ℕ). n < feature_count) h.1 (ltb-true _ _ h.0))

-- and where none is found, the rules' is past the last
pub slot_none : (feature : ℕ) → None ≡ slot_found feature → feature_count ≤ slot_of feature
unfolding slot_found
slot_none feature e = ltb-false _ _ (nothing _ _ e)

-- there a port holds no index
pub none_held : (p : Port) (feature index : ℕ) → length p.features ≤ slot_of feature → false ≡ holds p feature index
none_held p feature index h = sym (ap held (get_or_past p.features (slot_of feature) (record { 0 = 0 }) h))
  where
    held : FeatureIndex → Bool
    held f = not (eqb f.0 0) && eqb f.0 index

-- else it holds the one of that slot
pub some_held : (p : Port) (feature index : ℕ) {slot held : ℕ} → slot ≡ slot_of feature → held ≡ feature_at p.features slot → (not (eqb held 0) && eqb held index) ≡ holds p feature index
some_held p feature index s h = ap (λ (n : ℕ). not (eqb n 0) && eqb n index) (h ∙ ap (feature_at p.features) s)

-- a kind is found exactly of an error, and is that of byte 2
pub error_some : (byte2 : ℕ) {number : ℕ} → Some number ≡ error_found byte2 → (is_error byte2 ≡ true) × (number ≡ byte2)
error_some byte2 {number} e =
    let h = cond_some (is_error byte2) byte2 number (sym e) in
    (h.0, sym h.1)

pub error_none : (byte2 : ℕ) → None ≡ error_found byte2 → is_error byte2 ≡ false
error_none byte2 e = nothing (is_error byte2) byte2 e
