-- Laws of the choices that the rules are made of: the two ways of a test, and the parts of a joined one.
use Rattle.std.specs.Prelude.{ℕ, ◌≤◌, ◌≡◌, refl, Bool, true, false, cond, ◌&&◌, ◌||◌, leb}
use Rattle.std.proofs.Common.{true≢false, leb-true}
use Rattle.std.proofs.lemmas.Bool.{false≢true}
use Rattle.report.specs.Ports.{in_range}

-- the two ways of a choice
module _ {A : Type 0} (P : A → Type 0) where
  pub by_case : {x y : A} (b : Bool) → (b ≡ true → P x) → (b ≡ false → P y) → P (cond b x y)
  by_case true f g = f refl
  by_case false f g = g refl

pub both : (a b : Bool) → (a && b) ≡ true → (a ≡ true) × (b ≡ true)
both true b e = (refl, e)
both false b e = absurd (false≢true e)

pub neither : (a b : Bool) → (a || b) ≡ false → (a ≡ false) × (b ≡ false)
neither true b e = absurd (true≢false e)
neither false b e = (refl, e)

-- lo to hi
pub in_range_law : (lo n hi : ℕ) → in_range lo n hi ≡ true → (lo ≤ n) × (n ≤ hi)
in_range_law lo n hi e =
    let tests = both (leb lo n) (leb n hi) e in (leb-true lo n tests.0, leb-true n hi tests.1)
