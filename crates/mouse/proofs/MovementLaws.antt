-- Laws of two's complement, each for every width.
use Rattle.std.specs.Prelude.{ℕ, zero, suc, ◌+◌, ◌-◌, ◌^◌, ◌≤◌, ◌<◌, Bool, true, false, ◌≡◌, refl, ltb, ℤ, pos, negsuc, neg_ℤ, ◌-ℤ◌, ◌≤ℤ◌}
use Rattle.std.proofs.Common.{◌∙◌, ap, arith, lit≤, le→leb, lt-ltb, le-ltb, ltb-true, ltb-false}
use Rattle.std.specs.Int.Signed.{mag, le_z_yes}
use Rattle.mouse.specs.Movement.{signed}

-- from −2^(width−1) to 2^(width−1)−1
pub record InWidth (width : ℕ) (z : ℤ) : Type 0 where
  pub least : neg_ℤ (pos (2 ^ (width - 1))) ≤ℤ z
  pub most : z ≤ℤ pos (2 ^ (width - 1) - 1)

pub lower_half : (width n : ℕ) → n < 2 ^ (width - 1) → signed width n ≡ pos n
unfolding signed
lower_half width n h = simp (lt-ltb _ _ h)

pub upper_half : (width n : ℕ) → 2 ^ (width - 1) ≤ n → signed width n ≡ pos n -ℤ pos (2 ^ width)
unfolding signed
upper_half width n h = simp (le-ltb _ _ h)

-- equal, except at width 0, which has one number
halves : (width : ℕ) → 2 ^ width ≤ 2 ^ (width - 1) + 2 ^ (width - 1)
halves zero = lit≤ tt
halves (suc k) = let e : suc k - 1 ≡ k = omega arith in rw e (omega arith)

pub below : (a b : ℕ) → a < b → pos a -ℤ pos b ≡ negsuc (b - suc a)
below a zero h = absurd (omega arith)
below a (suc b) h = simp (lt-ltb a (suc b) h)

-- both ends of the range in one bound: `mag` is n at n and at −(n + 1)
pub magnitude : (width n : ℕ) → n < 2 ^ width → mag (signed width n) < 2 ^ (width - 1)
magnitude width n h = by (ltb n (2 ^ (width - 1))) refl
  where
    by : (b : Bool) → ltb n (2 ^ (width - 1)) ≡ b → mag (signed width n) < 2 ^ (width - 1)
    by true e = let l : n < 2 ^ (width - 1) = ltb-true _ _ e in rw (lower_half width n l) l
    by false e =
        let l : 2 ^ (width - 1) ≤ n = ltb-false _ _ e in
        rw (upper_half width n l, below n (2 ^ width) h) (omega (arith, halves width))

bounds : (half : ℕ) (z : ℤ) → mag z < half → (neg_ℤ (pos half) ≤ℤ z) × (z ≤ℤ pos (half - 1))
bounds zero z h = absurd (omega arith)
bounds (suc k) (pos n) h = (le_z_yes tt, le_z_yes (le→leb n (suc k - 1) (omega arith)))
bounds (suc k) (negsuc n) h = (le_z_yes (le→leb n k (omega arith)), le_z_yes tt)

pub range : (width n : ℕ) → n < 2 ^ width → InWidth width (signed width n)
range width n h =
    let b : (neg_ℤ (pos (2 ^ (width - 1))) ≤ℤ signed width n) × (signed width n ≤ℤ pos (2 ^ (width - 1) - 1)) = bounds _ _ (magnitude width n h) in
    record { least = b.0; most = b.1 }

-- and every number of the range is that of some bits
pub reached : (width : ℕ) (z : ℤ) → 0 < width → mag z < 2 ^ (width - 1) → (n : ℕ) × (n < 2 ^ width) × (signed width n ≡ z)
reached zero z positive h = absurd (omega arith)
reached (suc k) (pos n) _ h =
    let e : suc k - 1 ≡ k = omega arith in
    let l : n < 2 ^ k = rw e at h in
    (n, omega arith, lower_half (suc k) n h)
reached (suc k) (negsuc n) _ h =
    let e : suc k - 1 ≡ k = omega arith in
    let l : n < 2 ^ k = rw e at h in
    let u : 2 ^ (suc k - 1) ≤ 2 ^ suc k - suc n = rw e (omega arith) in
    let b : 2 ^ suc k - suc (2 ^ suc k - suc n) ≡ n = omega arith in
    (2 ^ suc k - suc n, omega arith, upper_half (suc k) _ u ∙ below (2 ^ suc k - suc n) (2 ^ suc k) (omega arith) ∙ ap negsuc b)
