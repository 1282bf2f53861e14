-- Helpers of contracts: bytes moved down in the input buffer.
use Rattle.std.specs.Prelude.{ℕ, ◌+◌, ◌-◌, ◌≡◌, List, ◌++◌, take, drop}

-- the bytes of b between two offsets are at another one in b₁, behind those before it
pub record Moves (to from end : ℕ) (b : List ℕ) (r : ℕ) (b₁ : List ℕ) : Type 0 where
  pub next : r ≡ to + (end - from)
  pub text : take r b₁ ≡ take to b ++ drop from (take end b)
