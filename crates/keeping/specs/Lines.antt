-- Document 02, Ask 3: what a text is, in words free of any loop. A store, a text of another edition, or a text whose line of a number is the first that breaks the rules.
use Rattle.std.specs.Prelude.{ℕ, zero, suc, ◌-◌, ◌≡◌, ◌⊎◌, cond, List, [], ◌∷◌, ◌++◌, eqb}
use Rattle.port.specs.declared.Port.{Port}
use Rattle.text.specs.Words.{newline}
use Rattle.store.specs.Stores.{edition, edition_line, Store}

-- the first n lines, each with its newline; the whole text where it has fewer, and a last line without a newline counts
unfoldable pub first_lines : ℕ → List ℕ → List ℕ
first_lines n [] = []
first_lines zero (c ∷ text) = []
first_lines (suc n) (c ∷ text) = c ∷ first_lines (cond (eqb c newline) n (suc n)) text

-- a store of edition 1, of some ports
abbrev pub IsStore : List ℕ → Type 0
IsStore text = (ports : List Port) × Store text ports

-- the first line, newline included, is "pads", a tab and a decimal number other than 1 without a leading zero, of any length
abbrev pub OtherEdition : List ℕ → Type 0
OtherEdition text = (n : ℕ) × ((rest : List ℕ) × ((¬ (n ≡ edition)) × (text ≡ edition_line n ++ rest)))

-- it is of no other edition, lines 1 to n − 1 are a store (or n is 1), and lines 1 to n are not
abbrev pub BrokenAt : List ℕ → ℕ → Type 0
BrokenAt text n =
    (¬ OtherEdition text) × (((n ≡ 1) ⊎ IsStore (first_lines (n - 1) text)) × (¬ IsStore (first_lines n text)))

-- every text is exactly one of the three, a store of one list of ports, and broken at one line
pub record OneOf (text : List ℕ) : Type 0 where
  pub some : IsStore text ⊎ (OtherEdition text ⊎ ((n : ℕ) × BrokenAt text n))
  pub no_other : IsStore text → ¬ OtherEdition text
  pub unbroken : IsStore text → (n : ℕ) → ¬ BrokenAt text n
  pub other_unbroken : OtherEdition text → (n : ℕ) → ¬ BrokenAt text n
  pub one_store : (ports others : List Port) → Store text ports → Store text others → ports ≡ others
  pub one_line : (m n : ℕ) → BrokenAt text m → BrokenAt text n → m ≡ n
