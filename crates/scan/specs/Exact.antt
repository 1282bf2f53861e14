-- Document 02, Ask 3: a rule that reads a text, and the text that is written of what it reads.
use Rattle.std.specs.Prelude.{ℕ, ◌^◌, ◌≤◌, ◌<◌, ◌≡◌, List, ◌++◌, Option, Some, None}
use Rattle.port.specs.declared.Version.{Version}
use Rattle.text.specs.Texts.{digits32}
use Rattle.scan.specs.Scans.{Scan, found, byte_last}

-- the rule finds a value exactly where its text is at the front, of the values that fit
pub record Reads {A : Type 0} (Fits : A → Type 0) (text : A → List ℕ) (rule : List ℕ → Scan A) : Type 0 where
  pub sound : (s : List ℕ) (a : A) (rest : List ℕ) → rule s ≡ found a rest → Fits a × (s ≡ text a ++ rest)
  pub complete : (a : A) → Fits a → (rest : List ℕ) → rule (text a ++ rest) ≡ found a rest

-- numbers as wide as their fields: 32 bits, and a byte
abbrev pub SerialFits : Option ℕ → Type 0
SerialFits None = Unit
SerialFits (Some number) = number < 16 ^ digits32

abbrev pub VersionFits : Option Version → Type 0
VersionFits None = Unit
VersionFits (Some version) = (version.major ≤ byte_last) × (version.minor ≤ byte_last)
