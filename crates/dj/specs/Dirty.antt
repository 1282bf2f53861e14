-- Document 02, Ask 5, in its words: for radio types 1, 2, 3, 4 and 8, the bytes after the payload must all be zero.
use Rattle.std.specs.Prelude.{ℕ, ◌+◌, ◌-◌, ◌≤◌, ◌<◌, ◌≡◌, ◌↔◌, false, List, length}
use Rattle.report.specs.Sizes.{byte, dj_start}
use Rattle.dj.specs.Padding.{is_clean}

-- the types that have padding, each with the length of its payload
pub data Padded : ℕ → ℕ → Type 0 where
  type1 : Padded 1 7
  type2 : Padded 2 7
  type3 : Padded 3 4
  type4 : Padded 4 1
  type8 : Padded 8 1

-- a byte behind the payload is not zero. The payload starts at byte 3
pub record Dirty (kind : ℕ) (bytes : List ℕ) : Type 0 where
  pub payload : ℕ
  pub padded : Padded kind payload
  pub offset : ℕ
  pub behind : 3 + payload ≤ offset
  pub within : offset < length bytes
  pub rubbish : ¬ (byte bytes offset ≡ 0)

-- exactly then
abbrev pub DirtyExactly : ℕ → List ℕ → Type 0
DirtyExactly kind bytes = (is_clean kind (length bytes - dj_start) bytes ≡ false) ↔ Dirty kind bytes
