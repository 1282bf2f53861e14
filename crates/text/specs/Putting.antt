-- Text put into a lent buffer from an offset on: as much of it as fits, or all of it or nothing.
use Rattle.std.specs.Prelude.{ℕ, ◌+◌, ◌-◌, ◌≤◌, ◌≡◌, List, cond, length, take}
use Rattle.std.specs.Borrow.{MutBor}
use Rattle.frame.specs.Writing.{fits_at, pasted}
use Rattle.text.specs.declared.Out.{Out}

-- what putting a text leaves: the offset after it, and the lent buffer
pub record Filled : Type 0 where
  pub next : ℕ
  pub lent : List ℕ

abbrev pub filled : ℕ → List ℕ → Filled
filled next lent = record { next = next; lent = lent }

-- what fits of a text between the offset and the buffer's end: all of it where there is room
abbrev pub fitting : List ℕ → ℕ → List ℕ → List ℕ
fitting text at lent = take (length lent - at) text

-- what fits is at the offset; the bytes before and after it keep their values
unfoldable pub put_rule : List ℕ → ℕ → List ℕ → Filled
put_rule text at lent =
    filled (at + length (fitting text at lent)) (pasted (fitting text at lent) at lent)

-- a text is put at an offset of the buffer b, and leaves the next offset and the buffer b₁; it is no longer than `most`
pub record Puts (most : ℕ) (text : List ℕ) (at : ℕ) (b : List ℕ) (next : ℕ) (b₁ : List ℕ) : Type 0 where
  pub put : filled next b₁ ≡ put_rule text at b
  pub short : length text ≤ most

-- all of a text or nothing: where `most` bytes fit between the offset and the buffer's end, the whole text is at the offset, and the bytes before and after it keep their values; else nothing is put, and the offset after it is the same
unfoldable pub whole_rule : (most : ℕ) → List ℕ → ℕ → List ℕ → Filled
whole_rule most text at lent =
    cond (fits_at most at (length lent)) (filled (at + length text) (pasted text at lent))
    (filled at lent)

-- the same of a lent buffer with its offset: the buffer stays the one that was lent
pub record Outputs (most : ℕ) (text : List ℕ) (o o₁ : Out) : Type 0 where
  pub puts : Puts most text o.at o.buffer.now o₁.at o₁.buffer.now
  pub same : o.buffer.ghost_name ≡ o₁.buffer.ghost_name

-- all of a text or nothing
pub record OutputsWhole (most : ℕ) (text : List ℕ) (o o₁ : Out) : Type 0 where
  pub whole : filled o₁.at o₁.buffer.now ≡ whole_rule most text o.at o.buffer.now
  pub same : o.buffer.ghost_name ≡ o₁.buffer.ghost_name

-- a call of a function puts the text
abbrev pub PutsWith : (MutBor Out → Unit {0} → MutBor Out → Type 0) → ℕ → List ℕ → Type 0
PutsWith post most text = (o o₁ : MutBor Out) → post o tt o₁ → Outputs most text o.now o₁.now
