-- docs/SCRIPTS.md, "Lines": a line that fills the input buffer, made shorter.
use Rattle.std.specs.Prelude.{ℕ, suc, ◌-◌, Bool, false, cond, ◌&&◌, List, [], ◌∷◌, ◌++◌, length, take, drop, eqb, leb, ltb}
use Rattle.replay_line.specs.LineWords.{space}

-- a space after another one
abbrev pub is_spare : ℕ → Bool → Bool
is_spare c after = eqb c space && after

-- one space of every run of spaces; whether a space comes before the text
unfoldable pub squeezed : (after : Bool) → List ℕ → List ℕ
squeezed after [] = []
squeezed after (c ∷ text) =
    cond (is_spare c after) (squeezed after text) (c ∷ squeezed (eqb c space) text)

-- the last byte stays as it is: it may be a carriage return
unfoldable pub squeezed_line : List ℕ → List ℕ
squeezed_line line = squeezed false (take (length line - 1) line) ++ drop (length line - 1) line

-- a round limit: with one space between its words no call is longer than `call_most` (crate replay_line, LineBoundsLaws), and CutLaws shows that it is enough
abbrev pub longest : ℕ
longest = 16384

-- what is still longer is cut
abbrev pub is_cut : List ℕ → Bool
is_cut line = leb (suc longest) (length (squeezed_line line))

unfoldable pub shortened : List ℕ → List ℕ
shortened line = cond (is_cut line) (take longest (squeezed_line line)) (squeezed_line line)

-- what is held of a part of a line: all of it where a buffer of this size has room after it
abbrev pub held_text : (size : ℕ) → List ℕ → List ℕ
held_text size part = cond (ltb (length part) size) part (shortened part)

-- whether the rest of the line is passed over
abbrev pub held_cut : (size : ℕ) → List ℕ → Bool
held_cut size part = cond (ltb (length part) size) false (is_cut part)
