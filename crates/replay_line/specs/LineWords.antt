-- docs/SCRIPTS.md, "Lines": the words of a line, parted by one or more spaces. No other character parts words.
use Rattle.std.specs.Prelude.{ℕ, Bool, true, false, cond, ◌&&◌, List, [], ◌∷◌, ◌++◌, eqb}

abbrev pub space : ℕ
space = 32

-- what is read of a word before the words that follow; nothing read is no word
abbrev pub closed : List ℕ → List (List ℕ) → List (List ℕ)
closed [] following = following
closed (c ∷ word) following = (c ∷ word) ∷ following

-- the words of a text, of whose first word something is read already
unfoldable pub words_after : (read : List ℕ) → List ℕ → List (List ℕ)
words_after read [] = closed read []
words_after read (c ∷ text) =
    cond (eqb c space) (closed read (words_after [] text))
    (words_after (read ++ (c ∷ [])) text)

unfoldable pub words : List ℕ → List (List ℕ)
words text = words_after [] text

-- whether two words are the same, character by character
unfoldable pub same_word : List ℕ → List ℕ → Bool
same_word [] [] = true
same_word [] (y ∷ ys) = false
same_word (x ∷ xs) [] = false
same_word (x ∷ xs) (y ∷ ys) = eqb x y && same_word xs ys

-- whether no word is left
abbrev pub no_word : List (List ℕ) → Bool
no_word [] = true
no_word (word ∷ following) = false
