-- Laws of a line made shorter: it is the same call.
use Rattle.std.specs.Prelude.{ℕ, suc, ◌-◌, ◌≡◌, refl, Bool, cond, ◌&&◌, List, [], ◌∷◌, ◌++◌, eqb, length, take}
use Rattle.std.proofs.Common.{sym, ◌∙◌, ap, arith, ne_eqb}
use Rattle.std.proofs.Math.Bool.{true, false}
use Rattle.report.specs.Sizes.{byte}
use Rattle.replay_line.specs.LineWords.{space, words_after, words}
use Rattle.replay_line.specs.Commands.{blank}
use Rattle.replay_line.specs.LineCalls.{command_in, without_return, text_rule, line_rule}
use Rattle.replay_feed.specs.LongLines.{squeezed}

-- the words are the same: after no space, whatever is read of a word; after a space, where nothing is
record SameWords (text rest : List ℕ) : Type 0 where
  whole : (read : List ℕ) → words_after read (squeezed false text ++ rest) ≡ words_after read (text ++ rest)
  after : words_after [] (squeezed true text ++ rest) ≡ words_after [] (text ++ rest)

module _ (c : ℕ) (text rest : List ℕ) (following : SameWords text rest) where
  one_word_more : (t : Bool) → eqb c space ≡ t → SameWords (c ∷ text) rest
  unfolding squeezed words_after
  one_word_more true e =
      record {
        whole = λ read. simp (e, following.after);
        after = simp (e, following.after);
      }
  one_word_more false e =
      record {
        whole = λ read. simp e (following.whole (read ++ (c ∷ [])));
        after = simp e (following.whole (c ∷ []));
      }

same_words : (text rest : List ℕ) → SameWords text rest
unfolding squeezed
same_words [] rest = record { whole = λ read. refl; after = refl }
same_words (c ∷ text) rest = one_word_more c text rest (same_words text rest) (eqb c space) refl

-- the carriage return is looked for at the end alone
either_behind : (t : Bool) (c : ℕ) (a b : List ℕ) → cond t (c ∷ a) (c ∷ b) ≡ c ∷ cond t a b
either_behind true c a b = refl
either_behind false c a b = refl

one_before : (c d : ℕ) (text : List ℕ) → without_return (c ∷ d ∷ text) ≡ c ∷ without_return (d ∷ text)
unfolding without_return
one_before c d text =
    ap (λ (n : ℕ). cond (eqb (byte (c ∷ d ∷ text) n) 13) (take n (c ∷ d ∷ text)) (c ∷ d ∷ text)) longer
    ∙ either_behind (eqb (byte (d ∷ text) (length text)) 13) c (take (length text) (d ∷ text)) (d ∷ text)
    ∙ ap (λ (n : ℕ). c ∷ cond (eqb (byte (d ∷ text) n) 13) (take n (d ∷ text)) (d ∷ text)) (sym shorter)
  where
    longer : length (c ∷ d ∷ text) - 1 ≡ suc (length text)
    longer = omega arith

    shorter : length (d ∷ text) - 1 ≡ length text
    shorter = omega arith

pub return_behind : (front : List ℕ) (last : ℕ) (rest : List ℕ) → without_return (front ++ (last ∷ rest)) ≡ front ++ without_return (last ∷ rest)
return_behind [] last rest = refl
return_behind (c ∷ []) last rest = one_before c last rest
return_behind (c ∷ d ∷ front) last rest =
    one_before c d (front ++ (last ∷ rest))
    ∙ ap (λ (l : List ℕ). c ∷ l) (return_behind (d ∷ front) last rest)

-- the first byte and the words of a text that is not empty decide
pub nonempty_text : (c : ℕ) (text : List ℕ) → text_rule (c ∷ text) ≡ cond (eqb c 35) blank (command_in (words (c ∷ text)))
unfolding text_rule
nonempty_text c text = simp (ne_eqb (length (c ∷ text)) 0 (λ e. omega arith))

pub first_kept : (c : ℕ) (text : List ℕ) → squeezed false (c ∷ text) ≡ c ∷ squeezed (eqb c space) text
unfolding squeezed
first_kept c text = by (eqb c space)
  where
    by : (t : Bool) → cond (t && false) (squeezed false text) (c ∷ squeezed (eqb c space) text) ≡ c ∷ squeezed (eqb c space) text
    by true = refl
    by false = refl

nothing_squeezed : squeezed false [] ≡ []
unfolding squeezed
nothing_squeezed = refl

same_text : (front rest : List ℕ) → text_rule (squeezed false front ++ rest) ≡ text_rule (front ++ rest)
unfolding words
same_text [] rest = ap (λ (l : List ℕ). text_rule (l ++ rest)) nothing_squeezed
same_text (c ∷ front) rest =
    ap (λ (l : List ℕ). text_rule (l ++ rest)) (first_kept c front)
    ∙ nonempty_text c (squeezed (eqb c space) front ++ rest)
    ∙ ap (λ (ws : List (List ℕ)). cond (eqb c 35) blank (command_in ws)) (sym (ap (λ (l : List ℕ). words_after [] (l ++ rest)) (first_kept c front)) ∙ (same_words (c ∷ front) rest).whole [])
    ∙ sym (nonempty_text c (front ++ rest))

pub same_line : (front : List ℕ) (last : ℕ) (rest : List ℕ) → line_rule (squeezed false front ++ (last ∷ rest)) ≡ line_rule (front ++ (last ∷ rest))
unfolding line_rule
same_line front last rest =
    ap text_rule (return_behind (squeezed false front) last rest)
    ∙ same_text front (without_return (last ∷ rest))
    ∙ ap text_rule (sym (return_behind front last rest))
