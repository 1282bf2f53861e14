-- Laws of a line made shorter by cutting it: it is no call, or a comment, as the whole line is.
use Rattle.std.specs.Prelude.{ℕ, zero, suc, ◌+◌, ◌-◌, ◌≤◌, ◌≡◌, refl, Bool, cond, ◌&&◌, eqb, take}
use Rattle.std.proofs.Common.{sym, ◌∙◌, arith, lit≤, length-take-le, take-take}
use Rattle.std.proofs.Math.Path.{ap}
use Rattle.std.proofs.Math.Bool.{true, false}
use mathlib.Core.List.{List, [], ◌∷◌, ◌++◌, append_assoc}
use Rattle.std.proofs.Math.ListN.{length, drop, length-append}
use Rattle.std.proofs.lemmas.List.{take-append-le}
use Rattle.std.proofs.Math.Seq.{take-append_seam, drop-append_seam}
use borrow.Author.Tests.{leb-true}
use Rattle.report.specs.Sizes.{byte}
use Rattle.replay_line.specs.LineWords.{space, words_after, words}
use Rattle.replay_line.specs.Commands.{Command, blank, no_call}
use Rattle.replay_line.specs.LineCalls.{command_in, without_return, text_rule, line_rule}
use Rattle.replay_feed.specs.LongLines.{squeezed, squeezed_line, longest, is_cut, shortened}
use Rattle.replay_feed.proofs.ShortLaws.{return_behind, nonempty_text, first_kept, same_line}
use Rattle.replay_line.proofs.LineBoundsLaws.{size_of, call_most, long_is_none}

-- what is left of a text is no longer than its words with a space after each, except for a space at the front
record Counted (text : List ℕ) : Type 0 where
  begun : (r : ℕ) (read : List ℕ) → suc (length read) + length (squeezed false text) ≤ size_of (words_after (r ∷ read) text)
  after : length (squeezed true text) ≤ size_of (words_after [] text)
  whole : length (squeezed false text) ≤ size_of (words_after [] text) + 1

module _ (c : ℕ) (text : List ℕ) (following : Counted text) where
  one_more : (t : Bool) → eqb c space ≡ t → Counted (c ∷ text)
  unfolding squeezed words_after size_of
  one_more true e =
      record {
        begun = λ r read. simp e (omega (arith, following.after));
        after = simp e following.after;
        whole = simp e (omega (arith, following.after));
      }
  one_more false e =
      record {
        begun = λ r read. simp e (omega (arith, following.begun r (read ++ (c ∷ [])), length-append read (c ∷ [])));
        after = simp e (omega (arith, following.begun c []));
        whole = simp e (omega (arith, following.begun c []));
      }

counted : (text : List ℕ) → Counted text
unfolding squeezed words_after size_of
counted [] = record { begun = λ r read. omega arith; after = omega arith; whole = omega arith }
counted (c ∷ text) = one_more c text (counted text) (eqb c space) refl

-- a longer text leaves no less
either_longer : (t : Bool) (c : ℕ) (a b x y : List ℕ) → length a ≤ length x → length b ≤ length y → length (cond t a (c ∷ b)) ≤ length (cond t x (c ∷ y))
either_longer true c a b x y p q = p
either_longer false c a b x y p q = omega (arith, q)

longer : (after : Bool) (text more : List ℕ) → length (squeezed after text) ≤ length (squeezed after (text ++ more))
unfolding squeezed
longer after [] more = omega arith
longer after (c ∷ text) more =
    either_longer (eqb c space && after) c _ _ _ _ (longer after text more) (longer (eqb c space) text more)

-- a text of which as much as this is left is no call: one byte more than any call, and a space at the front
abbrev too_long : ℕ
too_long = call_most + 2

none_called : (text : List ℕ) → too_long ≤ length (squeezed false text) → command_in (words text) ≡ no_call
unfolding words
none_called text h = long_is_none (words_after [] text) (omega (arith, h, (counted text).whole))

-- the front of what is left has no run of spaces
abbrev KeptFront : Bool → ℕ → List ℕ → Type 0
KeptFront after n text = squeezed after (take n (squeezed after text)) ≡ take n (squeezed after text)

front_by : (after : Bool) (n c : ℕ) (text : List ℕ) → KeptFront after (suc n) text → KeptFront (eqb c space) n text → (t : Bool) → eqb c space && after ≡ t → squeezed after (take (suc n) (cond t (squeezed after text) (c ∷ squeezed (eqb c space) text))) ≡ take (suc n) (cond t (squeezed after text) (c ∷ squeezed (eqb c space) text))
unfolding squeezed
front_by after n c text same next true e = same
front_by after n c text same next false e = simp e (ap (λ (l : List ℕ). c ∷ l) next)

kept_front : (after : Bool) (n : ℕ) (text : List ℕ) → KeptFront after n text
unfolding squeezed
kept_front after zero text = refl
kept_front after (suc n) [] = refl
kept_front after (suc n) (c ∷ text) =
    front_by after n c text (kept_front after (suc n) text) (kept_front (eqb c space) n text) (eqb c space && after) refl

-- the first byte alone decides where the words of a text are no call
by_first_byte : (c : ℕ) (text : List ℕ) → command_in (words (c ∷ text)) ≡ no_call → text_rule (c ∷ text) ≡ cond (eqb c 35) blank no_call
by_first_byte c text e =
    nonempty_text c text ∙ ap (λ (k : Command). cond (eqb c 35) blank k) e

-- the front of a text that is too long
module _ (c : ℕ) (text : List ℕ) (n : ℕ) (long : too_long ≤ suc n) (enough : suc n ≤ length (squeezed false (c ∷ text))) where
  front_text : text_rule (take (suc n) (squeezed false (c ∷ text))) ≡ cond (eqb c 35) blank no_call
  front_text =
      ap text_rule begins
      ∙ by_first_byte c (take n (squeezed (eqb c space) text)) (ap (λ (l : List ℕ). command_in (words l)) (sym begins) ∙ none_called (take (suc n) (squeezed false (c ∷ text))) size)
    where
      begins : take (suc n) (squeezed false (c ∷ text)) ≡ c ∷ take n (squeezed (eqb c space) text)
      begins = ap (take (suc n)) (first_kept c text)

      size : too_long ≤ length (squeezed false (take (suc n) (squeezed false (c ∷ text))))
      size =
          omega (arith, long, ap length (kept_front false (suc n) (c ∷ text)), length-take-le (suc n) (squeezed false (c ∷ text)) enough)

-- with or without a carriage return at its end
return_or_not : (n : ℕ) (line : List ℕ) (t : Bool) {command : Command} → suc n ≤ length line → text_rule (take n line) ≡ command → text_rule (take (suc n) line) ≡ command → text_rule (cond t (take (length (take (suc n) line) - 1) (take (suc n) line)) (take (suc n) line)) ≡ command
return_or_not n line true h p q =
    ap text_rule (ap (λ (k : ℕ). take k (take (suc n) line)) shorter ∙ take-take n (suc n) line (omega arith)) ∙ p
  where
    shorter : length (take (suc n) line) - 1 ≡ n
    shorter = omega (arith, length-take-le (suc n) line h)
return_or_not n line false h p q = q

cut_front : (c : ℕ) (text : List ℕ) (m : ℕ) → too_long ≤ suc m → suc (suc m) ≤ length (squeezed false (c ∷ text)) → line_rule (take (suc (suc m)) (squeezed false (c ∷ text))) ≡ cond (eqb c 35) blank no_call
unfolding line_rule without_return
cut_front c text m long enough =
    return_or_not (suc m) (squeezed false (c ∷ text)) (eqb (byte (take (suc (suc m)) (squeezed false (c ∷ text))) (length (take (suc (suc m)) (squeezed false (c ∷ text))) - 1)) 13) enough (front_text c text m long (omega (arith, enough))) (front_text c text (suc m) (omega (arith, long)) enough)

whole_line : (c : ℕ) (text : List ℕ) (last : ℕ) (rest : List ℕ) → too_long ≤ length (squeezed false (c ∷ text)) → line_rule ((c ∷ text) ++ (last ∷ rest)) ≡ cond (eqb c 35) blank no_call
unfolding line_rule
whole_line c text last rest long =
    ap text_rule (return_behind (c ∷ text) last rest)
    ∙ by_first_byte c (text ++ without_return (last ∷ rest)) (none_called ((c ∷ text) ++ without_return (last ∷ rest)) (omega (arith, long, longer false (c ∷ text) (without_return (last ∷ rest)))))

cut_line : (front : List ℕ) (last : ℕ) (rest : List ℕ) → longest ≤ length (squeezed false front) → line_rule (take longest (squeezed false front)) ≡ line_rule (front ++ (last ∷ rest))
unfolding squeezed
cut_line [] last rest h = absurd (omega (arith, h))
cut_line (c ∷ text) last rest h =
    cut_front c text (longest - 2) (lit≤ tt) h ∙ sym (whole_line c text last rest (omega (arith, h)))

-- a line that is made shorter and goes on, or is cut, is the call that it is whole
module _ (front : List ℕ) (last : ℕ) where
  abbrev line : List ℕ
  line = front ++ (last ∷ [])

  squeezed_line_law : squeezed_line line ≡ squeezed false front ++ (last ∷ [])
  unfolding squeezed_line
  squeezed_line_law =
      let n : length line - 1 ≡ length front = omega (arith, length-append front (last ∷ [])) in
      ap (λ (k : ℕ). squeezed false (take k line) ++ drop k line) n
      ∙ ap (λ (l : List ℕ). squeezed false l ++ drop (length front) line) (take-append_seam front (last ∷ []))
      ∙ ap (λ (l : List ℕ). squeezed false front ++ l) (drop-append_seam front (last ∷ []))

  pub going_on : is_cut line ≡ false → (rest : List ℕ) → line_rule (shortened line ++ rest) ≡ line_rule (line ++ rest)
  unfolding shortened
  going_on e rest =
      ap (λ (t : Bool). line_rule (cond t (take longest (squeezed_line line)) (squeezed_line line) ++ rest)) e
      ∙ ap (λ (l : List ℕ). line_rule (l ++ rest)) squeezed_line_law
      ∙ ap line_rule (append_assoc (squeezed false front) (last ∷ []) rest)
      ∙ same_line front last rest
      ∙ ap line_rule (sym (append_assoc front (last ∷ []) rest))

  pub cut_off : is_cut line ≡ true → (rest : List ℕ) → line_rule (shortened line) ≡ line_rule (line ++ rest)
  unfolding shortened
  cut_off e rest =
      ap (λ (t : Bool). line_rule (cond t (take longest (squeezed_line line)) (squeezed_line line))) e
      ∙ ap (λ (l : List ℕ). line_rule (take longest l)) squeezed_line_law
      ∙ ap line_rule (take-append-le longest (squeezed false front) (last ∷ []) enough)
      ∙ cut_line front last rest enough
      ∙ ap line_rule (sym (append_assoc front (last ∷ []) rest))
    where
      enough : longest ≤ length (squeezed false front)
      enough =
          omega (arith, leb-true (suc longest) (length (squeezed_line line)) e, ap length squeezed_line_law, length-append (squeezed false front) (last ∷ []))
