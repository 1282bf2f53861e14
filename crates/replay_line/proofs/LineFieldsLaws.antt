-- Laws of reading the words of a call one after another: no word as a value, a value up to a limit, and bytes to the end.
use Rattle.std.specs.Prelude.{ℕ, ◌+◌, ◌≤◌, ◌<◌, Bool, true, false, leb, take, set, Option, None, Some}
use Rattle.std.specs.Bool.{then_some}
use Rattle.std.proofs.Math.Path.{◌≡◌, refl, sym}
use Rattle.std.proofs.Common.{◌∙◌, ap, add-one, arith, length-take-le, take-suc-set, le-leb}
use Rattle.std.proofs.Math.Bool.{cond}
use mathlib.Core.List.{List, [], ◌∷◌, ◌++◌, append_assoc, append-nil}
use Rattle.std.proofs.Math.ListN.{length, length-append}
use Rattle.std.proofs.lemmas.Bool.{lt-leb}
use Rattle.replay_line.specs.LineWords.{words, no_word}
use Rattle.replay_line.specs.LineContracts.{bytes_listed}
use Rattle.replay_line.specs.LineValues.{hex_byte, number}
use Rattle.replay_line.specs.LineFields.{NextValue, nothing, got, valued, first, up_to, in_front, bytes_of, limited}

pub no_byte : hex_byte [] ≡ None
unfolding hex_byte
no_byte = refl

pub no_number : number [] ≡ None
unfolding number
no_number = refl

-- the first word as a number up to a limit
module _ (limit : ℕ) where
  abbrev pub within : NextValue ℕ → NextValue ℕ
  within nothing = nothing
  within (got n following) = cond (leb n limit) (got n following) nothing

  valued_within : (n : ℕ) (following : List (List ℕ)) (t : Bool) → valued (cond t (Some n) None) following ≡ cond t (got n following) nothing
  valued_within n following true = refl
  valued_within n following false = refl

  pub first_within : (given : List (List ℕ)) → first (λ (w : List ℕ). up_to limit (number w)) given ≡ within (first number given)
  first_within [] = refl
  first_within (word ∷ following) = by (number word)
    where
      by : (o : Option ℕ) → valued (up_to limit o) following ≡ within (valued o following)
      by None = refl
      by (Some n) = valued_within n following (leb n limit)

-- bytes after others
abbrev pub after : List ℕ → Option (List ℕ) → Option (List ℕ)
after read None = None
after read (Some bytes) = Some (read ++ bytes)

pub after_nothing : (o : Option (List ℕ)) → o ≡ after [] o
after_nothing None = refl
after_nothing (Some bytes) = refl

after_one : (read : List ℕ) (b : ℕ) (o : Option (List ℕ)) → after read (in_front (Some b) o) ≡ after (read ++ (b ∷ [])) o
after_one read b None = refl
after_one read b (Some bytes) = ap Some (sym (append_assoc read (b ∷ []) bytes))

one_byte : (given : List (List ℕ)) {b : ℕ} {following : List (List ℕ)} → first hex_byte given ≡ got b following → bytes_of given ≡ in_front (Some b) (bytes_of following)
unfolding bytes_of
one_byte [] e = absurd (let z : ◌≡◌ {A = ℕ} 0 1 = cc in omega arith)
one_byte (word ∷ rest) {b} {following} e = by (hex_byte word) e
  where
    by : (o : Option ℕ) → valued o rest ≡ got b following → in_front o (bytes_of rest) ≡ in_front (Some b) (bytes_of following)
    by None e = absurd (let z : ◌≡◌ {A = ℕ} 0 1 = cc in omega arith)
    by (Some n) e =
        let same : n ≡ b = cc in
        let left : rest ≡ following = cc in
        ap (λ (m : ℕ). in_front (Some m) (bytes_of rest)) same ∙ ap (λ (l : List (List ℕ)). in_front (Some b) (bytes_of l)) left

-- at most so many
module _ (most : ℕ) where
  whole : (read : List ℕ) → length read ≤ most → Some read ≡ limited most (Some (read ++ []))
  whole read h = sym (ap (λ (l : List ℕ). limited most (Some l)) (append-nil read) ∙ ap (λ (t : Bool). cond t (Some read) None) (le-leb (length read) most h))

  -- a word that is no byte
  stopped_by : (read : List ℕ) (given : List (List ℕ)) → length read ≤ most → first hex_byte given ≡ nothing → cond (no_word given) (Some read) None ≡ limited most (after read (bytes_of given))
  unfolding bytes_of
  stopped_by read [] h e = whole read h
  stopped_by read (word ∷ rest) h e = by (hex_byte word) e
    where
      by : (o : Option ℕ) → valued o rest ≡ nothing → None ≡ limited most (after read (in_front o (bytes_of rest)))
      by None e = refl
      by (Some n) e = absurd (let z : ◌≡◌ {A = ℕ} 0 1 = cc in omega arith)

  -- a word after the last byte
  full_by : (read : List ℕ) (given : List (List ℕ)) → length read ≡ most → cond (no_word given) (Some read) None ≡ limited most (after read (bytes_of given))
  unfolding bytes_of
  full_by read [] h = whole read (omega (arith, h))
  full_by read (word ∷ rest) h = by (hex_byte word) (bytes_of rest)
    where
      by : (o : Option ℕ) (left : Option (List ℕ)) → None ≡ limited most (after read (in_front o left))
      by None left = refl
      by (Some n) None = refl
      by (Some n) (Some bytes) =
          let more : most < length (read ++ (n ∷ bytes)) = omega (arith, h, length-append read (n ∷ bytes)) in
          sym (ap (λ (t : Bool). cond t (Some (read ++ (n ∷ bytes))) None) (lt-leb _ most more))

-- the loop's state: `count` bytes are read, and the words of `rest` are left
pub record Collecting (text rest bytes : List ℕ) (count : ℕ) : Type 0 where
  pub so : bytes_of (words text) ≡ after (take count bytes) (bytes_of (words rest))

module _ {text rest bytes : List ℕ} {count : ℕ} (s : Collecting text rest bytes count) where
  pub collect_more : {b : ℕ} {left : List ℕ} → count < length bytes → got b (words left) ≡ first hex_byte (words rest) → Collecting text left (set bytes count b) (count + 1)
  collect_more {b} {left} h e =
      record {
        so =
            s.so
            ∙ ap (after (take count bytes)) (one_byte (words rest) (sym e))
            ∙ after_one (take count bytes) b (bytes_of (words left))
            ∙ ap (λ (l : List ℕ). after l (bytes_of (words left))) (sym (ap (λ (n : ℕ). take n (set bytes count b)) (add-one count) ∙ take-suc-set bytes count b h));
      }

  module _ {t : Bool} (last : t ≡ no_word (words rest)) (within : count ≤ length bytes) where
    read_so_far : length (take count bytes) ≡ count
    read_so_far = length-take-le count bytes within

    listed : {r : Option ℕ} → r ≡ then_some t count → bytes_listed r bytes ≡ cond (no_word (words rest)) (Some (take count bytes)) None
    listed found = ap (λ (o : Option ℕ). bytes_listed o bytes) (found ∙ ap (λ (t : Bool). then_some t count) last) ∙ by (no_word (words rest))
      where
        by : (t : Bool) → bytes_listed (then_some t count) bytes ≡ cond t (Some (take count bytes)) None
        by true = refl
        by false = refl

    pub collect_stopped : {most : ℕ} {r : Option ℕ} → r ≡ then_some t count → count ≤ most → nothing ≡ first hex_byte (words rest) → bytes_listed r bytes ≡ limited most (bytes_of (words text))
    collect_stopped {most} found h e =
        listed found
        ∙ stopped_by most (take count bytes) (words rest) (omega (arith, read_so_far)) (sym e)
        ∙ ap (limited most) (sym s.so)

    pub collect_full : {most n : ℕ} {r : Option ℕ} → r ≡ then_some t n → n ≡ count → most ≡ count → bytes_listed r bytes ≡ limited most (bytes_of (words text))
    collect_full {most} {n} found all h =
        listed (found ∙ ap (then_some t) all)
        ∙ full_by most (take count bytes) (words rest) (omega (arith, read_so_far))
        ∙ ap (limited most) (sym s.so)
