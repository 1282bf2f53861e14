-- Laws of the fields of a call that are read by offsets in its line: the next word as a value, bytes to the end, and its name. No function needs them, since the readers take the rest of a text and keep no offset.
use Rattle.std.specs.Prelude.{ℕ, ◌+◌, ◌≤◌, ◌<◌, Bool, true, false, take, drop, set, Option, None, Some}
use Rattle.std.specs.Bool.{then_some}
use Rattle.std.proofs.Math.Path.{◌≡◌, refl, sym}
use Rattle.std.proofs.Common.{◌∙◌, ap, arith, length-set}
use Rattle.std.proofs.Math.Bool.{cond}
use mathlib.Core.List.{List, [], ◌∷◌}
use Rattle.std.proofs.Math.ListN.{length}
use Rattle.replay_line.specs.LineWords.{words, same_word, no_word}
use Rattle.replay_line.specs.LineValues.{hex_byte}
use Rattle.replay_line.specs.LineFields.{nothing, got, valued, first, bytes_of, limited}
use Rattle.replay_line.specs.LineCalls.{other_rows, writer_rows, table, command_named, command_in}
use Rattle.replay_line.specs.LineContracts.{bytes_listed}
use Rattle.replay_line.proofs.LineFieldsLaws.{after, after_nothing}
use Rattle.replay_line.proofs.LineFieldsLaws as texts
use Rattle.replay_line.proofs.OffsetWordsLaws.{part, word_from, NextWord}

-- the next word as a value
module _ (value : List ℕ → Option ℕ) (empty : value [] ≡ None) where
  one_word : (word : List ℕ) (following : List (List ℕ)) → first value (word_from word following) ≡ valued (value word) following
  one_word [] following = ap (λ (o : Option ℕ). valued o following) (sym empty)
  one_word (c ∷ word) following = refl

  module _ {line : List ℕ} {at start end : ℕ} (w : NextWord line at start end) where
    next_word : first value (words (drop at line)) ≡ valued (value (part start end line)) (words (drop end line))
    next_word = ap (first value) w.so ∙ one_word (part start end line) (words (drop end line))

    pub next_value : {n : ℕ} → value (part start end line) ≡ Some n → got n (words (drop end line)) ≡ first value (words (drop at line))
    next_value e = sym (next_word ∙ ap (λ (o : Option ℕ). valued o (words (drop end line))) e)

    pub next_none : value (part start end line) ≡ None → nothing ≡ first value (words (drop at line))
    next_none e = sym (next_word ∙ ap (λ (o : Option ℕ). valued o (words (drop end line))) e)

-- the loop's state: `count` bytes are read, and the words from an offset on are left
pub record Collecting (line : List ℕ) (at most : ℕ) (before bytes : List ℕ) (count next : ℕ) : Type 0 where
  pub same : length bytes ≡ length before
  pub small : count ≤ most
  pub so : bytes_of (words (drop at line)) ≡ after (take count bytes) (bytes_of (words (drop next line)))

pub collect_begun : (line : List ℕ) (at most : ℕ) (bytes : List ℕ) → Collecting line at most bytes bytes 0 at
collect_begun line at most bytes =
    record { same = refl; small = omega arith; so = after_nothing (bytes_of (words (drop at line))) }

module _ {line : List ℕ} {at most : ℕ} {before bytes : List ℕ} {count next : ℕ} (s : Collecting line at most before bytes count next) (room : most ≤ length before) where
  -- the same of the texts at the two offsets
  of_texts : texts.Collecting (drop at line) (drop next line) bytes count
  of_texts = record { so = s.so }

  pub collect_more : {b past : ℕ} → count < most → first hex_byte (words (drop next line)) ≡ got b (words (drop past line)) → Collecting line at most before (set bytes count b) (count + 1) past
  collect_more {b} {past} h e =
      let more : texts.Collecting (drop at line) (drop past line) (set bytes count b) (count + 1) = texts.collect_more of_texts (omega (arith, h, room, s.same)) (sym e) in
      record {
        same = length-set bytes count b ∙ s.same;
        small = omega (arith, h);
        so = more.so;
      }

  within : count ≤ length bytes
  within = omega (arith, room, s.same, s.small)

  listed : (t : Bool) → cond t (Some (take count bytes)) None ≡ bytes_listed (then_some t count) bytes
  listed true = refl
  listed false = refl

  pub collect_stopped : {t : Bool} → first hex_byte (words (drop next line)) ≡ nothing → t ≡ no_word (words (drop next line)) → cond t (Some (take count bytes)) None ≡ limited most (bytes_of (words (drop at line)))
  collect_stopped {t} e last = listed t ∙ texts.collect_stopped of_texts last within refl s.small (sym e)

  pub collect_full : {t : Bool} → most ≤ count → t ≡ no_word (words (drop next line)) → cond t (Some (take count bytes)) None ≡ limited most (bytes_of (words (drop at line)))
  collect_full {t} h last =
      let all : most ≡ count = omega (arith, h, s.small) in
      listed t ∙ texts.collect_full of_texts last within refl refl all

-- a text without a word has no name of the table
by_name : (name : List ℕ) (following : List (List ℕ)) → command_in (word_from name following) ≡ command_named table name following
unfolding same_word other_rows writer_rows
by_name [] following = refl
by_name (c ∷ name) following = refl

pub named : {text : List ℕ} {start end : ℕ} → NextWord text 0 start end → command_in (words text) ≡ command_named table (part start end text) (words (drop end text))
named {text} {start} {end} w = ap command_in w.so ∙ by_name (part start end text) (words (drop end text))
