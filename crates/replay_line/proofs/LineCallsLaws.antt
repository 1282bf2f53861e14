-- Laws of one line: a call without bytes is one that may have none, the carriage return at its end, and a name that no row has.
use Rattle.std.specs.Prelude.{ℕ, ◌≡◌, refl, Bool, true, false, cond, ◌&&◌, List, [], ◌∷◌, length, Option, Some, None}
use Rattle.std.specs.Str.{IsUtf8, is_utf8, chars}
use lib.Utf8.{encode}
use Rattle.std.proofs.Common.{sym, ◌∙◌, subst, arith}
use Rattle.std.proofs.lemmas.Str.{IsUtf8-from_is_utf8}
use Rattle.std.proofs.lemmas.Bool.{lt-leb}
use Rattle.report.proofs.ChoicesLaws.{both}
use Rattle.replay_line.specs.declared.Parsed.{Parsed}
use Rattle.replay_line.specs.LineWords.{same_word}
use Rattle.replay_line.proofs.LineWordsLaws.{same_decides}
use Rattle.replay_line.specs.LineFields.{NextValue, nothing, got, and_then, Lent, lent, in_front, bytes_of, limited}
use Rattle.replay_line.specs.LineValues.{hex_byte}
use Rattle.replay_line.specs.Commands.{LineWriter, Command, no_call, write}
use Rattle.replay_line.specs.LineCalls.{with_no_more, given, with_bytes, lent_alone, LineRow, other_rows, writer_rows, table, command_named, command_in, without_return}
use Rattle.replay_line.specs.LineContracts.{Parses, lent_call}

-- the same command said in another way
pub same_command : {a b : Command} {r : Option Parsed} {buffer : List ℕ} → Parses b r buffer → a ≡ b → Parses a r buffer
same_command h e = record { so = h.so ∙ sym e; within = h.within }

-- an answer without bytes: whatever the buffer holds
abbrev pub ParsesBare : Command → Option Parsed → Type 0
ParsesBare command r = (buffer : List ℕ) → Parses command r buffer

pub same_bare : {a b : Command} {r : Option Parsed} → ParsesBare b r → a ≡ b → ParsesBare a r
same_bare h e buffer = same_command (h buffer) e

-- none may have a byte
pub no_bytes : (command : List ℕ → Command) (words : List (List ℕ)) → with_bytes 0 command words ≡ with_no_more (command []) words
unfolding with_bytes bytes_of
no_bytes command [] = refl
no_bytes command (word ∷ words) = by (hex_byte word) (bytes_of words)
  where
    by : (o : Option ℕ) (left : Option (List ℕ)) → given (limited 0 (in_front o left)) command ≡ no_call
    by None left = refl
    by (Some n) None = refl
    by (Some n) (Some bytes) = simp (lt-leb (length (n ∷ bytes)) 0 (omega arith))

pub lent_without : (writer : LineWriter) (words : List (List ℕ)) → lent_call 0 writer words ≡ lent_alone writer words
unfolding lent_call
lent_without writer words = by (lent words)
  where
    by : (r : NextValue Lent) → and_then r no_call (λ at words. with_bytes 0 (write writer at.offset at.room) words) ≡ and_then r no_call (λ at words. with_no_more (write writer at.offset at.room []) words)
    by nothing = refl
    by (got at words) = no_bytes (write writer at.offset at.room) words

-- what is left of a line
pub nothing_kept : (line : List ℕ) → length line ≡ 0 → [] ≡ without_return line
unfolding without_return
nothing_kept [] h = refl
nothing_kept (c ∷ line) h = absurd (omega arith)

-- a name that no row has is that of no call
abbrev pub Unnamed : List ℕ → List LineRow → Type 0
Unnamed name [] = Unit {0}
Unnamed name (r ∷ rows) = (name ≡ r.name → ⊥) × Unnamed name rows

pub none_named : (name : List ℕ) (words : List (List ℕ)) (rows : List LineRow) → Unnamed name rows → command_named rows name words ≡ no_call
none_named name words [] h = refl
none_named name words (r ∷ rows) h = by (same_word name r.name) refl (none_named name words rows h.1)
  where
    by : (t : Bool) → same_word name r.name ≡ t → command_named rows name words ≡ no_call → cond t (r.call words) (command_named rows name words) ≡ no_call
    by true e on = absurd (h.0 ((same_decides name r.name).0 e))
    by false e on = on

-- every name is text
abbrev AreText : List LineRow → Bool
AreText [] = true
AreText (r ∷ rows) = is_utf8 r.name && AreText rows

no_text : (name : List ℕ) (rows : List LineRow) → AreText rows ≡ true → (IsUtf8 name → ⊥) → Unnamed name rows
no_text name [] e h = tt
no_text name (r ∷ rows) e h =
    let tests = both (is_utf8 r.name) (AreText rows) e in
    (λ same. h (subst IsUtf8 (sym same) (IsUtf8-from_is_utf8 r.name tests.0)), no_text name rows tests.1 h)

pub no_text_named : (name : List ℕ) (words : List (List ℕ)) → (IsUtf8 name → ⊥) → command_in (name ∷ words) ≡ no_call
unfolding other_rows writer_rows is_utf8 chars encode
no_text_named name words h = none_named name words table (no_text name table refl h)
