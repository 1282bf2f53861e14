-- docs/SCRIPTS.md, "Lines": the words of a call one after another, each as what it has to stand for.
use Rattle.std.specs.Prelude.{ℕ, cond, List, [], ◌∷◌, length, leb, Option, Some, None}
use Rattle.replay_line.specs.LineValues.{hex_byte, number}

-- what is read at the front of the words, and the words after it; or nothing, where a word is missing or stands for no such value
pub data NextValue (A : Type 0) : Type 0 where
  nothing : NextValue A
  got : A → List (List ℕ) → NextValue A

module _ {A : Type 0} where
  abbrev pub valued : Option A → List (List ℕ) → NextValue A
  valued None following = nothing
  valued (Some value) following = got value following

  -- the first word, as a value
  abbrev pub first : (List ℕ → Option A) → List (List ℕ) → NextValue A
  first value [] = nothing
  first value (word ∷ following) = valued (value word) following

module _ {A B : Type 0} where
  -- then, with what was read and the words after it; otherwise the first
  abbrev pub and_then : NextValue A → B → (A → List (List ℕ) → B) → B
  and_then nothing otherwise next = otherwise
  and_then (got value following) otherwise next = next value following

-- a value up to a limit
abbrev pub up_to : ℕ → Option ℕ → Option ℕ
up_to limit None = None
up_to limit (Some n) = cond (leb n limit) (Some n) None

abbrev pub greatest_port : ℕ
greatest_port = 255

-- no lent buffer is longer, and no text of a store
abbrev pub most_lent : ℕ
most_lent = 4096

-- PORT
abbrev pub port_number : List ℕ → Option ℕ
port_number word = up_to greatest_port (number word)

-- LEN
abbrev pub room_number : List ℕ → Option ℕ
room_number word = up_to most_lent (number word)

-- PORT B2 B3
pub record PortAndBytes : Type 0 where
  pub port : ℕ
  pub byte2 : ℕ
  pub byte3 : ℕ

unfoldable pub port_and_bytes : List (List ℕ) → NextValue PortAndBytes
port_and_bytes words =
    and_then (first port_number words) nothing λ port words.
    and_then (first hex_byte words) nothing λ byte2 words.
    and_then (first hex_byte words) nothing λ byte3 words.
    got (record { port = port; byte2 = byte2; byte3 = byte3 }) words

-- PLACE LEN
pub record Lent : Type 0 where
  pub offset : ℕ
  pub room : ℕ

unfoldable pub lent : List (List ℕ) → NextValue Lent
lent words =
    and_then (first number words) nothing λ offset words.
    and_then (first room_number words) nothing λ room words.
    got (record { offset = offset; room = room }) words

-- a byte before other bytes
abbrev pub in_front : Option ℕ → Option (List ℕ) → Option (List ℕ)
in_front None bytes = None
in_front (Some byte) None = None
in_front (Some byte) (Some bytes) = Some (byte ∷ bytes)

-- HH..: every word is a byte
unfoldable pub bytes_of : List (List ℕ) → Option (List ℕ)
bytes_of [] = Some []
bytes_of (word ∷ following) = in_front (hex_byte word) (bytes_of following)

-- no report, payload or parameter list is longer
abbrev pub most_bytes : ℕ
most_bytes = 256

-- at most so many
abbrev pub limited : (most : ℕ) → Option (List ℕ) → Option (List ℕ)
limited most None = None
limited most (Some bytes) = cond (leb (length bytes) most) (Some bytes) None
