-- Laws of every call, by one walk of the table: with one space between its words it is not long, and it is lent no more than the longest buffer.
use Rattle.std.specs.Prelude.{ℕ, suc, ◌+◌, ◌-◌, ◌*◌, ◌≤◌, ◌<◌, ◌≡◌, Bool, true, false, cond, ◌&&◌, List, [], ◌∷◌, eqb, length, Option, None, Some}
use Rattle.std.proofs.Math.Path.{refl}
use Rattle.std.proofs.Common.{sym, ap, subst, arith, lit≤}
use Rattle.std.proofs.Math.Dec.{leb}
use borrow.Author.Tests.{eqb-true, eqb-false, leb-true, ne_eqb, lt-ltb}
use Rattle.report.proofs.ChoicesLaws.{both}
use Rattle.report.specs.Sizes.{byte}
use Rattle.text.specs.Words.{ascii}
use Rattle.replay_line.specs.LineWords.{words, same_word}
use Rattle.replay_line.specs.LineValues.{hex_byte, all_digits, value_after, leading_zero, greatest, digits_after, number}
use Rattle.replay_line.proofs.LineValuesLaws.{grows}
use Rattle.replay_line.proofs.LineWordsLaws.{same_decides}
use Rattle.replay_line.specs.LineFields.{NextValue, nothing, got, valued, first, and_then, up_to, greatest_port, most_lent, room_number, port_number, port_and_bytes, Lent, lent, in_front, bytes_of, most_bytes, limited}
use Rattle.replay_line.specs.Commands.{LineWriter, Command, blank, no_call, take, tick, restore, read, mouse, dump}
use Rattle.replay_line.specs.LineCalls.{with_no_more, given, with_bytes, lent_alone, lent_bytes, request_call, cancel_call, switch_call, led_call, frame_call, LineRow, other_rows, writer_rows, table, command_named, command_in, without_return, hash, text_rule, line_rule}
use Rattle.replay_line.specs.LineContracts.{lent_room}

-- words with one space after each
unfoldable pub size_of : List (List ℕ) → ℕ
size_of [] = 0
size_of (word ∷ following) = suc (length word) + size_of following

abbrev Any : {A : Type 0} → A → Type 0
Any value = Unit {0}

-- a word that stands for a value has at most `most` characters, and the value has the property
abbrev Fits : (ℕ → Type 0) → ℕ → List ℕ → Option ℕ → Type 0
Fits P most word None = Unit {0}
Fits P most word (Some value) = (length word ≤ most) × P value

-- the characters of a byte, and the most of a number
abbrev byte_length : ℕ
byte_length = 2

abbrev number_length : ℕ
number_length = 5

byte_by : (word : List ℕ) (t : Bool) (o : Option ℕ) → eqb (length word) byte_length ≡ t → Fits Any byte_length word (cond t o None)
byte_by word true None e = tt
byte_by word true (Some value) e = (omega (arith, eqb-true (length word) byte_length e), tt)
byte_by word false o e = tt

byte_fits : (word : List ℕ) → Fits Any byte_length word (hex_byte word)
unfolding hex_byte
byte_fits word = byte_by word (eqb (length word) byte_length) _ refl

-- six digits without a zero in front come to more than the greatest number
module _ (a b c d e f : ℕ) (text : List ℕ) where
  abbrev six : List ℕ
  six = a ∷ b ∷ c ∷ d ∷ e ∷ f ∷ text

  too_great : 49 ≤ a → value_after 0 six ≤ greatest → ⊥
  unfolding value_after
  too_great h v =
      omega (arith, v, h, grows ((((((0 * 10 + (a - 48)) * 10 + (b - 48)) * 10 + (c - 48)) * 10 + (d - 48)) * 10 + (e - 48)) * 10 + (f - 48)) text)

  first_digit : all_digits six ≡ true → leading_zero six ≡ false → 49 ≤ a
  unfolding all_digits
  first_digit h z =
      let range : (leb 48 a ≡ true) × (leb a 57 ≡ true) = both _ _ (both _ _ h).0 in
      let other = eqb-false a 48 (simp (lt-ltb 1 (length six) (omega arith)) at z) in
      omega (arith, leb-true 48 a range.0, other)

  six_by : (t : Bool) → (leading_zero six ≡ t) → (s : Bool) → (all_digits six && leb (value_after 0 six) greatest ≡ s) → Fits Any number_length six (cond t None (cond s (Some (value_after 0 six)) None))
  six_by true z s h = tt
  six_by false z false h = tt
  six_by false z true h =
      let tests = both _ _ h in
      absurd (too_great (first_digit tests.0 z) (leb-true _ _ tests.1))

  six_fit : Fits Any number_length six (number six)
  unfolding number digits_after
  six_fit =
      simp (ne_eqb (length six) 0 (λ e. omega arith))
      (six_by (leading_zero six) refl (all_digits six && leb (value_after 0 six) greatest) refl)

few : (word : List ℕ) (o : Option ℕ) → length word ≤ number_length → Fits Any number_length word o
few word None h = tt
few word (Some value) h = (h, tt)

number_fits : (word : List ℕ) → Fits Any number_length word (number word)
number_fits [] = few [] (number []) (lit≤ tt)
number_fits (a ∷ []) = few (a ∷ []) (number (a ∷ [])) (lit≤ tt)
number_fits (a ∷ b ∷ []) = few (a ∷ b ∷ []) (number (a ∷ b ∷ [])) (lit≤ tt)
number_fits (a ∷ b ∷ c ∷ []) = few (a ∷ b ∷ c ∷ []) (number (a ∷ b ∷ c ∷ [])) (lit≤ tt)
number_fits (a ∷ b ∷ c ∷ d ∷ []) = few (a ∷ b ∷ c ∷ d ∷ []) (number (a ∷ b ∷ c ∷ d ∷ [])) (lit≤ tt)
number_fits (a ∷ b ∷ c ∷ d ∷ e ∷ []) = few (a ∷ b ∷ c ∷ d ∷ e ∷ []) (number (a ∷ b ∷ c ∷ d ∷ e ∷ [])) (lit≤ tt)
number_fits (a ∷ b ∷ c ∷ d ∷ e ∷ f ∷ text) = six_fit a b c d e f text

-- and up to a limit
up_to_by : (limit : ℕ) (word : List ℕ) (n : ℕ) (t : Bool) → leb n limit ≡ t → length word ≤ number_length → Fits (λ (m : ℕ). m ≤ limit) number_length word (cond t (Some n) None)
up_to_by limit word n true e h = (h, leb-true n limit e)
up_to_by limit word n false e h = tt

up_to_fits : (limit : ℕ) (word : List ℕ) (o : Option ℕ) → Fits Any number_length word o → Fits (λ (m : ℕ). m ≤ limit) number_length word (up_to limit o)
up_to_fits limit word None h = tt
up_to_fits limit word (Some n) h = up_to_by limit word n (leb n limit) refl h.0

-- what is read takes at most `most` of the words
abbrev Takes : {A : Type 0} → (A → Type 0) → ℕ → List (List ℕ) → NextValue A → Type 0
Takes P most words nothing = Unit {0}
Takes P most words (got value following) = (size_of words ≤ most + size_of following) × P value

valued_takes : (P : ℕ → Type 0) (most : ℕ) (word : List ℕ) (following : List (List ℕ)) (o : Option ℕ) → Fits P most word o → Takes P (suc most) (word ∷ following) (valued o following)
unfolding size_of
valued_takes P most word following None h = tt
valued_takes P most word following (Some value) h = (omega (arith, h.0), h.1)

first_takes : (P : ℕ → Type 0) (most : ℕ) (value : List ℕ → Option ℕ) → ((word : List ℕ) → Fits P most word (value word)) → (words : List (List ℕ)) → Takes P (suc most) words (first value words)
first_takes P most value h [] = tt
first_takes P most value h (word ∷ following) = valued_takes P most word following (value word) (h word)

-- each with the space after it
abbrev byte_most : ℕ
byte_most = suc byte_length

abbrev number_most : ℕ
number_most = suc number_length

byte_takes : (words : List (List ℕ)) → Takes Any byte_most words (first hex_byte words)
byte_takes words = first_takes Any byte_length hex_byte byte_fits words

number_takes : (words : List (List ℕ)) → Takes Any number_most words (first number words)
number_takes words = first_takes Any number_length number number_fits words

up_to_takes : (limit : ℕ) (words : List (List ℕ)) → Takes (λ (m : ℕ). m ≤ limit) number_most words (first (λ (word : List ℕ). up_to limit (number word)) words)
up_to_takes limit words =
    first_takes (λ (m : ℕ). m ≤ limit) number_length (λ (word : List ℕ). up_to limit (number word)) (λ word. up_to_fits limit word (number word) (number_fits word)) words

module _ {A B : Type 0} (P : A → Type 0) (Q : B → Type 0) where
  then_takes : (m n : ℕ) (words : List (List ℕ)) (r : NextValue A) (next : A → List (List ℕ) → NextValue B) → Takes P m words r → ((value : A) → P value → (following : List (List ℕ)) → Takes Q n following (next value following)) → Takes Q (m + n) words (and_then r nothing next)
  then_takes m n words nothing next p q = tt
  then_takes m n words (got value following) next p q = by (next value following) (q value p.1 following)
    where
      by : (s : NextValue B) → Takes Q n following s → Takes Q (m + n) words s
      by nothing h = tt
      by (got x left) h = (omega (arith, p.0, h.0), h.1)

-- PORT B2 B3
abbrev port_and_bytes_most : ℕ
port_and_bytes_most = number_most + (byte_most + byte_most)

port_and_bytes_takes : (words : List (List ℕ)) → Takes Any port_and_bytes_most words (port_and_bytes words)
unfolding port_and_bytes
port_and_bytes_takes words =
    then_takes (λ (m : ℕ). m ≤ greatest_port) Any number_most (byte_most + byte_most) words (first port_number words) _ (up_to_takes greatest_port words) λ port h words.
    then_takes Any Any byte_most byte_most words (first hex_byte words) _ (byte_takes words) λ byte2 h words.
    then_takes Any Any byte_most 0 words (first hex_byte words) _ (byte_takes words) λ byte3 h words. (omega arith, tt)

-- PLACE LEN: no longer than the longest lent buffer
abbrev Within : Lent → Type 0
Within l = l.room ≤ most_lent

abbrev lent_most : ℕ
lent_most = number_most + number_most

lent_takes : (words : List (List ℕ)) → Takes Within lent_most words (lent words)
unfolding lent
lent_takes words =
    then_takes Any Within number_most number_most words (first number words) _ (number_takes words) λ offset h words.
    then_takes (λ (m : ℕ). m ≤ most_lent) Within number_most 0 words (first room_number words) _ (up_to_takes most_lent words) λ room h words. (omega arith, h)

-- a command of these words is no call; or they are few, and it is lent no more than the longest buffer
data Bounded (most : ℕ) (words : List (List ℕ)) (command : Command) : Type 0 where
  none_called : command ≡ no_call → Bounded most words command
  a_call : size_of words ≤ most → lent_room command ≤ most_lent → Bounded most words command

at_most : (n : ℕ) {m : ℕ} {words : List (List ℕ)} {command : Command} → m ≤ n → Bounded m words command → Bounded n words command
at_most n h (none_called e) = none_called e
at_most n h (a_call s r) = a_call (omega (arith, s, h)) r

module _ {A : Type 0} (P : A → Type 0) where
  then_bounded : (m n : ℕ) (words : List (List ℕ)) (r : NextValue A) (next : A → List (List ℕ) → Command) → Takes P m words r → ((value : A) → P value → (following : List (List ℕ)) → Bounded n following (next value following)) → Bounded (m + n) words (and_then r no_call next)
  then_bounded m n words nothing next p q = none_called refl
  then_bounded m n words (got value following) next p q = by (q value p.1 following)
    where
      by : Bounded n following (next value following) → Bounded (m + n) words (next value following)
      by (none_called e) = none_called e
      by (a_call s r) = a_call (omega (arith, p.0, s)) r

no_more_bounded : (command : Command) (words : List (List ℕ)) → lent_room command ≤ most_lent → Bounded 0 words (with_no_more command words)
unfolding size_of
no_more_bounded command [] r = a_call (omega arith) r
no_more_bounded command (word ∷ words) r = none_called refl

-- every word that is left is a byte
abbrev Bytes : List (List ℕ) → Option (List ℕ) → Type 0
Bytes words None = Unit {0}
Bytes words (Some bytes) = size_of words ≤ byte_most * length bytes

before_bytes : (word : List ℕ) (following : List (List ℕ)) (o : Option ℕ) (os : Option (List ℕ)) → Fits Any byte_length word o → Bytes following os → Bytes (word ∷ following) (in_front o os)
unfolding size_of
before_bytes word following None os h b = tt
before_bytes word following (Some value) None h b = tt
before_bytes word following (Some value) (Some bytes) h b = omega (arith, h.0, b)

all_bytes : (words : List (List ℕ)) → Bytes words (bytes_of words)
unfolding bytes_of size_of
all_bytes [] = omega arith
all_bytes (word ∷ following) = before_bytes word following (hex_byte word) (bytes_of following) (byte_fits word) (all_bytes following)

abbrev bytes_most : ℕ → ℕ
bytes_most most = byte_most * most

module _ (most : ℕ) (command : List ℕ → Command) (lends : (bytes : List ℕ) → lent_room (command bytes) ≤ most_lent) (words : List (List ℕ)) where
  limited_by : (bytes : List ℕ) (t : Bool) → leb (length bytes) most ≡ t → size_of words ≤ byte_most * length bytes → Bounded (bytes_most most) words (given (cond t (Some bytes) None) command)
  limited_by bytes true e h = a_call (omega (arith, h, leb-true (length bytes) most e)) (lends bytes)
  limited_by bytes false e h = none_called refl

  given_bounded : (o : Option (List ℕ)) → Bytes words o → Bounded (bytes_most most) words (given (limited most o) command)
  given_bounded None h = none_called refl
  given_bounded (Some bytes) h = limited_by bytes (leb (length bytes) most) refl h

  bytes_bounded : Bounded (bytes_most most) words (with_bytes most command words)
  unfolding with_bytes
  bytes_bounded = given_bounded (bytes_of words) (all_bytes words)

lent_alone_law : (writer : LineWriter) (words : List (List ℕ)) → Bounded lent_most words (lent_alone writer words)
lent_alone_law writer words =
    then_bounded Within lent_most 0 words (lent words) _ (lent_takes words) λ at h words. no_more_bounded _ words h

lent_bytes_law : (writer : LineWriter) (words : List (List ℕ)) → Bounded (lent_most + bytes_most most_bytes) words (lent_bytes writer words)
lent_bytes_law writer words =
    then_bounded Within lent_most (bytes_most most_bytes) words (lent words) _ (lent_takes words) λ at h words. bytes_bounded most_bytes _ (λ bytes. h) words

-- the longest call has the longest text of a store
abbrev values_most : ℕ
values_most = bytes_most most_lent

request_bounded : (words : List (List ℕ)) → Bounded values_most words (request_call words)
unfolding request_call
request_bounded words =
    at_most values_most (lit≤ tt)
    (then_bounded Any port_and_bytes_most (number_most + (lent_most + bytes_most most_bytes)) words (port_and_bytes words) _ (port_and_bytes_takes words) λ to h words.
    then_bounded Any number_most (lent_most + bytes_most most_bytes) words (first number words) _ (number_takes words) λ ticks h words. lent_bytes_law _ words)

cancel_bounded : (words : List (List ℕ)) → Bounded values_most words (cancel_call words)
unfolding cancel_call
cancel_bounded words =
    at_most values_most (lit≤ tt) (then_bounded Any port_and_bytes_most 0 words (port_and_bytes words) _ (port_and_bytes_takes words) λ to h words. no_more_bounded _ words (lit≤ tt))

switch_bounded : (words : List (List ℕ)) → Bounded values_most words (switch_call words)
unfolding switch_call
switch_bounded words =
    at_most values_most (lit≤ tt)
    (then_bounded Any byte_most (byte_most + lent_most) words (first hex_byte words) _ (byte_takes words) λ bits h words.
    then_bounded Any byte_most lent_most words (first hex_byte words) _ (byte_takes words) λ timeout h words. lent_alone_law _ words)

led_bounded : (words : List (List ℕ)) → Bounded values_most words (led_call words)
unfolding led_call
led_bounded words =
    at_most values_most (lit≤ tt)
    (then_bounded (λ (m : ℕ). m ≤ greatest_port) number_most (byte_most + lent_most) words (first port_number words) _ (up_to_takes greatest_port words) λ port h words.
    then_bounded Any byte_most lent_most words (first hex_byte words) _ (byte_takes words) λ leds h words. lent_alone_law _ words)

frame_bounded : (words : List (List ℕ)) → Bounded values_most words (frame_call words)
unfolding frame_call
frame_bounded words =
    at_most values_most (lit≤ tt) (then_bounded Any port_and_bytes_most (lent_most + bytes_most most_bytes) words (port_and_bytes words) _ (port_and_bytes_takes words) λ to h words. lent_bytes_law _ words)

-- no name is longer
abbrev name_most : ℕ
name_most = length (ascii "get-paired")

same_length : (word name : List ℕ) → same_word word name ≡ true → length word ≡ length name
same_length word name e = ap length ((same_decides word name).0 e)

data AllBounded : List LineRow → Type 0 where
  no_row : AllBounded []
  a_row : {r : LineRow} {rows : List LineRow} → length r.name ≤ name_most → ((words : List (List ℕ)) → Bounded values_most words (r.call words)) → AllBounded rows → AllBounded (r ∷ rows)

-- no call is longer, with a space after its name
abbrev pub call_most : ℕ
call_most = suc name_most + values_most

named_bounded : (name : List ℕ) (words : List (List ℕ)) (r : LineRow) (other : Command) (t : Bool) → same_word name r.name ≡ t → length r.name ≤ name_most → Bounded values_most words (r.call words) → Bounded call_most (name ∷ words) other → Bounded call_most (name ∷ words) (cond t (r.call words) other)
unfolding size_of
named_bounded name words r other true e n (none_called h) o = none_called h
named_bounded name words r other true e n (a_call s h) o =
    a_call (omega (arith, same_length name r.name e, n, s)) h
named_bounded name words r other false e n h o = o

rows_bounded : {rows : List LineRow} → AllBounded rows → (name : List ℕ) (words : List (List ℕ)) → Bounded call_most (name ∷ words) (command_named rows name words)
rows_bounded no_row name words = none_called refl
rows_bounded (a_row {r} {rows} n h others) name words =
    named_bounded name words r (command_named rows name words) (same_word name r.name) refl n (h words) (rows_bounded others name words)

with_bytes_law : (command : List ℕ → Command) → ((bytes : List ℕ) → lent_room (command bytes) ≤ most_lent) → (words : List (List ℕ)) → Bounded values_most words (with_bytes most_bytes command words)
with_bytes_law command lends words = at_most values_most (lit≤ tt) (bytes_bounded most_bytes command lends words)

others_bounded : AllBounded other_rows
unfolding other_rows
others_bounded =
    a_row (lit≤ tt) (with_bytes_law read (λ bytes. lit≤ tt))
    (a_row (lit≤ tt) frame_bounded
    (a_row (lit≤ tt) (with_bytes_law mouse (λ bytes. lit≤ tt))
    (a_row (lit≤ tt) (λ words. at_most values_most (lit≤ tt) (no_more_bounded dump words (lit≤ tt))) no_row)))

writers_bounded : AllBounded writer_rows
unfolding writer_rows
writers_bounded =
    a_row (lit≤ tt) switch_bounded
    (a_row (lit≤ tt) (λ words. at_most values_most (lit≤ tt) (lent_alone_law _ words))
    (a_row (lit≤ tt) led_bounded
    (a_row (lit≤ tt) (λ words. at_most values_most (lit≤ tt) (lent_alone_law _ words))
    (a_row (lit≤ tt) (λ words. at_most values_most (lit≤ tt) (lent_alone_law _ words)) others_bounded))))

table_bounded : AllBounded table
table_bounded =
    a_row (lit≤ tt) (with_bytes_law take (λ bytes. lit≤ tt))
    (a_row (lit≤ tt) request_bounded
    (a_row (lit≤ tt) cancel_bounded
    (a_row (lit≤ tt) (λ words. at_most values_most (lit≤ tt) (no_more_bounded tick words (lit≤ tt)))
    (a_row (lit≤ tt) (bytes_bounded most_lent restore (λ bytes. lit≤ tt)) writers_bounded))))

call_bounded : (words : List (List ℕ)) → Bounded call_most words (command_in words)
call_bounded [] = none_called refl
call_bounded (name ∷ words) = rows_bounded table_bounded name words

pub long_is_none : (words : List (List ℕ)) → call_most < size_of words → command_in words ≡ no_call
long_is_none words h = by (call_bounded words)
  where
    by : Bounded call_most words (command_in words) → command_in words ≡ no_call
    by (none_called e) = e
    by (a_call s r) = absurd (omega (arith, s, h))

lends : {most : ℕ} {words : List (List ℕ)} {command : Command} → Bounded most words command → lent_room command ≤ most_lent
lends (none_called e) = subst (λ (k : Command). lent_room k ≤ most_lent) (sym e) (lit≤ tt)
lends (a_call s r) = r

either : (t : Bool) (a b : Command) → lent_room a ≤ most_lent → lent_room b ≤ most_lent → lent_room (cond t a b) ≤ most_lent
either true a b p q = p
either false a b p q = q

text_lends : (text : List ℕ) → lent_room (text_rule text) ≤ most_lent
unfolding text_rule
text_lends text =
    either (eqb (length text) 0) blank _ (lit≤ tt)
    (either (eqb (byte text 0) hash) blank (command_in (words text)) (lit≤ tt) (lends (call_bounded (words text))))

pub line_lends : (line : List ℕ) → lent_room (line_rule line) ≤ most_lent
unfolding line_rule
line_lends line = text_lends (without_return line)
