-- docs/SCRIPTS.md, "Answers": what a line is made of.
use Rattle.std.specs.Prelude.{ℕ, zero, suc, ◌+◌, List, [], ◌∷◌, ◌++◌, Bool, cond, ℤ, pos, negsuc, length}
use Prim.Native.String as strings
use Rattle.text.specs.Words.{ascii, hex, decimal}
use Rattle.text.specs.Texts.{digits8, byte_most}

-- ` name=value`
abbrev pub field : strings.String → List ℕ → List ℕ
field name value = ascii " " ++ (ascii name ++ (ascii "=" ++ value))

-- no field of this name is longer, where no value of it is longer than `most`
abbrev pub field_most : strings.String → (most : ℕ) → ℕ
field_most name most = length (field name []) + most

-- the parts one after another, and a newline at the end
abbrev pub line : List (List ℕ) → List ℕ
line [] = ascii "\n"
line (part ∷ parts) = part ++ line parts

-- the newline
abbrev pub line_end : ℕ
line_end = length (line [])

-- bytes are two hexadecimal digits in capitals
abbrev pub byte_text : ℕ → List ℕ
byte_text n = hex digits8 n

-- yes is 1, no is 0
unfoldable pub flag : Bool → List ℕ
flag on = cond on (ascii "1") (ascii "0")

abbrev pub flag_most : ℕ
flag_most = 1

-- signed decimal
unfoldable pub signed_text : ℤ → List ℕ
signed_text (pos n) = decimal n
signed_text (negsuc n) = ascii "-" ++ decimal (suc n)

-- no number of 16 bits lies farther from 0
abbrev pub farthest : ℕ
farthest = 32768

-- a sign and its five digits
abbrev pub signed_most : ℕ
signed_most = 1 + 5

-- with a space before each
abbrev pub spaced : (ℕ → List ℕ) → ℕ → ℕ → List ℕ
spaced text n x = ascii " " ++ text x

abbrev pub spaced_most : (most : ℕ) → ℕ
spaced_most most = length (ascii " ") + most

-- before every element except the first
unfoldable pub comma : ℕ → List ℕ
comma zero = []
comma (suc n) = ascii ","

abbrev pub comma_most : ℕ
comma_most = length (ascii ",")

-- with a comma between each two
abbrev pub parted : {A : Type 0} → (A → List ℕ) → ℕ → A → List ℕ
parted text n x = comma n ++ text x

-- before the number of a refusal
abbrev pub refused_word : List ℕ
refused_word = ascii "refused "

-- the line of a refusal, except a writer's
unfoldable pub refused_text : ℕ → List ℕ
refused_text number = line (refused_word ∷ decimal number ∷ [])

abbrev pub refused_most : ℕ
refused_most = length refused_word + byte_most + line_end

-- what reply, stray, plain notice, event and error have in common is no longer: each name with its value at its longest
abbrev pub about_most : ℕ
about_most =
    field_most "port" byte_most
    + field_most "byte2" digits8
    + field_most "byte3" digits8
    + field_most "start" byte_most
    + field_most "length" byte_most

-- no line of an answer is longer than an error's, except a writer's and a dump's
abbrev pub answer_most : ℕ
answer_most =
    length (ascii "error") + about_most + field_most "code" digits8 + field_most "kind" digits8 + line_end
