-- The row of one answer: ten bytes, of which the first says the kind and the others carry its values, the lowest byte of a number first.
use Rattle.std.specs.Prelude.{ℕ, ◌≤◌, ◌≡◌, Bool, true, false, cond, List, [], ◌∷◌, ◌++◌, length, get_or, take, drop, replicate, eqb}
use Rattle.report.specs.Sizes.{joined2, joined4}
use Rattle.frame.specs.Writing as writing
use Rattle.port.specs.Answers as answers
use Rattle.port.specs.Waiting as waiting
use Rattle.restore.specs.Restoring as restores
use Rattle.station.specs.Stations.{port_count}
use Rattle.sequence.specs.Steps.{CallAnswer, taken, written, cancelled, ticked, restoring}
use Rattle.encoded.specs.Encoding.{low, high, InTwoBytes, InFourBytes}

abbrev pub row_size : ℕ
row_size = 10

abbrev pub bit_of : Bool → ℕ
bit_of true = 1
bit_of false = 0

-- a kind and its values, and then zeros
abbrev pub row : List ℕ → List ℕ
row values = take row_size (values ++ replicate row_size 0)

-- what the answers to a HID++ report carry; a reply also its drop count, and an error its code and 0x8F or 0xFF
abbrev pub about_row : ℕ → answers.About → ℕ → ℕ → List ℕ
about_row kind a value error =
    row (kind ∷ a.port ∷ a.byte2 ∷ a.byte3 ∷ a.start ∷ a.size ∷ value ∷ error ∷ [])

abbrev pub notice_row : answers.Notice → List ℕ
notice_row (answers.unpaired port dropped) = row (7 ∷ port ∷ dropped ∷ [])
notice_row (answers.paired port more wpid reports dropped) =
    row (8 ∷ port ∷ bit_of more ∷ low wpid ∷ low (high wpid) ∷ low reports ∷ low (high reports) ∷ low (high (high reports)) ∷ low (high (high (high reports))) ∷ dropped ∷ [])
notice_row answers.empty_list = row (9 ∷ [])
notice_row (answers.link port up) = row (10 ∷ port ∷ bit_of up ∷ [])
notice_row (answers.other port kind) = row (11 ∷ port ∷ kind ∷ [])

abbrev pub taken_row : answers.Answer → List ℕ
taken_row (answers.refused number) = row (0 ∷ number ∷ [])
taken_row (answers.reply dropped a) = about_row 1 a dropped 0
taken_row (answers.stray a) = about_row 2 a 0 0
taken_row (answers.plain a) = about_row 3 a 0 0
taken_row (answers.event a) = about_row 4 a 0 0
taken_row (answers.failed a code kind) = about_row 5 a code kind
taken_row (answers.radio kind start size) = row (6 ∷ kind ∷ start ∷ size ∷ [])
taken_row (answers.notice n) = notice_row n

abbrev pub written_row : writing.WriteAnswer → List ℕ
written_row (writing.refused number) = row (12 ∷ number ∷ [])
written_row (writing.wrote n) = row (13 ∷ low n ∷ low (high n) ∷ [])

abbrev pub cancelled_row : waiting.CancelAnswer → List ℕ
cancelled_row (waiting.CancelAnswer.refused number) = row (14 ∷ number ∷ [])
cancelled_row waiting.done = row (15 ∷ [])

-- seven counts
abbrev pub ticked_row : List ℕ → List ℕ
ticked_row counts =
    row (16 ∷ get_or counts 0 0 ∷ get_or counts 1 0 ∷ get_or counts 2 0 ∷ get_or counts 3 0 ∷ get_or counts 4 0 ∷ get_or counts 5 0 ∷ get_or counts 6 0 ∷ [])

-- of a refused restore the number, and of 16 the line
abbrev pub restored_row : restores.RestoreAnswer → List ℕ
restored_row (restores.refused number) = row (17 ∷ number ∷ [])
restored_row (restores.refused_at number line) = row (17 ∷ number ∷ line ∷ [])
restored_row restores.restored = row (18 ∷ [])

unfoldable pub encode_answer : CallAnswer → List ℕ
encode_answer (taken a) = taken_row a
encode_answer (written a) = written_row a
encode_answer (cancelled a) = cancelled_row a
encode_answer (ticked counts) = ticked_row counts
encode_answer (restoring a) = restored_row a

abbrev pub at : List ℕ → ℕ → ℕ
at row i = get_or row i 0

abbrev pub is_set : ℕ → Bool
is_set n = eqb n 1

abbrev pub about_in : List ℕ → answers.About
about_in row = record { port = at row 1; byte2 = at row 2; byte3 = at row 3; start = at row 4; size = at row 5 }

-- lines are counted from 1: where 0 stands there is none
abbrev pub refused_in : List ℕ → restores.RestoreAnswer
refused_in row =
    cond (eqb (at row 2) 0) (restores.refused (at row 1)) (restores.refused_at (at row 1) (at row 2))

-- the answer that a row encodes
unfoldable pub decode_answer : List ℕ → CallAnswer
decode_answer row =
    cond (eqb (at row 0) 0) (taken (answers.refused (at row 1)))
    (cond (eqb (at row 0) 1) (taken (answers.reply (at row 6) (about_in row)))
    (cond (eqb (at row 0) 2) (taken (answers.stray (about_in row)))
    (cond (eqb (at row 0) 3) (taken (answers.plain (about_in row)))
    (cond (eqb (at row 0) 4) (taken (answers.event (about_in row)))
    (cond (eqb (at row 0) 5) (taken (answers.failed (about_in row) (at row 6) (at row 7)))
    (cond (eqb (at row 0) 6) (taken (answers.radio (at row 1) (at row 2) (at row 3)))
    (cond (eqb (at row 0) 7) (taken (answers.notice (answers.unpaired (at row 1) (at row 2))))
    (cond (eqb (at row 0) 8) (taken (answers.notice (answers.paired (at row 1) (is_set (at row 2)) (joined2 (at row 3) (at row 4)) (joined4 (at row 5) (at row 6) (at row 7) (at row 8)) (at row 9))))
    (cond (eqb (at row 0) 9) (taken (answers.notice answers.empty_list))
    (cond (eqb (at row 0) 10) (taken (answers.notice (answers.link (at row 1) (is_set (at row 2)))))
    (cond (eqb (at row 0) 11) (taken (answers.notice (answers.other (at row 1) (at row 2))))
    (cond (eqb (at row 0) 12) (written (writing.refused (at row 1)))
    (cond (eqb (at row 0) 13) (written (writing.wrote (joined2 (at row 1) (at row 2))))
    (cond (eqb (at row 0) 14) (cancelled (waiting.CancelAnswer.refused (at row 1)))
    (cond (eqb (at row 0) 15) (cancelled waiting.done)
    (cond (eqb (at row 0) 16) (ticked (take port_count (drop 1 row)))
    (cond (eqb (at row 0) 17) (restoring (refused_in row))
    (restoring restores.restored))))))))))))))))))

-- what a row can carry: two bytes of a WPID and of a count of bytes written, four of a bitfield, seven counts, and the number of a line, from 1 on
pub record FitsRow (x : CallAnswer) : Type 0 where
  pub paired : (port : ℕ) (more : Bool) (wpid reports dropped : ℕ) → x ≡ taken (answers.notice (answers.paired port more wpid reports dropped)) → InTwoBytes wpid × InFourBytes reports
  pub written : (n : ℕ) → x ≡ written (writing.wrote n) → InTwoBytes n
  pub counts : (counts : List ℕ) → x ≡ ticked counts → length counts ≡ port_count
  pub line : (number line : ℕ) → x ≡ restoring (restores.refused_at number line) → 1 ≤ line
