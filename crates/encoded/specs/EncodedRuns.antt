-- What encoded calls come to: 31, 10, or the rules' run of the calls.
use Rattle.std.specs.Prelude.{ℕ, zero, suc, ◌+◌, ◌≡◌, cond, List, [], ◌∷◌, ◌++◌, map, length, take, drop, leb}
use Rattle.report.specs.Refusals.{no_room}
use Rattle.station.specs.declared.Station.{Station}
use Rattle.sequence.specs.Steps.{Call, CallAnswer, run, Returned, returned_by}
use Rattle.encoded.specs.Decoding.{Decoded, malformed, calls, decode}
use Rattle.encoded.specs.Rows.{row_size, encode_answer, decode_answer, FitsRow}

-- a cut header, an unknown opcode, data or lent bytes that are not there, or arena left over
abbrev pub malformed_calls : ℕ
malformed_calls = 31

-- the buffers after the calls, end to end
unfoldable pub lents : List Returned → List ℕ
lents [] = []
lents (t ∷ ts) = t.lent ++ lents ts

-- the rows of the answers, end to end
unfoldable pub rows : List Returned → List ℕ
rows [] = []
rows (t ∷ ts) = encode_answer t.answer ++ rows ts

-- each answer fits its row
unfoldable pub AllFit : List Returned → Type 0
AllFit [] = Unit {0}
AllFit (t ∷ ts) = FitsRow t.answer × AllFit ts

abbrev pub answers_of : List Returned → List CallAnswer
answers_of ts = map (λ (t : Returned). t.answer) ts

-- the answers in the first `count` rows of these bytes
unfoldable pub answers_in : (count : ℕ) → List ℕ → List CallAnswer
answers_in zero bytes = []
answers_in (suc count) bytes = decode_answer (take row_size bytes) ∷ answers_in count (drop row_size bytes)

-- the first rows of these bytes, one for each call, read back as the answers of the rules' run
abbrev pub ReadsBack : Station → List Call → List ℕ → Type 0
ReadsBack st cs bytes = answers_in (length cs) bytes ≡ answers_of (returned_by st cs)

-- the number of bytes of the rows
unfoldable pub rows_size : List Call → ℕ
rows_size [] = 0
rows_size (c ∷ cs) = row_size + rows_size cs

pub data RunAnswer : Type 0 where
  refused : ℕ → RunAnswer
  done : (bytes : ℕ) → RunAnswer

-- what a run leaves: its answer, the next station, and every byte of the arena and of the answers
pub record EncodedOutcome : Type 0 where
  pub answer : RunAnswer
  pub station : Station
  pub arena : List ℕ
  pub answers : List ℕ

-- a refusal changes nothing
abbrev pub refused_run : ℕ → Station → List ℕ → List ℕ → EncodedOutcome
refused_run number st arena answers = record { answer = refused number; station = st; arena = arena; answers = answers }

-- every call is made: the rows are at the front of the answers, and the bytes after them keep their values
unfoldable pub ran : Station → List Call → List ℕ → EncodedOutcome
ran st cs answers =
    record {
      answer = done (rows_size cs);
      station = run st cs;
      arena = lents (returned_by st cs);
      answers = rows (returned_by st cs) ++ drop (rows_size cs) answers;
    }

unfoldable pub encoded_by : Decoded → Station → List ℕ → List ℕ → EncodedOutcome
encoded_by malformed st arena answers = refused_run malformed_calls st arena answers
encoded_by (calls cs) st arena answers =
    cond (leb (rows_size cs) (length answers)) (ran st cs answers) (refused_run no_room st arena answers)

unfoldable pub encoded_rule : Station → List ℕ → List ℕ → List ℕ → EncodedOutcome
encoded_rule st encoded arena answers = encoded_by (decode encoded arena) st arena answers
