-- What the functions of this crate promise, and the program's answers in the terms of the rules.
use Rattle.std.specs.Prelude.{ℕ, ◌+◌, ◌≤◌, ◌<◌, ◌≡◌, ◌&&◌, cond, leb, List, length, take, drop, Option, Some, None, Result, Ok, Err, MatchResult}
use Rattle.std.specs.Borrow.{Bor}
use Rattle.station.specs.declared.Station.{Station}
use Rattle.sequence.specs.Steps as steps
use Rattle.port.specs.declared.Called.{Called}
use Rattle.encoded.specs.declared.block.Op.{Op}
use Rattle.encoded.specs.declared.block.Op.TheVariants.{Take, Request, Cancel, Tick, Write, Restore}
use Rattle.encoded.specs.declared.block.Writer.{Writer}
use Rattle.encoded.specs.declared.block.Writer.TheVariants as writers
use Rattle.encoded.specs.declared.block.UnknownOpcode.{UnknownOpcode}
use Rattle.encoded.specs.declared.block.Block.{Block}
use Rattle.encoded.specs.declared.RunRefusal.{RunRefusal}
use Rattle.encoded.specs.declared.RunRefusal.TheVariants.{NoRoom, Malformed}
use Rattle.encoded.specs.declared.CRan.{CRan}
use Rattle.encoded.specs.Blocks as blocks
use Rattle.encoded.specs.Blocks.{Header, header_size, last_opcode, header_of}
use Rattle.encoded.specs.Decoding.{Decoded, malformed, calls, rest_of, decode}
use Rattle.encoded.specs.Rows.{encode_answer}
use Rattle.report.specs.Refusals.{no_room}
use Rattle.encoded.specs.EncodedRuns.{malformed_calls, rows_size, RunAnswer, refused, done, EncodedOutcome, encoded_rule}

-- the opcodes of the program's calls
abbrev pub writer_opcode : Writer → ℕ
writer_opcode writers.Switch = blocks.switch_opcode
writer_opcode writers.GetPaired = blocks.get_paired_opcode
writer_opcode writers.Led = blocks.led_opcode
writer_opcode writers.List = blocks.list_opcode
writer_opcode writers.Store = blocks.store_opcode

abbrev pub opcode_of : Op → ℕ
opcode_of Take = blocks.take_opcode
opcode_of Request = blocks.request_opcode
opcode_of Cancel = blocks.cancel_opcode
opcode_of Tick = blocks.tick_opcode
opcode_of (Write writer) = writer_opcode writer
opcode_of Restore = blocks.restore_opcode

-- the call with this opcode, or none where the opcode lies after the last
abbrev pub IsOp : ℕ → Result Op UnknownOpcode → Type 0
IsOp opcode r = MatchResult r (λ op. opcode_of op ≡ opcode) (λ _. last_opcode < opcode)

-- what a writer writes, with the arguments of its block
abbrev pub writer_by : Writer → Block → steps.Writer
writer_by writers.Switch b = steps.switch b.a b.b
writer_by writers.GetPaired b = steps.get_paired
writer_by writers.Led b = steps.led b.a b.b
writer_by writers.List b = steps.list
writer_by writers.Store b = steps.store

-- the header of a block of the program
abbrev pub header_by : Block → Header
header_by b =
    record { op = opcode_of b.op; a = b.a; b = b.b; c = b.c; ticks = b.ticks; offset = b.offset; size = length b.body.now; lent = b.lent }

-- the first block of these bytes, its header and its data, and the bytes after it: none where its opcode is unknown or it is cut
unfoldable pub first_block : List ℕ → Option (Header × (List ℕ × List ℕ))
first_block s =
    let h = header_of s in
    cond (leb h.op last_opcode && leb (header_size + h.size) (length s)) (Some (h, (take h.size (drop header_size s), rest_of h s))) None

abbrev pub block_of : Option (Block × Bor (List ℕ)) → Option (Header × (List ℕ × List ℕ))
block_of None = None
block_of (Some p) = Some (header_by p.0, (p.0.body.now, p.1.now))

-- what one call leaves: the row of its answer, the next station, and its lent buffer
pub record Left : Type 0 where
  pub row : List ℕ
  pub station : Station
  pub lent : List ℕ

abbrev pub left_of : steps.Outcome → Left
left_of o = record { row = encode_answer o.answer; station = o.station; lent = o.lent }

abbrev pub left_by : Called (List ℕ) Station → List ℕ → Left
left_by r after = record { row = r.answer; station = r.next; lent = after }

-- one call is the rules' step
abbrev pub MadePromise : Station → steps.Call → Called (List ℕ) Station → List ℕ → Type 0
MadePromise st c r after = left_by r after ≡ left_of (steps.step st c)

-- the number of bytes of the answers with those counted before, where the blocks are whole
abbrev pub count_from : ℕ → Decoded → Option ℕ
count_from n malformed = None
count_from n (calls cs) = Some (n + rows_size cs)

-- of the arena the first pass knows the length alone
abbrev pub CheckPromise : List ℕ → ℕ → Option ℕ → Type 0
CheckPromise encoded room r = (arena : List ℕ) → length arena ≡ room → r ≡ count_from 0 (decode encoded arena)

-- what the second pass requires: whole blocks, and room for the answers
pub record Ready (encoded arena answers : List ℕ) : Type 0 where
  pub made : List steps.Call
  pub decoded : decode encoded arena ≡ calls made
  pub room : rows_size made ≤ length answers

-- why a run was refused, by number
abbrev pub run_number : RunRefusal → ℕ
run_number NoRoom = no_room
run_number Malformed = malformed_calls

-- what a run of the program gives
abbrev pub RunCalled : Type 0
RunCalled = Called (Result ℕ RunRefusal) Station

abbrev pub ran_of : Result ℕ RunRefusal → RunAnswer
ran_of (Err refusal) = refused (run_number refusal)
ran_of (Ok bytes) = done bytes

abbrev pub outcome_of : RunCalled → List ℕ → List ℕ → EncodedOutcome
outcome_of r arena answers = record { answer = ran_of r.answer; station = r.next; arena = arena; answers = answers }

-- a run is the rule
abbrev pub EncodedPromise : Station → List ℕ → List ℕ → List ℕ → RunCalled → List ℕ → List ℕ → Type 0
EncodedPromise st encoded arena answers r arena_after answers_after =
    outcome_of r arena_after answers_after ≡ encoded_rule st encoded arena answers

-- what C is given of a run: all except the station
pub record CRunOutcome : Type 0 where
  pub result : CRan
  pub arena : List ℕ
  pub answers : List ℕ

abbrev pub c_ran : RunAnswer → CRan
c_ran (refused number) = record { refusal = number; length = 0 }
c_ran (done bytes) = record { refusal = 0; length = bytes }

abbrev pub c_run_outcome : EncodedOutcome → CRunOutcome
c_run_outcome o = record { result = c_ran o.answer; arena = o.arena; answers = o.answers }

abbrev pub c_left : CRan → List ℕ → List ℕ → CRunOutcome
c_left r arena answers = record { result = r; arena = arena; answers = answers }
