-- The encoding of one call: a block, which is a header of twelve bytes and the data of the call. Its lent buffer lies in the arena.
use Rattle.std.specs.Prelude.{ℕ, ◌+◌, Bool, cond, ◌&&◌, ◌||◌, List, eqb, leb}
use Rattle.report.specs.Sizes.{byte, joined2}
use Rattle.sequence.specs.Steps as steps

abbrev pub header_size : ℕ
header_size = 12

-- the opcodes, in the order of the rules' calls
abbrev pub take_opcode : ℕ
take_opcode = 0

abbrev pub request_opcode : ℕ
request_opcode = 1

abbrev pub cancel_opcode : ℕ
cancel_opcode = 2

abbrev pub tick_opcode : ℕ
tick_opcode = 3

abbrev pub switch_opcode : ℕ
switch_opcode = 4

abbrev pub get_paired_opcode : ℕ
get_paired_opcode = 5

abbrev pub led_opcode : ℕ
led_opcode = 6

abbrev pub list_opcode : ℕ
list_opcode = 7

abbrev pub store_opcode : ℕ
store_opcode = 8

abbrev pub restore_opcode : ℕ
restore_opcode = 9

abbrev pub last_opcode : ℕ
last_opcode = restore_opcode

-- what a header says: the opcode, three byte arguments, ticks, offset, and the lengths of the data and of the lent buffer
pub record Header : Type 0 where
  pub op : ℕ
  pub a : ℕ
  pub b : ℕ
  pub c : ℕ
  pub ticks : ℕ
  pub offset : ℕ
  pub size : ℕ
  pub lent : ℕ

-- byte 0 the opcode; 1 to 3 byte arguments; then ticks, offset, the length of the data and that of the lent buffer, two bytes each
unfoldable pub header_of : List ℕ → Header
header_of s =
    record {
      op = byte s 0;
      a = byte s 1;
      b = byte s 2;
      c = byte s 3;
      ticks = joined2 (byte s 4) (byte s 5);
      offset = joined2 (byte s 6) (byte s 7);
      size = joined2 (byte s 8) (byte s 9);
      lent = joined2 (byte s 10) (byte s 11);
    }

-- request, switch, get-paired, LED, the listing and the store are lent a buffer
abbrev pub is_writer : ℕ → Bool
is_writer op = eqb op request_opcode || (leb switch_opcode op && leb op store_opcode)

-- how much of the arena a call is lent: nothing where it writes none, whatever its field says
unfoldable pub lent_size : Header → ℕ
lent_size h = cond (is_writer h.op) h.lent 0

-- a known opcode, the data in what is left of the encoded calls, and the buffer in what is left of the arena
unfoldable pub is_whole : Header → ℕ → ℕ → Bool
is_whole h left room = leb h.op last_opcode && (leb (header_size + h.size) left && leb (lent_size h) room)

-- arguments that a call does not have are not looked at
unfoldable pub block_writer : Header → steps.Writer
block_writer h =
    cond (eqb h.op switch_opcode) (steps.switch h.a h.b)
    (cond (eqb h.op get_paired_opcode) steps.get_paired
    (cond (eqb h.op led_opcode) (steps.led h.a h.b)
    (cond (eqb h.op list_opcode) steps.list steps.store)))

unfoldable pub block_call : Header → List ℕ → List ℕ → steps.Call
block_call h bytes lent =
    cond (eqb h.op take_opcode) (steps.take bytes)
    (cond (eqb h.op request_opcode) (steps.request h.a h.b h.c h.ticks bytes h.offset lent)
    (cond (eqb h.op cancel_opcode) (steps.cancel h.a h.b h.c)
    (cond (eqb h.op tick_opcode) steps.tick
    (cond (eqb h.op restore_opcode) (steps.restore bytes) (steps.write (block_writer h) h.offset lent)))))
