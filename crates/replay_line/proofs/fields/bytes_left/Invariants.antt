-- `replay_line::fields::bytes_left` meets its contract: `count` bytes are read, and the words of the rest are left.
use Rattle.replay_line.proofs.LineFieldsLaws.{Collecting}
use Rattle.replay_line.proofs.fields.bytes_left.Given as goal

abbrev pub invariant-loop-count : goal.invariant-loop-count
invariant-loop-count l = Collecting l.text l.rest l.bytes l.count
