-- `replay_line::fields::bytes_left` meets its contract: `count` bytes are read, and the words of the rest are left.
use Rattle.std.proofs.Common.{arith}
use Rattle.std.proofs.lemmas.List.{set-get_or}
use Rattle.replay_line.proofs.LineFieldsLaws.{collect_more, collect_stopped, collect_full}
use Rattle.replay_line.proofs.fields.bytes_left.Goals as goal

pub returns-in_default-clause-bytes : goal.returns-in_default-clause-bytes
returns-in_default-clause-bytes c = rw set-get_or (collect_stopped c.loop-count.invariant c.is_end.ensures.end (omega arith) c.then_some.ensures (omega arith) c.in_default.ensures.read)

pub loop-count-preserved : goal.loop-count-preserved
loop-count-preserved c = collect_more c.loop-count.invariant (omega arith) c.in-Some.ensures.read

pub returns-clause-bytes : goal.returns-clause-bytes
returns-clause-bytes c = collect_full c.loop-count.invariant c.is_end-2.ensures.end (omega arith) c.then_some-2.ensures (omega arith) (omega arith)
