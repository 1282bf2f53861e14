-- `replay_dump::put_ports` meets its contract: a line for each port.
use Rattle.std.proofs.Common.{arith}
use Rattle.text.proofs.PuttingLaws.{out_at_most}
use Rattle.replay_dump.specs.DumpLines.{ports_text, dump_most}
use Rattle.replay_dump.proofs.put_ports.Goals as goal

pub returns : goal.returns
unfolding ports_text
returns c = out_at_most dump_most (omega arith) c.each.ensures.put
