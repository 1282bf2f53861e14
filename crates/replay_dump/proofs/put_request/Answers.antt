-- `replay_dump::put_request` meets its contract.
use Rattle.text.proofs.PuttingLaws.{then_out}
use Rattle.replay_dump.specs.DumpLines.{request_text}
use Rattle.replay_dump.proofs.put_request.Goals as goal

pub returns : goal.returns
unfolding request_text
returns c =
    then_out c.put_code.ensures.put (then_out c.byte.ensures.put (then_out c.put_code-2.ensures.put (then_out c.byte-2.ensures.put (then_out c.put_code-3.ensures.put (then_out c.byte-3.ensures.put (then_out c.put_code-4.ensures.put (then_out c.byte-4.ensures.put (then_out c.put_code-5.ensures.put (then_out c.byte-5.ensures.put c.small.ensures.put)))))))))
