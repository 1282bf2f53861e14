-- `hidpp::take_reply` meets its contract.
use Rattle.port.specs.Answers.{reply}
use Rattle.hidpp.specs.HidppTaking.{reply_rule}
use Rattle.hidpp.proofs.HidppTakingLaws.{carry}
use Rattle.hidpp.proofs.take_reply.Goals as goal

pub returns : goal.returns
unfolding reply_rule
returns c = carry (reply 0) c.about_itself-about.ensures (cc (c.after_reply.ensures, c.request_in-request.ensures.found, c.end_at.ensures.ended))
