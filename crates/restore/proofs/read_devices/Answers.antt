-- `restore::read_devices` meets its contract: the first i devices have been read, up to a line.
use Rattle.restore.proofs.RestoringLaws.{device_read}
use Rattle.restore.proofs.read_devices.Goals as goal

pub loop-i-preserved : goal.loop-i-preserved
loop-i-preserved c = device_read c.loop-i.invariant c.loop-i-test.true c.in-Some.ensures
