-- `restore::read_devices` meets its contract: the first i devices have been read, up to a line.
use Rattle.restore.proofs.RestoringLaws.{Devices}
use Rattle.restore.proofs.read_devices.Given as goal

abbrev pub invariant-loop-i : goal.invariant-loop-i
invariant-loop-i l = Devices l.text l.ports l.line l.rest l.i
