-- Helpers of contracts: the program's movement, in the terms of the rules.
use Rattle.std.specs.Prelude.{Result, Ok, Err}
use Rattle.report.specs.declared.Refusal.{Refusal}
use Rattle.report.specs.ReportContracts.{number_of}
use Rattle.mouse.specs.Movement.{Movement, refused, moved}
use Rattle.mouse.specs.declared.Motion.{Motion}

abbrev pub moved_of : Result Motion Refusal → Movement
moved_of (Err r) = refused (number_of r)
moved_of (Ok m) = moved m.buttons m.x m.y m.wheel m.pan
