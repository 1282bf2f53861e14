-- The benchmark's number for an answer: the numbers that it carries added up, over a base for its kind.
use Rattle.std.specs.Prelude.{ℕ, ◌+◌, ◌*◌, List}
use Rattle.report.specs.Sizes.{byte}
use Rattle.frame.specs.Writing as writing
use Rattle.port.specs.Answers.{About, Answer, refused, reply, stray, plain, event, failed, radio, notice}
use Rattle.port.specs.Waiting as waiting
use Rattle.restore.specs.Restoring as restoring

abbrev pub about_weight : ℕ → About → ℕ
about_weight base a = base + a.port + a.byte2 + a.byte3 + a.start + a.size

-- a notice has no more than its base
abbrev pub take_weight : Answer → ℕ
take_weight (refused number) = number
take_weight (reply dropped a) = about_weight (1000 + dropped) a
take_weight (stray a) = about_weight 2000 a
take_weight (plain a) = about_weight 3000 a
take_weight (event a) = about_weight 4000 a
take_weight (failed a code kind) = about_weight (5000 + code + kind) a
take_weight (radio kind start size) = 6000 + kind + start + size
take_weight (notice n) = 7000

abbrev pub write_weight : writing.WriteAnswer → ℕ
write_weight (writing.refused number) = number
write_weight (writing.wrote size) = size

abbrev pub cancel_weight : waiting.CancelAnswer → ℕ
cancel_weight (waiting.CancelAnswer.refused number) = number
cancel_weight waiting.done = 0

abbrev pub tick_weight : List ℕ → ℕ
tick_weight ended =
    byte ended 0 + byte ended 1 + byte ended 2 + byte ended 3 + byte ended 4 + byte ended 5 + byte ended 6

-- where a line breaks the rules, its number counts too
abbrev pub restore_weight : restoring.RestoreAnswer → ℕ
restore_weight restoring.restored = 8000
restore_weight (restoring.refused number) = number
restore_weight (restoring.refused_at number line) = number + 100 * line
