-- Document 02, Ask 2, in its words: a reply answers a request that waits with the same bytes 2 and 3; where byte 2 = 0 and the function is 1, only if its third parameter equals the request's.
use Rattle.std.specs.Prelude.{ℕ, ◌≡◌, ◌↔◌, true, List}
use Rattle.report.specs.Sizes.{byte, hidpp_start, function}
use Rattle.report.specs.Reading.{report_from}
use Rattle.port.specs.declared.Request.{Request}
use Rattle.matching.specs.Matching.{answers}
use Rattle.matching.specs.Messages.{message_of}

-- the parameters start at byte 4: byte 6 is the third
pub record Answers (bytes : List ℕ) (r : Request) : Type 0 where
  pub waits : ¬ (r.ticks ≡ 0)
  pub same2 : r.byte2.0 ≡ byte bytes 2
  pub same3 : r.byte3 ≡ byte bytes 3
  pub ping : byte bytes 2 ≡ 0 → function (byte bytes 3) ≡ 1 → byte bytes 6 ≡ r.first.2

-- exactly then
abbrev pub AnswersExactly : List ℕ → Request → Type 0
AnswersExactly bytes r = (answers (message_of (report_from hidpp_start bytes) bytes) r ≡ true) ↔ Answers bytes r
