-- Helpers of contracts: the program's answers at a port, in the terms of the rules.
use Rattle.std.specs.Prelude.{ℕ, List, Result, Ok, Err}
use Rattle.report.specs.declared.Refusal.{Refusal}
use Rattle.report.specs.ReportContracts.{number_of}
use Rattle.port.specs.Answers as rules
use Rattle.port.specs.Waiting as waiting
use Rattle.port.specs.Ticks.{Ticked}
use Rattle.port.specs.declared.Called.{Called}
use Rattle.port.specs.declared.Port.{Port}
use Rattle.port.specs.declared.Request.{Request}
use Rattle.port.specs.declared.answer.About.{About}
use Rattle.port.specs.declared.answer.ErrorKind.{ErrorKind}
use Rattle.port.specs.declared.answer.ErrorKind.TheVariants.{Hidpp1, Hidpp2}
use Rattle.port.specs.declared.answer.Notice.{Notice}
use Rattle.port.specs.declared.answer.Notice.TheVariants.{Unpaired, Paired, EmptyList, Link, Other}
use Rattle.port.specs.declared.answer.Taken.{Taken}
use Rattle.port.specs.declared.answer.Taken.TheVariants.{Reply, Stray, Plain, Event, Failed, Radio, Noticed}

abbrev pub kind_number : ErrorKind → ℕ
kind_number Hidpp1 = rules.error1
kind_number Hidpp2 = rules.error2

abbrev pub notice_of : Notice → rules.Notice
notice_of (Unpaired port dropped) = rules.unpaired port.0 dropped
notice_of (Paired port more wpid reports dropped) = rules.paired port.0 more wpid reports dropped
notice_of EmptyList = rules.empty_list
notice_of (Link port up) = rules.link port.0 up
notice_of (Other port kind) = rules.other port.0 kind

abbrev pub about_of : About → rules.About
about_of a = record { port = a.port.0; byte2 = a.byte2.0; byte3 = a.byte3; start = a.start; size = a.length }

abbrev pub taken_of : Result Taken Refusal → rules.Answer
taken_of (Err r) = rules.refused (number_of r)
taken_of (Ok (Reply a dropped)) = rules.reply dropped (about_of a)
taken_of (Ok (Stray a)) = rules.stray (about_of a)
taken_of (Ok (Plain a)) = rules.plain (about_of a)
taken_of (Ok (Event a)) = rules.event (about_of a)
taken_of (Ok (Failed a code kind)) = rules.failed (about_of a) code (kind_number kind)
taken_of (Ok (Radio kind start size)) = rules.radio kind start size
taken_of (Ok (Noticed n)) = rules.notice (notice_of n)

abbrev pub result_of : Called (Result Taken Refusal) Port → rules.Result
result_of t = record { answer = taken_of t.answer; port = t.next }

abbrev pub room_of : Result ℕ Refusal → waiting.Room
room_of (Err r) = waiting.refused (number_of r)
room_of (Ok place) = waiting.at place

abbrev pub cancel_of : Result (Unit {0}) Refusal → waiting.CancelAnswer
cancel_of (Err r) = waiting.CancelAnswer.refused (number_of r)
cancel_of (Ok _) = waiting.done

abbrev pub cancel_result : Called (Result (Unit {0}) Refusal) Port → waiting.CancelResult
cancel_result c = record { answer = cancel_of c.answer; port = c.next }

abbrev pub ticked_of : Called ℕ (List Request) → Ticked
ticked_of t = record { places = t.next; ended = t.answer }
