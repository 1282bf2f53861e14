-- Helpers of contracts: the program asks 5 at the port too.
use Rattle.std.specs.Prelude.{ℕ, cond, not, List, Result, Err}
use Rattle.report.specs.declared.Refusal.{Refusal}
use Rattle.report.specs.Refusals.{no_such_port}
use Rattle.report.specs.Ports.{is_port}
use Rattle.frame.specs.FrameContracts.{written_of}
use Rattle.port.specs.declared.Called.{Called}
use Rattle.port.specs.declared.Port.{Port}
use Rattle.request.specs.Requesting.{RequestAt, refused_at, request_at}

-- 5 for a number that names no port, whichever port is given
unfoldable pub checked_request : Port → ℕ → ℕ → ℕ → ℕ → List ℕ → ℕ → List ℕ → RequestAt
checked_request p device byte2 byte3 ticks params offset lent =
    cond (not (is_port device)) (refused_at no_such_port p lent)
    (request_at p device byte2 byte3 ticks params offset lent)

abbrev pub refused_with : Port → Refusal → Called (Result ℕ Refusal) Port
refused_with p refusal = record { answer = Err refusal; next = p }

-- the program's outcome, in the terms of the rules
abbrev pub requested_of : Called (Result ℕ Refusal) Port → List ℕ → RequestAt
requested_of r lent = record { answer = written_of r.answer; port = r.next; lent = lent }
