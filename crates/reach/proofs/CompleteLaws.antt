-- Document 01, gathered: the proof.
use Rattle.std.proofs.Common.{subst}
use Rattle.port.proofs.SearchingLaws.{searches_exactly, finds_exactly}
use Rattle.sequence.specs.Readings.{ReadFits}
use Rattle.sequence.proofs.ReadingsLaws.{read_fits, register_range}
use Rattle.sequence.proofs.SentenceLaws.{by_answer, refused_keeps}
use Rattle.reach.proofs.CallCasesLaws.{hidpp_answers, request_answers, cancel_answers, by_cases}
use Rattle.reach.proofs.RefusalTableLaws.{by_the_table}
use Rattle.reach.proofs.LowestPlacesLaws.{lowest_places}
use Rattle.reach.proofs.StepLaws as steps
use Rattle.reach.proofs.CompletionLaws.{completion}
use Rattle.reach.specs.Complete.{Complete}

pub complete : Complete
complete =
    record {
      reached = λ st begins cs. steps.reached_run st cs (steps.reached_start begins);
      cases = by_cases;
      refusals = by_the_table;
      hidpp = hidpp_answers;
      request = request_answers;
      cancel = cancel_answers;
      searches = searches_exactly;
      finds = finds_exactly;
      lowest = lowest_places;
      register = λ bytes r e. register_range r.byte2 (subst (ReadFits bytes) e (read_fits bytes)).1.0;
      refused = refused_keeps;
      named = by_answer;
      ends = steps.call_ends;
      changes = steps.call_changes;
      completes = completion;
      accounted = steps.accounted;
    }
