-- `dj::accepted_length` meets its contract.
use Rattle.std.proofs.Common.{◌∙◌, ap, ℕ, Result, Ok, Err, refl, ◌≡◌}
use Rattle.report.specs.declared.Refusal.{Refusal}
use Rattle.std.specs.Result.{result_ok}
use Rattle.dj.specs.DjContracts.{accepted_of}
use Rattle.dj.proofs.DjTakingLaws.{length_checked}
use Rattle.dj.proofs.accepted_length.Goals as goal

same_length : (r : Result ℕ Refusal) → result_ok r ≡ result_ok (accepted_of r)
same_length (Ok length) = refl
same_length (Err refusal) = refl

pub returns : goal.returns
returns c = record {
  length = c.ok.ensures.value ∙ same_length c.accept.result ∙ ap result_ok c.accept.ensures ∙ length_checked c.args.paired c.args.reports c.args.kind c.args.following c.args.bytes.now;
}
