-- Helpers of contracts: lines answered into an output buffer.
use Rattle.std.specs.Prelude.{◌≡◌, ℕ, ◌+◌, ◌≤◌, List, length, take, drop}
use Rattle.frame.specs.Writing.{pasted}
use Rattle.replay_script.specs.declared.Progress.{Progress}
use Rattle.replay_script.specs.ReplayRuns.{next_number, answer_to}
use Rattle.replay_script.specs.Shares.{Share}

-- how answering a text ended, with the output buffer that it left
abbrev pub share_of : Progress → (text output : List ℕ) → Share
share_of r text output =
    record {
      text = take r.filled output;
      station = r.station;
      number = r.number;
      left = drop r.used text;
      full = r.full;
    }

-- the answer to a line is put behind what the output buffer holds
pub record Adds (run : Progress) (line b : List ℕ) (r : Progress) (b₁ : List ℕ) : Type 0 where
  pub text : b₁ ≡ pasted (answer_to run.station run.number line).text run.filled b
  pub filled : r.filled ≡ run.filled + length (answer_to run.station run.number line).text
  pub station : r.station ≡ (answer_to run.station run.number line).station
  pub number : r.number ≡ next_number run.number
  pub full : r.full ≡ run.full
  pub within : r.filled ≤ length b₁
