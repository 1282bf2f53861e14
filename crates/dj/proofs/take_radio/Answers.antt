-- `dj::take_radio` meets its contract.
use Rattle.std.specs.Prelude as program
use Rattle.std.specs.Prelude.{ℕ, ◌≡◌, refl, Bool, true, false, cond, not, List, Ok, Err}
use Rattle.std.proofs.Common.{◌∙◌, ap}
use Rattle.report.specs.Refusals.{not_paired, not_declared, dirty_padding}
use Rattle.report.specs.Sizes.{dj_start}
use Rattle.report.specs.Radio.{payload_length}
use Rattle.port.specs.declared.Port.{Port}
use Rattle.port.specs.Records.{with_link}
use Rattle.port.specs.Answers.{Result, radio, refused}
use Rattle.dj.specs.Padding.{is_clean}
use Rattle.dj.specs.DjTaking.{is_declared, radio_answer, radio_rule}
use Rattle.dj.specs.DjContracts.{acceptance}
use Rattle.dj.proofs.take_radio.Goals as goal

-- what a radio report answers, by the three checks and the length
abbrev radio_by : Port → ℕ → program.Result ℕ ℕ → Result
radio_by port kind (Ok payload) = record { answer = radio kind dj_start payload; port = with_link port true }
radio_by port kind (Err number) = record { answer = refused number; port = port }

module _ (port : Port) (kind size : ℕ) (bytes : List ℕ) where
  abbrev checked : program.Result ℕ ℕ
  checked = acceptance port.paired port.reports kind size bytes

  by_checks : radio_by port kind checked ≡ radio_rule port kind size bytes
  unfolding acceptance radio_rule
  by_checks = go port.paired (is_declared port.reports kind) (is_clean kind size bytes)
    where
      go : (a b c : Bool) → radio_by port kind (cond (not a) (Err not_paired) (cond (not b) (Err not_declared) (cond (not c) (Err dirty_padding) (Ok (payload_length kind size))))) ≡ cond (not a) (record { answer = refused not_paired; port = port }) (cond (not b) (record { answer = refused not_declared; port = port }) (cond (not c) (record { answer = refused dirty_padding; port = port }) (record { answer = radio_answer kind size; port = with_link port true })))
      go false b c = refl
      go true false c = refl
      go true true false = refl
      go true true true = refl

  radio_accepted : {payload : ℕ} → Ok payload ≡ checked → ◌≡◌ {A = Result} (record { answer = radio kind dj_start payload; port = with_link port true }) (radio_rule port kind size bytes)
  radio_accepted e = ap (radio_by port kind) e ∙ by_checks

  radio_refused : {number : ℕ} → Err number ≡ checked → ◌≡◌ {A = Result} (record { answer = refused number; port = port }) (radio_rule port kind size bytes)
  radio_refused e = ap (radio_by port kind) e ∙ by_checks

pub returns-in-Ok : goal.returns-in-Ok
returns-in-Ok c =
    simp (c.with_link.ensures.changed) (radio_accepted c.args.port c.args.kind c.args.following c.args.bytes.now c.in-Ok.ensures)

pub returns-in-Err : goal.returns-in-Err
returns-in-Err c = radio_refused c.args.port c.args.kind c.args.following c.args.bytes.now c.in-Err.ensures
