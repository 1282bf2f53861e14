-- Laws of the tick: one place that does not end, and the two parts of the whole.
use Rattle.std.specs.Prelude.{ℕ, ◌-◌, ◌≡◌, List, map}
use Rattle.std.proofs.Common.{ap, arith, ne_eqb, eqb-true}
use Rattle.report.proofs.ChoicesLaws.{by_case}
use Rattle.port.specs.declared.Request.{Request}
use Rattle.port.specs.Ticks.{Ticked}
use Rattle.port.specs.Places.{is_empty, sum_over}
use Rattle.port.specs.Ticks.{with_ticks, after_tick, one_if_ending, tick_rule}

-- an empty place has no count to lower
pub goes_on : (r : Request) {ticks : ℕ} → (r.ticks ≡ 1 → ⊥) → ticks ≡ r.ticks - 1 → with_ticks r ticks ≡ after_tick r
unfolding after_tick
goes_on r {ticks} more e =
    simp (ne_eqb r.ticks 1 more)
    (by_case (λ (x : Request). with_ticks r ticks ≡ x) (is_empty r)
    (λ none. ap (with_ticks r) (omega (arith, eqb-true r.ticks 0 none)))
    (λ some. ap (with_ticks r) e))

pub ticked : (places : List Request) {next : List Request} {ended : ℕ} → next ≡ map after_tick places → ended ≡ sum_over one_if_ending places → ◌≡◌ {A = Ticked} (record { places = next; ended = ended }) (tick_rule places)
unfolding tick_rule
ticked places p q = λ i. record { places = p i; ended = q i }
