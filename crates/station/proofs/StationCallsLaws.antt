-- Laws of request, cancel and tick: what the program stores is what the rule gives.
use Rattle.std.specs.Prelude.{ℕ, ◌≡◌, Bool, List, map, set, Result}
use Rattle.std.proofs.Math.Path.{refl, ap}
use Rattle.std.proofs.Common.{◌∙◌}
use Rattle.std.proofs.Math.Bool.{true, false}
use Rattle.report.specs.Refusals.{no_such_port}
use Rattle.report.specs.Ports.{is_port}
use Rattle.report.specs.declared.Refusal.{Refusal}
use Rattle.frame.specs.FrameContracts.{Written}
use Rattle.frame.specs.Writing as writing
use Rattle.port.specs.declared.Port.{Port}
use Rattle.port.specs.declared.Called.{Called}
use Rattle.port.specs.Records.{with_places}
use Rattle.port.specs.Ticks.{Ticked, tick_rule}
use Rattle.port.specs.Waiting as waiting
use Rattle.port.specs.PortContracts.{cancel_result}
use Rattle.request.specs.RequestContracts.{checked_request, requested_of}
use Rattle.station.specs.declared.Station.{Station}
use Rattle.station.specs.Stations.{position_of, port_at, with_port}
use Rattle.station.proofs.StationsLaws.{same_port}
use Rattle.station.specs.StationCalls.{TickOutcome, RequestOutcome, requested_at, request_rule, cancelled_at, cancel_rule, ticked_port, ended_on, tick_all}
use Rattle.station.specs.StationContracts.{request_outcome, cancel_outcome}

pub cancelled_at_law : (st : Station) (device byte2 byte3 : ℕ) (c : Called (Result (Unit {0}) Refusal) Port) {position : ℕ} → is_port device ≡ true → position ≡ position_of device → cancel_result c ≡ waiting.cancel_at (port_at st position) byte2 byte3 → cancel_outcome (record { answer = c.answer; next = record { ports = set st.ports position c.next } }) ≡ cancel_rule st device byte2 byte3
unfolding cancel_rule with_port
cancelled_at_law st device byte2 byte3 c {position} port e r =
    simp port
    (ap (cancelled_at st position) r ∙ ap (λ (i : ℕ). cancelled_at st i (waiting.cancel_at (port_at st i) byte2 byte3)) e)

module _ (st : Station) (device byte2 byte3 ticks : ℕ) (params : List ℕ) (offset : ℕ) (lent : List ℕ) where
  asked : ℕ → RequestOutcome
  asked position = requested_at st position (checked_request (port_at st position) device byte2 byte3 ticks params offset lent)

  -- 5 leaves the port as it stood, and so the station
  at_port : (b : Bool) → is_port device ≡ b → asked (position_of device) ≡ request_rule st device byte2 byte3 ticks params offset lent
  unfolding asked checked_request request_rule
  at_port true e = simp e
  at_port false e = simp e (ap (λ (s : Station). refused s) (same_port st (position_of device)))
    where
      refused : Station → RequestOutcome
      refused s = record { answer = writing.refused no_such_port; station = s; lent = lent }

  pub requested : (a : Called Written Port) {position : ℕ} {after : List ℕ} → position ≡ position_of device → requested_of a after ≡ checked_request (port_at st position) device byte2 byte3 ticks params offset lent → request_outcome (record { answer = a.answer; next = record { ports = set st.ports position a.next } }) after ≡ request_rule st device byte2 byte3 ticks params offset lent
  unfolding asked with_port
  requested a {position} e r = ap (requested_at st position) r ∙ ap asked e ∙ at_port (is_port device) refl

-- one port's part of a tick
pub ticked_port_law : (p : Port) {t : Ticked} {q : Port} → t ≡ tick_rule p.places → q ≡ with_places p t.places → q ≡ ticked_port p
unfolding ticked_port
ticked_port_law p e r = r ∙ ap (λ (t : Ticked). with_places p t.places) e

pub ended_on_law : (p : Port) {t : Ticked} → t ≡ tick_rule p.places → t.ended ≡ ended_on p
unfolding ended_on
ended_on_law p e = ap (λ (t : Ticked). t.ended) e

pub ports_ticked : (ports : List Port) {next : List Port} {ended : List ℕ} → next ≡ map ticked_port ports → ended ≡ map ended_on ports → ◌≡◌ {A = TickOutcome} (record { ended = ended; station = record { ports = next } }) (tick_all (record { ports = ports }))
unfolding tick_all
ports_ticked ports p q = λ i. record { ended = q i; station = record { ports = p i } }
