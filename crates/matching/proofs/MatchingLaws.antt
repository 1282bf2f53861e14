-- Laws of matching: only a ping can wait with a report's bytes 2 and 3 and not be answered by it.
use Rattle.std.specs.Prelude.{◌≡◌, refl, Bool, true, false, ◌&&◌}
use Rattle.std.proofs.Common.{◌∙◌, ap}
use Rattle.port.specs.declared.Port.{Port}
use Rattle.port.specs.declared.Request.{Request}
use Rattle.port.specs.Places.{matches, first_at}
use Rattle.port.specs.Waiting.{waiting_at, is_found}
use Rattle.matching.specs.declared.Message.{Message}
use Rattle.matching.specs.Matching.{is_ping, answers, answered_at, ping_waits}

-- but for pings, a request that waits with the report's bytes 2 and 3 is answered by it
pub answered_waiting : (p : Port) (m : Message) → is_ping m.byte2.0 m.byte3 ≡ false → waiting_at p m.byte2.0 m.byte3 ≡ answered_at p m
answered_waiting p m e = λ i. first_at (λ r. same r i) p.places
  where
    same : (r : Request) → matches m.byte2.0 m.byte3 r ≡ answers m r
    same r = simp e (by (matches m.byte2.0 m.byte3 r))
      where
        by : (b : Bool) → b ≡ (b && true)
        by true = refl
        by false = refl

-- so where none is answered, only a ping can wait with them
module _ (p : Port) (m : Message) (none : is_found (answered_at p m) ≡ false) where
  pub only_pings : is_found (waiting_at p m.byte2.0 m.byte3) ≡ ping_waits p m
  only_pings = by (is_ping m.byte2.0 m.byte3) refl
    where
      by : (b : Bool) → is_ping m.byte2.0 m.byte3 ≡ b → is_found (waiting_at p m.byte2.0 m.byte3) ≡ (b && is_found (waiting_at p m.byte2.0 m.byte3))
      by true e = refl
      by false e = ap is_found (answered_waiting p m e) ∙ none
