-- `request::request_at` meets its contract.
use mathlib.Core.Path.{sym, ◌∙◌, ap}
use Rattle.port.specs.Records.{with_places}
use Rattle.port.specs.PortContracts.{room_of}
use Rattle.request.proofs.RequestingLaws.{ask_no_port, ask_forbidden, ask_no_room, ask_refused, asks}
use Rattle.request.proofs.request_at.Goals as goal

pub returns-then-not-is_port : goal.returns-then-not-is_port
returns-then-not-is_port c = record {
  outcome = ask_no_port _ _ _ _ _ _ _ _ _ (sym c.is_port.ensures.named ∙ c.if-not-is_port.true) c.refuse.ensures;
}

pub returns-then-is_forbidden : goal.returns-then-is_forbidden
returns-then-is_forbidden c = record {
  outcome = ask_forbidden _ _ _ _ _ _ _ _ (sym c.is_port.ensures.named ∙ c.if-not-is_port.false) _ (sym c.is_forbidden.ensures ∙ c.if-is_forbidden.true) c.refuse-then-is_forbidden.ensures;
}

pub returns-then-not-fits : goal.returns-then-not-fits
returns-then-not-fits c = record {
  outcome = ask_no_room _ _ _ _ _ _ _ _ (sym c.is_port.ensures.named ∙ c.if-not-is_port.false) (sym c.is_forbidden.ensures ∙ c.if-is_forbidden.false) _ (sym c.fits.ensures.fitting ∙ c.if-not-fits.true) c.refuse-then-not-fits.ensures;
}

pub returns-in-Err : goal.returns-in-Err
returns-in-Err c = record {
  outcome = ask_refused _ _ _ _ _ _ _ _ (sym c.is_port.ensures.named ∙ c.if-not-is_port.false) (sym c.is_forbidden.ensures ∙ c.if-is_forbidden.false) (sym c.fits.ensures.fitting ∙ c.if-not-fits.false) _ (sym c.room_for.ensures.admission ∙ ap room_of c.in-Err.is) c.refuse-in-Err.ensures;
}

pub returns-in-Ok : goal.returns-in-Ok
returns-in-Ok c = record {
  outcome = asks _ _ _ _ _ _ _ _ (sym c.is_port.ensures.named ∙ c.if-not-is_port.false) (sym c.is_forbidden.ensures ∙ c.if-is_forbidden.false) (sym c.fits.ensures.fitting ∙ c.if-not-fits.false) c.write_request.result (sym c.room_for.ensures.admission ∙ ap room_of c.in-Ok.is) c.waiting_request-request.ensures (c.with_places.ensures.changed ∙ ap (with_places _) c.with_request-places.ensures.stored) c.write_request.ensures.outcome;
}
