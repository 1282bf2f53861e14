-- Document 01, "Ports and their records", "Refusal numbers" and "Writing": what the invariant says, read off in plain cases.
use Rattle.std.specs.Prelude.{ℕ, ◌≤◌, ◌<◌, ◌≡◌, Bool, true, false, not, ◌&&◌, length, eqb, None}
use Rattle.std.proofs.Math.Path.{refl}
use Rattle.std.proofs.Common.{sym, ◌∙◌, ap, lit<, eqb-true}
use Rattle.std.proofs.lemmas.Bool.{false≢true, not-true}
use Rattle.report.proofs.ChoicesLaws.{both}
use Rattle.frame.specs.Forbidden.{is_askable}
use Rattle.port.specs.declared.Request.{Request}
use Rattle.port.specs.Records.{empty_place, request_in, feature_at}
use Rattle.port.specs.Places.{is_empty, matches}
use Rattle.station.specs.declared.Station.{Station}
use Rattle.station.specs.Stations.{position_of, port_at, port_for}
use Rattle.reach.specs.Sound.{Reached}

module _ (st : Station) (k : Reached st) where
  -- the receiver is not paired
  receiver_unpaired : (port_for st 255).paired ≡ false
  unfolding position_of
  receiver_unpaired = (k.each 6 (lit< tt)).receiver refl

  -- no serial is known of a device that is not paired
  no_serial_unpaired : (port_for st 2).paired ≡ false → (port_for st 2).serial ≡ None
  unfolding position_of
  no_serial_unpaired = (k.each 1 (lit< tt)).unpaired

  module _ (position : ℕ) (h : position < 7) where
    -- each port has its four places and its five indexes
    four_places : length (port_at st position).places ≡ 4
    four_places = (k.each position h).waiting.all

    five_indexes : length (port_at st position).features ≡ 5
    five_indexes = (k.each position h).indexes.all

    index_bounded : (slot : ℕ) → feature_at (port_at st position).features slot ≤ 63
    index_bounded = (k.each position h).indexes.each

    ticks_bounded : (place : ℕ) → (request_in (port_at st position).places place).ticks ≤ 255
    ticks_bounded place = ((k.each position h).waiting.each place).ticks

    emptied_as_fresh : (place : ℕ) → is_empty (request_in (port_at st position).places place) ≡ true → request_in (port_at st position).places place ≡ empty_place
    emptied_as_fresh place = ((k.each position h).waiting.each place).empty

    -- two requests that wait differ in bytes 2 and 3
    one_ping : (i j : ℕ) → matches 0 0x11 (request_in (port_at st position).places i) ≡ true → matches 0 0x11 (request_in (port_at st position).places j) ≡ true → i ≡ j
    one_ping = (k.each position h).waiting.unique 0 0x11

    -- no request waits whose byte 2 no request may have
    no_request_84 : (byte3 place : ℕ) → matches 0x84 byte3 (request_in (port_at st position).places place) ≡ false
    no_request_84 byte3 place = go (matches 0x84 byte3 (request_in (port_at st position).places place)) refl
      where
        r : Request
        r = request_in (port_at st position).places place

        go : (b : Bool) → matches 0x84 byte3 (request_in (port_at st position).places place) ≡ b → b ≡ false
        go true e =
            let waits = both (not (is_empty r)) (eqb r.byte2.0 0x84 && eqb r.byte3 byte3) e in
            let is84 = eqb-true r.byte2.0 0x84 (both (eqb r.byte2.0 0x84) (eqb r.byte3 byte3) waits.1).0 in
            absurd (false≢true (sym (ap is_askable is84) ∙ ((k.each position h).waiting.each place).askable (not-true (is_empty r) waits.0)))
        go false e = refl
