-- `replay_dump::put_port` meets its contract: the fields in order.
use Rattle.std.specs.Prelude.{ℕ, min, ◌≤◌, ◌≡◌, refl}
use Rattle.std.proofs.Common.{ap, arith, ◌∙◌, le-ltb}
use Rattle.std.proofs.Math.Decide.{dec_le}
use Rattle.station.specs.Stations.{port_count, receiver_position, number_at}
use Rattle.text.specs.Words.{decimal}
use Rattle.text.proofs.PuttingLaws.{out_at_most, same_out, then_out}
use Rattle.replay_dump.specs.DumpLines.{features_text, places_text, port_line, port_most}
use Rattle.replay_dump.proofs.put_port.Goals as goal

-- past the last position too it is the receiver's
number_law : (k position : ℕ) → k ≡ min position port_count → number_at k ≡ number_at position
number_law k position e = by (dec_le receiver_position position)
  where
    by : Dec (receiver_position ≤ position) → number_at k ≡ number_at position
    by (yes p) = simp (le-ltb position receiver_position p, le-ltb k receiver_position (omega (arith, e, p))) refl
    by (no p) = ap number_at (omega (arith, e, p))

pub returns : goal.returns
unfolding port_line features_text places_text
returns c =
    out_at_most port_most (omega arith) (then_out c.word.ensures.put (then_out (same_out (ap decimal (c.device_at-number.ensures.number ∙ number_law _ _ c.min.ensures)) c.small.ensures.put) (then_out c.word-2.ensures.put (then_out c.put_flag.ensures.put (then_out c.word-3.ensures.put (then_out c.hex.ensures.put (then_out c.word-4.ensures.put (then_out c.hex-2.ensures.put (then_out c.word-5.ensures.put (then_out c.link.ensures.put (then_out c.word-6.ensures.put (then_out c.version.ensures.put (then_out c.word-7.ensures.put (then_out c.each.ensures.put (then_out c.word-8.ensures.put (then_out c.battery.ensures.put (then_out c.word-9.ensures.put (then_out c.each-2.ensures.put (then_out c.word-10.ensures.put (then_out c.serial.ensures.put c.byte.ensures.put))))))))))))))))))))
