-- `mouse::movement` meets its contract: refusal 3, or each field by the function that reads it.
use Rattle.std.proofs.Common.{◌≡◌, ◌∙◌, arith, length, w8, w16, eq-eqb, ne_eqb}
use Rattle.mouse.specs.Movement.{mouse_rule}
use Rattle.mouse.proofs.TwosComplement.{back, byte_law}
use Rattle.mouse.proofs.movement.Goals as goal

pub returns-then-payload-ne-PAYLOAD_LENGTH : goal.returns-then-payload-ne-PAYLOAD_LENGTH
unfolding mouse_rule
returns-then-payload-ne-PAYLOAD_LENGTH c = record {
  movement = let other : length c.args.payload.now ≡ 7 → ⊥ = λ e. omega arith in simp (ne_eqb _ _ other);
}

pub returns : goal.returns
unfolding mouse_rule
returns c =
    let whole : length c.args.payload.now ≡ 7 = omega arith in
    record {
      movement = simp (
        eq-eqb _ _ whole,
        c.join2.ensures.joined,
        back w16 _ c.x_of.type_inv ∙ c.x_of.ensures,
        back w16 _ c.y_of.type_inv ∙ c.y_of.ensures,
        back w8 _ c.cast_signed.type_inv ∙ (c.cast_signed.ensures ∙ byte_law _ (c.type_inv.payload 5).fits),
        back w8 _ c.cast_signed-2.type_inv ∙ (c.cast_signed-2.ensures ∙ byte_law _ (c.type_inv.payload 6).fits),
      );
    }
