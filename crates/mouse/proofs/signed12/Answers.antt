-- `mouse::signed12` meets its contract: the laws of two's complement at 12 bits in an `i16`.
use Rattle.std.proofs.Common.{pos, ◌-ℤ◌, ◌^◌, ◌<◌, ◌∙◌, arith, rules, to_z, to_z-of_z, w16, FitsSigned}
use mir.Val.{hbits}
use Rattle.mouse.proofs.TwosComplement.{kept, lowered, difference}
use Rattle.mouse.proofs.signed12.Goals as goal

pub returns-then-bits-lt2048 : goal.returns-then-bits-lt2048
returns-then-bits-lt2048 c = kept w16 12 c.args.bits (omega arith) (omega arith)

pub returns : goal.returns
returns c =
    let small : c.args.bits < 2 ^ hbits w16 = omega arith in
    let fits : FitsSigned w16 (to_z w16 c.args.bits -ℤ pos 4096) = search (rules, difference) in
    to_z-of_z fits ∙ lowered w16 12 c.args.bits (omega arith) (omega arith)
