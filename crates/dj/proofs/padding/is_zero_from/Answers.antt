-- `dj::padding::is_zero_from` meets its contract: what `get` gives are the bytes from the offset on.
use Rattle.std.proofs.Common.{◌≡◌, ◌∙◌, ap, ℕ, ◌-◌, eqb, rules, tests, arith, length, take, drop, length-drop, take_all}
use Rattle.std.proofs.lemmas.Iterator.{YieldsList-from_slice}
use Rattle.std.proofs.lemmas.Iterator.Search.{all_from_yields_List}
use Rattle.dj.specs.Padding.{all_zero}
use Rattle.dj.proofs.PaddingLaws.{all_zero_is}
use Rattle.dj.proofs.padding.is_zero_from.Goals as goal

pub returns-in-Some : goal.returns-in-Some
returns-in-Some c =
    let bytes = c.args.bytes.now in
    let offset = c.args.offset in
    let got : c.in-Some.rest.now ≡ take (length bytes - offset) (drop offset bytes) = c.in-Some.ensures.lookup.0.2 in
    let rest : c.in-Some.rest.now ≡ drop offset bytes = got ∙ take_all _ _ (omega (arith, length-drop offset bytes)) in
    record {
      zero = all_from_yields_List (λ (x : ℕ). eqb x 0) _ _ c.all.result c.all.ensures.ran (YieldsList-from_slice c.in-Some.rest.now cc) (λ x b q k. search (rules, tests)) ∙ all_zero_is c.in-Some.rest.now ∙ ap all_zero rest;
    }
