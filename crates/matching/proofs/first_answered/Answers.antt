-- `matching::first_answered` meets its contract.
use Rattle.std.proofs.Common.{rules, tests}
use Rattle.std.proofs.lemmas.Iterator.{YieldsList-from_slice}
use Rattle.std.proofs.lemmas.Iterator.Search.{position_from_yields_List}
use Rattle.port.proofs.SearchingLaws.{finds}
use Rattle.matching.specs.Matching.{answers}
use Rattle.matching.proofs.first_answered.Goals as goal

pub returns-clause-searched : goal.returns-clause-searched
returns-clause-searched c =
    finds (answers c.args.m) c.args.places (position_from_yields_List _ _ _ c.position.result c.position.ensures.ran (YieldsList-from_slice c.args.places cc) (λ x b q k. search (rules, tests)))
