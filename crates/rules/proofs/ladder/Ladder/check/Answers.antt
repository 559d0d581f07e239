use Rattle.std.proofs.Common.{leb, rules, tests, arith}
use Rattle.std.proofs.lemmas.Bool.Decides.{nat_tests}
use Rattle.std.proofs.lemmas.Iterator.{YieldsList-from_slice}
use Rattle.std.proofs.lemmas.Iterator.Search.{all_from_yields_List}
use Rattle.rules.proofs.ladder.Ladder.check.Goals as goal

pub returns : goal.returns
returns c =
    let low = all_from_yields_List (λ x. leb x c.args.count) _ _ c.all.result c.all.ensures.ran (YieldsList-from_slice c.args.levels.now cc) (λ x b q k. search (rules, tests)) in
    grind (arith, nat_tests)
