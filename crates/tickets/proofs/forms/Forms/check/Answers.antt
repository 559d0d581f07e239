use Rattle.std.proofs.Common.{leb, rules, tests, arith}
use Rattle.std.proofs.lemmas.Bool.Decides.{nat_tests}
use Rattle.std.proofs.lemmas.Iterator.{YieldsList-from_slice}
use Rattle.std.proofs.lemmas.Iterator.Search.{all_from_yields_List}
use Rattle.tickets.proofs.forms.Forms.check.Goals as goal

pub returns-then-arities-gt-MOST_FORMS : goal.returns-then-arities-gt-MOST_FORMS
returns-then-arities-gt-MOST_FORMS c =
    let low = all_from_yields_List (λ x. leb x 4) _ _ c.all.result c.all.ensures.ran (YieldsList-from_slice c.args.arities.now cc) (λ x b q k. search (rules, tests)) in
    grind (arith, nat_tests)

pub returns : goal.returns
returns c =
    let low = all_from_yields_List (λ x. leb x 4) _ _ c.all.result c.all.ensures.ran (YieldsList-from_slice c.args.arities.now cc) (λ x b q k. search (rules, tests)) in
    grind (arith, nat_tests)
