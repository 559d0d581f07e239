use Rattle.std.proofs.Common.{◌≡◌, rules, sym, ◌∙◌}
use Rattle.std.specs.List.{list_any}
use Rattle.std.proofs.lemmas.Iterator.{YieldsList-from_slice}
use Rattle.std.proofs.lemmas.Iterator.Search.{any_from_yields_List}
use borrow.Author.Tests.{tests}
use Rattle.automata.specs.Automaton.{production}
use Rattle.automata.specs.declared.row.Row.{Row}
use Rattle.layers.specs.Marks.{mark, each_marked}
use Rattle.layers.proofs.Growing.{ready_found, found_ready}
use Rattle.layers.proofs.productive.any_ready.Goals as goal

pub returns : goal.returns
returns c =
    let f = mark c.args.marks.now in
    let rows = c.args.rows.now in
    let e : c.any.result ≡ list_any (λ (r : Row). each_marked f (production r).children) rows =
    any_from_yields_List (λ (r : Row). each_marked f (production r).children) _ _ c.any.result c.any.ensures.ran (YieldsList-from_slice rows cc) (λ x b q k. search (rules, tests)) in
    (λ t. ready_found f rows (sym e ∙ t), λ h. e ∙ found_ready f rows h)
