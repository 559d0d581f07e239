use Rattle.std.proofs.Common.{◌≡◌, Some, true, false, rules}
use borrow.Author.Tests.{tests}
use Rattle.std.proofs.lemmas.Iterator.{first_from_Range}
use Rattle.automata.specs.Automaton.{Production}
use Rattle.layers.specs.Marks.{mark, each_marked, Ready}
use Rattle.search.proofs.Searches.{Tried, tried_ready, tried_unready, ready_among}
use Rattle.search.proofs.search.ready.Goals as goal

pub returns : goal.returns
returns g c =
    let m = g.A.Automaton.meaning c.args.automaton.now in
    let f = mark c.args.marks.now in
    let s = c.args.state in
    ready_among m (g.A.Automaton.sound c.args.automaton.now) f s c.places.result c.find.result _ _ _ c.places.ensures
    (first_from_Range _ _ _ c.find.result (λ k. Ready m f s k) (λ k. (p : Production) → m.row s k ≡ Some p → each_marked f p.children ≡ false) c.find.ensures.ran
    (λ k q t. tried_ready m f s k (let u : Tried m f s k true = search (rules, tests) in u)) (λ k q t. let u : Tried m f s k false = search (rules, tests) in (search (rules, tests), tried_unready m f s k u)))
