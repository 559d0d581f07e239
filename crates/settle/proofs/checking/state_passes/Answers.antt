use Rattle.std.proofs.Common.{◌∙◌, rules}
use borrow.Author.Tests.{tests}
use Rattle.std.proofs.lemmas.Iterator.Search.{all_from_yields_List}
use Rattle.layers.proofs.RowChains.{rows_yielded}
use Rattle.settle.proofs.Ascending.{every_all}
use Rattle.settle.proofs.checking.state_passes.Goals as goal

pub returns : goal.returns
returns g c = λ t k.
    all_from_yields_List t _ _ c.all.result c.all.ensures.ran
    (rows_yielded (g.A.Automaton.meaning c.args.pile.now) c.args.state _ _ c.filter_map.ensures.source c.places.ensures c.filter_map.ensures.closure (λ k r p q. search (rules, tests)))
    (λ x b q p. (g.met.F.Fn.1.step_stays c.args.test (x, tt) b q p, k x b ((g.met.F.FnMut.1.post_iff c.args.test (x, tt) b).1 (q, p))))
    ∙ every_all t _
