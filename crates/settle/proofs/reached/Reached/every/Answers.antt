use Rattle.std.proofs.Common.{ap, ◌∙◌, rules, arith}
use borrow.Author.Tests.{tests}
use Rattle.std.proofs.lemmas.Iterator.{YieldsList-from_range}
use Rattle.std.proofs.lemmas.Iterator.Consumers.{YieldsList-from_filter}
use Rattle.std.proofs.lemmas.Iterator.Search.{all_from_yields_List}
use Rattle.layers.specs.Marks.{mark}
use Rattle.ledger.specs.Reach.{listed, reached}
use Rattle.ledger.specs.Ledger.{every}
use Rattle.settle.proofs.Ascending.{marks_listed, every_all}
use Rattle.settle.proofs.reached.Reached.every.Goals as goal

pub returns : goal.returns
returns g c = λ t k.
    let m = g.A.Automaton.meaning c.args.self.now.pile.now in
    let f = mark c.args.self.now.marks in
    let n = c.states.result in
    all_from_yields_List t _ _ c.all.result c.all.ensures.ran
    (YieldsList-from_filter _ f (YieldsList-from_range 0 n n c.filter.ensures.source (omega arith)) c.filter.ensures.closure (λ x b q p. search (rules, tests)))
    (λ x b q p. (g.met.F.Fn.1.step_stays c.args.test (x, tt) b q p, k x b ((g.met.F.FnMut.1.post_iff c.args.test (x, tt) b).1 (q, p))))
    ∙ every_all t _ ∙ ap (every t) (marks_listed m f c.args.self.now.exact n ∙ ap (listed (reached m)) c.states.ensures)
