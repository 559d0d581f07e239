use Rattle.std.proofs.Common.{length, ap, ◌∙◌, rules, arith}
use borrow.Author.Tests.{tests}
use Rattle.std.proofs.lemmas.Iterator.{YieldsList-from_range}
use Rattle.std.proofs.lemmas.Iterator.Consumers.{YieldsList-from_filter, count_from_yields_List}
use Rattle.layers.specs.Marks.{mark}
use Rattle.settle.proofs.Ascending.{marks_listed}
use Rattle.settle.proofs.reached.Reached.number.Goals as goal

pub returns : goal.returns
returns g c =
    let f = mark c.args.self.now.marks in
    let n = c.args.state in
    count_from_yields_List c.filter.result c.count.result c.count.ensures.ran
    (YieldsList-from_filter _ f (YieldsList-from_range 0 n n c.filter.ensures.source (omega arith)) c.filter.ensures.closure (λ x b q p. search (rules, tests)))
    ∙ ap length (marks_listed (g.A.Automaton.meaning c.args.self.now.pile.now) f c.args.self.now.exact n)
