use Rattle.std.proofs.Common.{◌≡◌, length, arith, rules}
use Rattle.automata.specs.Rows.{rows_of}
use Rattle.settle.proofs.Totals.{rows_few}
use borrow.Author.Tests.{tests}
use Rattle.std.proofs.lemmas.Iterator.Consumers.{count_from_yields_List}
use Rattle.layers.proofs.RowChains.{rows_yielded}
use Rattle.settle.proofs.sizes.count_rows.Goals as goal

pub returns : goal.returns
returns g c =
    let sm = g.A.Automaton.sound c.args.pile.now in
    let value : c.count.result ≡ length (rows_of (g.A.Automaton.meaning c.args.pile.now) c.args.state) =
    count_from_yields_List c.filter_map.result c.count.result c.count.ensures.ran
    (rows_yielded (g.A.Automaton.meaning c.args.pile.now) c.args.state _ _ c.filter_map.ensures.source c.places.ensures c.filter_map.ensures.closure (λ k r p q. search (rules, tests))) in
    record { value = value; few = omega (arith, value, rows_few (g.A.Automaton.meaning c.args.pile.now) c.args.state (g.A.Automaton.meaning c.args.pile.now).places, sm.few_places) }
