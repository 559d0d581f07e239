use Rattle.std.proofs.Common.{rules}
use borrow.Author.Tests.{tests}
use Rattle.std.proofs.lemmas.Iterator.Consumers.{map_from_collect}
use Rattle.layers.proofs.RowChains.{rows_yielded}
use Rattle.layers.proofs.table.rows_at.Goals as goal

pub returns : goal.returns
returns g c = map_from_collect _ c.collect.ensures.ran (rows_yielded (g.A.Automaton.meaning c.args.below.now) c.args.state _ _ c.filter_map.ensures.source c.places.ensures c.filter_map.ensures.closure (λ k r p t. search (rules, tests)))
