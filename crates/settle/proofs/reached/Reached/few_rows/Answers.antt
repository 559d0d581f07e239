use Rattle.std.proofs.Common.{leb, length, rules}
use borrow.Author.Tests.{tests}
use Rattle.automata.specs.Rows.{rows_of}
use Rattle.settle.proofs.reached.Reached.few_rows.Goals as goal

pub returns : goal.returns
returns g c = c.every.ensures (λ s. leb (length (rows_of (g.A.Automaton.meaning c.args.self.now.pile.now) s)) 32) (λ s b p. search (rules, tests))
