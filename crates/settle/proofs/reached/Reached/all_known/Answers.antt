use Rattle.std.proofs.Common.{rules}
use borrow.Author.Tests.{tests}
use Rattle.automata.specs.Rows.{rows_of}
use Rattle.tickets.specs.Checked.{arities_of}
use Rattle.ledger.specs.Ledger.{every, has_form}
use Rattle.settle.proofs.reached.Reached.all_known.Goals as goal

pub returns : goal.returns
returns g c = c.every.ensures (λ s. every (has_form (arities_of c.args.forms.now)) (rows_of (g.A.Automaton.meaning c.args.self.now.pile.now) s)) (λ s b p. search (rules, tests))
