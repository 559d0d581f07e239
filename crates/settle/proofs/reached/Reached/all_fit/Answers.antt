use Rattle.std.proofs.Common.{rules}
use borrow.Author.Tests.{tests}
use Rattle.tickets.specs.Checked.{arities_of}
use Rattle.settle.specs.Fits.{state_fitting}
use Rattle.settle.proofs.reached.Reached.all_fit.Goals as goal

pub returns : goal.returns
returns g c = c.every.ensures (state_fitting (arities_of c.args.forms.now) (g.A.Automaton.meaning c.args.self.now.pile.now)) (λ s b p. search (rules, tests))
