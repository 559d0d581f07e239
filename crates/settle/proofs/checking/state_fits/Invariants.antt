use Rattle.std.proofs.Common.{leb}
use Rattle.tickets.specs.Checked.{arities_of}
use Rattle.ledger.specs.Ledger.{has_form}
use Rattle.settle.proofs.Fitting.{Surveyed}
use Rattle.settle.proofs.checking.state_fits.Given as goal

abbrev pub invariant-loop-place : goal.invariant-loop-place
invariant-loop-place g l = Surveyed (g.A.Automaton.meaning l.pile) l.state l.place (has_form (arities_of l.forms)) (λ p. leb p.points 1000) l.count l.formed l.cheap l.place
