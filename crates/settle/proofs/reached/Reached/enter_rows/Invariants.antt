use Rattle.std.proofs.Common.{◌≡◌, map}
use Rattle.automata.specs.Reading.{concat}
use Rattle.ledger.specs.Reach.{listed, reached}
use Rattle.ledger.specs.Ledger.{enter_all, row_entries}
use Rattle.register.specs.Held.{held}
use Rattle.settle.proofs.reached.Reached.enter_rows.Given as goal

abbrev pub invariant-loop-state : goal.invariant-loop-state
invariant-loop-state g l =
    let m = g.A.Automaton.meaning l.self.pile.now in
    held l.target ≡ enter_all (held l.initial.target) (concat (map (row_entries m) (listed (reached m) l.state)))
