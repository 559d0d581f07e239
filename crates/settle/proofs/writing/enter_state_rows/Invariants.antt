use Rattle.std.proofs.Common.{◌≡◌, get_or}
use Rattle.automata.specs.Rows.{rows_below}
use Rattle.ledger.specs.Ledger.{enter_all}
use Rattle.register.specs.Held.{held}
use Rattle.settle.specs.Entries.{numbered_rows}
use Rattle.settle.proofs.writing.enter_state_rows.Given as goal

abbrev pub invariant-loop-place : goal.invariant-loop-place
invariant-loop-place g l =
    held l.target ≡ enter_all (held l.initial.target) (numbered_rows (λ c. get_or l.numbers c 0) l.state (rows_below (g.A.Automaton.meaning l.pile) l.state l.place))
