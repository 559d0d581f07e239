-- What settle wants of the rows of a state.
use Rattle.std.specs.Prelude.{ℕ, Bool, ◌&&◌, leb, List, length}
use Rattle.automata.specs.Automaton.{Meaning}
use Rattle.automata.specs.Rows.{rows_of}
use Rattle.ledger.specs.Ledger.{every, has_form}

-- at most 32 rows, each with a form of the list with its arity, and with at most 1,000 points
abbrev pub state_fitting : List ℕ → Meaning → ℕ → Bool
state_fitting arities m s = leb (length (rows_of m s)) 32 && (every (has_form arities) (rows_of m s) && every (λ p. leb p.points 1000) (rows_of m s))
