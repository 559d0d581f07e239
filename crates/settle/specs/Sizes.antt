-- The size of an automaton: how many states rows reach from its root, and how many rows those have.
use Rattle.std.specs.Prelude.{ℕ, ◌+◌, List, [], ◌∷◌, length}
use Rattle.automata.specs.Automaton.{Meaning}
use Rattle.automata.specs.Rows.{rows_of}

-- how many rows the states of a list have
abbrev pub row_total : Meaning → List ℕ → ℕ
row_total m [] = 0
row_total m (s ∷ ss) = length (rows_of m s) + row_total m ss
