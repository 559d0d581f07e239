-- Entries of rows by new numbers of the states.
use Rattle.std.specs.Prelude.{ℕ, List, map}
use Rattle.automata.specs.Automaton.{Production}
use Rattle.automata.specs.Rows.{renamed}
use Rattle.ledger.specs.Ledger.{Entry, add_row}

abbrev pub numbered_rows : (ℕ → ℕ) → ℕ → List Production → List Entry
numbered_rows g s ps = map (λ p. add_row (g s) (renamed g p)) ps
