-- The rows of all states as a table.
use Rattle.std.specs.Prelude.{◌≡◌, ℕ, ◌<◌, List, [], map, length, vec_items, Vec, slice_index_or}
use Rattle.std.specs.declared.alloc.Global.{Global}
use Rattle.automata.specs.declared.row.Row.{Row}
use Rattle.automata.specs.Automaton.{Meaning, Production, production}
use Rattle.automata.specs.Rows.{rows_of}

abbrev pub listing : Vec Row Global → List Production
listing v = map production (vec_items v)

abbrev pub table_rows : List (Vec Row Global) → ℕ → List Production
table_rows vs q = slice_index_or (map listing vs) q []

-- the table has the rows of the states below n
pub record TableTo (m : Meaning) (vs : List (Vec Row Global)) (n : ℕ) : Type 0 where
  pub long : length vs ≡ n
  pub holds : (q : ℕ) → q < n → table_rows vs q ≡ rows_of m q
