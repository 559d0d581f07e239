-- The rows of a state as a list, and rows with their children renumbered.
use Rattle.std.specs.Prelude.{ℕ, zero, suc, List, [], ◌++◌, map}
use Rattle.std.specs.Option.{option_to_list}
use Rattle.automata.specs.Automaton.{Meaning, Production}

-- the rows of a state at the places below n, and at all places, in order
abbrev pub rows_below : Meaning → ℕ → ℕ → List Production
rows_below m q zero = []
rows_below m q (suc n) = rows_below m q n ++ option_to_list (m.row q n)

abbrev pub rows_of : Meaning → ℕ → List Production
rows_of m q = rows_below m q m.places

-- a row with each child under another number
abbrev pub renamed : (ℕ → ℕ) → Production → Production
renamed g p = record { form = p.form; points = p.points; children = map g p.children }
