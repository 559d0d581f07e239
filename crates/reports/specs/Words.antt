-- Words for a person.
use Rattle.std.specs.Prelude.{ℕ, List, ◌++◌, codes, decimal}
use Rattle.rules.specs.declared.bar.Nesting.{Nesting}
use Rattle.settle.specs.declared.sizes.Size.{Size}

-- a number and what it counts
abbrev pub count_text : ℕ → List ℕ → List ℕ
count_text n what = decimal n ++ what

-- numbers of forms, states, rows, levels above 0, bars and tickets
abbrev pub read_text : ℕ → ℕ → ℕ → ℕ → ℕ → ℕ → List ℕ
read_text forms states rows levels bars tickets =
    codes "read " ++ (count_text forms (codes " forms, ") ++ (count_text states (codes " states, ") ++ (count_text rows (codes " rows, ")
    ++ (count_text levels (codes " levels, ") ++ (count_text bars (codes " bars, ") ++ count_text tickets (codes " tickets\n"))))))

abbrev pub bar_text : Nesting → List ℕ
bar_text b = codes "bar: form " ++ decimal b.inner ++ codes " at position " ++ decimal b.position ++ codes " of form " ++ decimal b.outer ++ codes "\n"

-- the name of what a step makes, and its size
abbrev pub size_text : List ℕ → Size → List ℕ
size_text name s = codes "  " ++ name ++ codes ": " ++ decimal s.states ++ codes " states reached, " ++ decimal s.rows ++ codes " rows\n"
