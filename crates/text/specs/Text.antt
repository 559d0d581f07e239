-- The bytes of a row's line and of a fault's line. Tabs (9) part the fields, and LF (10) ends each line.
use Rattle.std.specs.Prelude.{ℕ, List, [], ◌∷◌, ◌++◌, decimal, slice_index_or}
use Rattle.std.specs.List.{flat_map}
use Rattle.refusals.specs.Refusal.{report}
use Rattle.automata.specs.Automaton.{Production}
use Rattle.fields.specs.declared.fault.Fault.{Fault}

-- a tab and a number
abbrev pub figure : ℕ → List ℕ
figure k = 9 ∷ decimal k

-- R (82), state, form name, points, children
abbrev pub row_line : ℕ → List ℕ → ℕ → List ℕ → List ℕ
row_line s name p ks = 82 ∷ (figure s ++ (9 ∷ name ++ (figure p ++ (flat_map figure ks ++ 10 ∷ []))))

abbrev pub row_text : List (List ℕ) → ℕ → Production → List ℕ
row_text names s p = row_line s (slice_index_or names p.form []) p.points p.children

-- E (69), layer, number, line, field
abbrev pub fault_text : Fault → List ℕ
fault_text f = 69 ∷ (9 ∷ (report f.refusal).layer ++ (figure (report f.refusal).number ++ (figure f.line ++ (figure f.field ++ 10 ∷ []))))
