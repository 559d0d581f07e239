-- What a search knows between its steps.
use Rattle.std.specs.Prelude.{◌≡◌, ℕ, Bool, false, List, [], map, length, Decides}
use Rattle.automata.specs.Automaton.{Meaning}
use Rattle.automata.specs.Reading.{Member}
use Rattle.search.specs.declared.line.Line.{Line}
use Rattle.layers.specs.Marks.{marked}
use Rattle.search.specs.Search.{Lines}

abbrev pub line_states : List Line → List ℕ
line_states ls = map (λ l. l.state) ls

-- the lines are good, and the marks are on their states; the start is not among them
pub record Listed (m : Meaning) (start : ℕ) (marks : ℕ → Bool) (ls : List Line) : Type 0 where
  pub good : Lines m [] ls
  pub marks_lines : (s : ℕ) → Decides (marks s) (Member s (line_states ls))
  pub counted : length ls ≡ marked marks m.states
  pub open_start : marks start ≡ false
