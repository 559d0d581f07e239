-- What a search goes by when it answers, in any automaton, and what that says of tickets.
use Rattle.std.specs.Prelude.{◌≡◌, ℕ, ◌<◌, Bool, false, List}
use Rattle.automata.specs.Automaton.{Meaning, Sound}
use Rattle.search.specs.declared.line.Line.{Line}
use Rattle.search.specs.Search.{Found, Tells}
use Rattle.layers.specs.Marks.{Stuck}

-- some set of states has every state with a row whose children are all in it, and not the start
abbrev pub Exhausted : Meaning → ℕ → Type 0
Exhausted m start = (f : ℕ → Bool) × Stuck m f m.states × (f start ≡ false)

-- lines that build up to the start, or nothing left to build from
abbrev pub Searched : Meaning → ℕ → ℕ → List Line → Type 0
Searched m start n ls = (0 < n → Found m start ls) × (n ≡ 0 → Exhausted m start)

-- such an answer is zero exactly where the state accepts no ticket of any size
abbrev pub SearchTells : Type 0
SearchTells = (m : Meaning) → Sound m → (start n : ℕ) (ls : List Line) → Searched m start n ls → Tells m start n
