-- What a search answers: lines that build up an accepted ticket of the start, or none.
use Rattle.std.specs.Prelude.{◌≡◌, ℕ, true, cond, ◌↔◌, List, [], ◌∷◌, ◌++◌, Some, Ok, Err, Result, ◌≢◌, nat_lt}
use Rattle.std.specs.List.{AllByRecursion}
use Rattle.refusals.specs.declared.refusal.SearchRefusal.{SearchRefusal}
use Rattle.refusals.specs.declared.refusal.SearchRefusal.TheVariants.{Start, Lines as FewLines}
use Rattle.tickets.specs.Ticket.{Ticket}
use Rattle.automata.specs.Automaton.{Meaning, Production}
use Rattle.automata.specs.Reading.{Member}
use Rattle.automata.specs.Measures.{yes_no}
use Rattle.automata.specs.Worth.{worth}
use Rattle.search.specs.declared.line.Line.{Line}

-- the start is a state, and there is a line for each state
abbrev pub search_checked : Meaning → ℕ → ℕ → Result (Unit {0}) SearchRefusal
search_checked m start room = cond (nat_lt start m.states) (cond (nat_lt room m.states) (Err FewLines) (Ok tt)) (Err Start)

-- each line has a row whose children stand on earlier lines, and no state stands twice
abbrev pub Lines : Meaning → List ℕ → List Line → Type 0
Lines m earlier [] = Unit {0}
Lines m earlier (l ∷ ls) =
    ((p : Production) × (m.row l.state l.place ≡ Some p) × AllByRecursion (λ c. Member c earlier) p.children)
    × (Member l.state earlier → ⊥)
    × Lines m (l.state ∷ earlier) ls

-- such lines, with the start on the last
pub record Found (m : Meaning) (start : ℕ) (ls : List Line) : Type 0 where
  pub lines : Lines m [] ls
  pub ends : (before : List Line) × (l : Line) × (ls ≡ before ++ l ∷ []) × (l.state ≡ start)

-- zero exactly where the state accepts no ticket of any size
abbrev pub Tells : Meaning → ℕ → ℕ → Type 0
Tells m start n = n ≡ 0 ↔ ((t : Ticket) → (worth yes_no m start t).yes ≢ true)

-- the state has a row without children
abbrev pub Leaf : Meaning → ℕ → Type 0
Leaf m s = (k : ℕ) × (p : Production) × (m.row s k ≡ Some p) × (p.children ≡ [])
