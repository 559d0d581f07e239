-- Trim: what is left of an automaton when only the rows stay that a whole ticket from the root can use.
use Rattle.std.specs.Prelude.{◌≡◌, ℕ, Bool, cond, ◌↔◌, Some, None, Option}
use Rattle.std.specs.List.{AllByRecursion}
use Rattle.tickets.specs.Ticket.{Ticket}
use Rattle.automata.specs.Automaton.{Meaning, Production}
use Rattle.automata.specs.Reading.{Accepts, Member}
use Rattle.automata.specs.Measure.{Ops}
use Rattle.automata.specs.Worth.{worth}
use Rattle.layers.specs.Marks.{each_marked}

-- the state accepts some ticket, of any size
abbrev pub Productive : Meaning → ℕ → Type 0
Productive m q = (t : Ticket) × Accepts m q t

-- each child of the row is productive
abbrev pub Usable : Meaning → Production → Type 0
Usable m p = AllByRecursion (Productive m) p.children

-- the root, if productive, and every child of a usable row of a kept state
pub data Kept (m : Meaning) : ℕ → Type 0 where
  root : Productive m m.root → Kept m m.root
  next : (s k : ℕ) (p : Production) (c : ℕ) → Kept m s → m.row s k ≡ Some p → Usable m p → Member c p.children → Kept m c

-- the usable rows of kept states, at their places, and nothing else
pub record Trimmed (m m' : Meaning) : Type 0 where
  pub states : m'.states ≡ m.states
  pub places : m'.places ≡ m.places
  pub root : m'.root ≡ m.root
  pub rows : (s k : ℕ) (p : Production) → m'.row s k ≡ Some p ↔ ((m.row s k ≡ Some p) × Kept m s × Usable m p)

-- by two sets of states: the rows of states in the first whose children are all in the second
abbrev pub row_kept : (ℕ → Bool) → Option Production → Option Production
row_kept f None = None
row_kept f (Some p) = cond (each_marked f p.children) (Some p) None

abbrev pub pruned : (ℕ → Bool) → (ℕ → Bool) → Meaning → Meaning
pruned keep f m = record {
  states = m.states;
  places = m.places;
  root = m.root;
  row = λ s k. cond (keep s) (row_kept f (m.row s k)) None;
}

-- the worth from the root stays
abbrev pub TrimPreserves : {M : Type 0} → Ops M → Type 0
TrimPreserves o = (m m' : Meaning) → Trimmed m m' → (t : Ticket) → worth o m' m'.root t ≡ worth o m m.root t

-- a root that accepts nothing leaves no row
abbrev pub TrimBarren : Type 0
TrimBarren = (m m' : Meaning) → Trimmed m m' → (Productive m m.root → ⊥) → (s k : ℕ) → m'.row s k ≡ None

-- there is one trimmed meaning
abbrev pub TrimOne : Type 0
TrimOne = (m a b : Meaning) → Trimmed m a → Trimmed m b → (s k : ℕ) → a.row s k ≡ b.row s k
