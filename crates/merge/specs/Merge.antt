-- Merge: states that some grouping that respects the rows joins become one.
use Rattle.std.specs.Prelude.{◌≡◌, ℕ, ◌+◌, ◌<◌, ◌≤◌, Bool, cond, ◌&&◌, ◌↔◌, List, [], ◌∷◌, map, None, ◌==◌, nat_lt, slice_index}
use Rattle.std.specs.Option.{option_map}
use Rattle.std.specs.Cmp.Lexicographic.{pointwise}
use Rattle.tickets.specs.Ticket.{Ticket}
use Rattle.automata.specs.Automaton.{Meaning, Production, Sound}
use Rattle.automata.specs.Measure.{Ops}
use Rattle.automata.specs.Worth.{worth}
use Rattle.automata.specs.Rows.{rows_of, renamed}

abbrev pub same : Production → Production → Bool
same p q = p.form == q.form && (p.points == q.points && pointwise ◌==◌ p.children q.children)

-- how many rows of a list are the given one
abbrev pub tally : Production → List Production → ℕ
tally s [] = 0
tally s (x ∷ xs) = cond (same s x) 1 0 + tally s xs

-- two states have, with children read as groups, each row equally often; R has the rows of each state
abbrev pub Like : (ℕ → List Production) → (ℕ → ℕ) → ℕ → ℕ → Type 0
Like R g p q = (s : Production) → tally s (map (renamed g) (R p)) ≡ tally s (map (renamed g) (R q))

abbrev pub Respects : Meaning → (ℕ → ℕ) → Type 0
Respects m g = (p q : ℕ) → p < m.states → q < m.states → g p ≡ g q → Like (rows_of m) g p q

-- below n, states of one group of the first are of one group of the second
abbrev pub Refines : ℕ → (ℕ → ℕ) → (ℕ → ℕ) → Type 0
Refines n h g = (p q : ℕ) → p < n → q < n → h p ≡ h q → g p ≡ g q

-- below n, each group is named by its lowest state
abbrev pub Named : ℕ → (ℕ → ℕ) → Type 0
Named n g = (p : ℕ) → p < n → (g p ≤ p) × (g (g p) ≡ g p)

-- the coarsest grouping that respects the rows, each group named by its lowest state
pub record Coarsest (m : Meaning) (rep : ℕ → ℕ) : Type 0 where
  pub named : Named m.states rep
  pub respects : Respects m rep
  pub coarsest : (h : ℕ → ℕ) → Respects m h → Refines m.states h rep

-- what merge shows
abbrev pub merged : Meaning → (ℕ → ℕ) → Meaning
merged m rep = record {
  states = m.states;
  places = m.places;
  root = rep m.root;
  row = λ s k. cond (nat_lt s m.states) (option_map (renamed rep) (m.row (rep s) k)) None;
}

-- a list as a grouping
abbrev pub at : List ℕ → ℕ → ℕ
at xs p = slice_index xs p

-- some grouping that respects the rows has the two states in one group
abbrev pub Joined : Meaning → ℕ → ℕ → Type 0
Joined m p q = (g : ℕ → ℕ) × Respects m g × (g p ≡ g q)

-- joined exactly where some grouping that respects the rows joins them
abbrev pub MergeJoins : Type 0
MergeJoins = (m : Meaning) (rep : ℕ → ℕ) → Coarsest m rep → (p q : ℕ) → p < m.states → q < m.states → rep p ≡ rep q ↔ Joined m p q

-- there is one way to merge
abbrev pub MergeOne : Type 0
MergeOne = (m : Meaning) (rep other : ℕ → ℕ) → Coarsest m rep → Coarsest m other → (p : ℕ) → p < m.states → rep p ≡ other p

-- the worth from each state stays, and so from the root
pub record MergePreserves {M : Type 0} (o : Ops M) : Type 0 where
  pub from_state : (m : Meaning) → Sound m → (rep : ℕ → ℕ) → Coarsest m rep → (t : Ticket) (q : ℕ) → q < m.states → worth o (merged m rep) q t ≡ worth o m q t
  pub from_root : (m : Meaning) → Sound m → (rep : ℕ → ℕ) → Coarsest m rep → (t : Ticket) → worth o (merged m rep) (merged m rep).root t ≡ worth o m m.root t
