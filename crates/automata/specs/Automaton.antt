-- Tree automata by what they answer.
use Rattle.std.specs.Prelude.{◌≡◌, ℕ, ◌<◌, ◌≤◌, Bool, true, ◌&&◌, List, [], ◌∷◌, length, take, Some, None, Option, nat_lt}
use Rattle.automata.specs.declared.row.Row.{Row}

-- a row: its form, its points and the state of each child; its arity is the number of children
pub record Production : Type 0 where
  pub form : ℕ
  pub points : ℕ
  pub children : List ℕ

-- what a row of the code says
abbrev pub production : Row → Production
production r = record { form = r.form; points = r.points; children = take r.arity r.children }

abbrev pub shown : Option Row → Option Production
shown None = None
shown (Some r) = Some (production r)

-- what an automaton means: its counts, its root, and the row or none at each state and place
pub record Meaning : Type 0 where
  pub states : ℕ
  pub places : ℕ
  pub root : ℕ
  pub row : ℕ → ℕ → Option Production

abbrev pub all_below : ℕ → List ℕ → Bool
all_below n [] = true
all_below n (c ∷ cs) = nat_lt c n && all_below n cs

abbrev pub Closed : ℕ → Option Production → Type 0
Closed n None = Unit {0}
Closed n (Some p) = all_below n p.children ≡ true

abbrev pub Small : Option Production → Type 0
Small None = Unit {0}
Small (Some p) = p.points ≤ 65535

-- what an implementation shows of its meaning
pub record Sound (m : Meaning) : Type 0 where
  pub some_state : 0 < m.states
  pub few_states : m.states ≤ 1024
  pub some_place : 0 < m.places
  pub few_places : m.places ≤ 65536
  pub rooted : m.root < m.states
  pub closed : (s k : ℕ) → Closed m.states (m.row s k)
  pub few_points : (s k : ℕ) → Small (m.row s k)
  pub one_arity : (s k s' k' : ℕ) (p p' : Production) → m.row s k ≡ Some p → m.row s' k' ≡ Some p' → p.form ≡ p'.form → length p.children ≡ length p'.children
  pub no_state_beyond : (s k : ℕ) → m.states ≤ s → m.row s k ≡ None
  pub no_place_beyond : (s k : ℕ) → m.places ≤ k → m.row s k ≡ None
