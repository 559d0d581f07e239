-- How marks grow while a trim is made.
use Rattle.std.specs.Prelude.{◌≡◌, ℕ, ◌<◌, Bool, true, false, List, Some}
use Rattle.automata.specs.Automaton.{Meaning, Production}
use Rattle.automata.specs.Reading.{Member}
use Rattle.layers.specs.Marks.{each_marked, marked}
use Rattle.layers.specs.Trim.{Productive, Kept}

-- marks stay, and there are more of them exactly if some were added
pub record Grows (old new : ℕ → Bool) (added : Bool) : Type 0 where
  pub keeps : (s : ℕ) → old s ≡ true → new s ≡ true
  pub rests : added ≡ false → new ≡ old
  pub more : added ≡ true → marked old 1024 < marked new 1024

-- a row of the list has all its children marked
abbrev pub SomeReady : (ℕ → Bool) → List Production → Type 0
SomeReady f ps = (p : Production) × Member p ps × (each_marked f p.children ≡ true)

-- the state is a child of such a row
abbrev pub Led : (ℕ → Bool) → List Production → ℕ → Type 0
Led f ps s = (p : Production) × Member p ps × (each_marked f p.children ≡ true) × Member s p.children

abbrev pub AllProductive : Meaning → (ℕ → Bool) → Type 0
AllProductive m marks = (s : ℕ) → marks s ≡ true → Productive m s

abbrev pub AllKept : Meaning → (ℕ → Bool) → Type 0
AllKept m marks = (s : ℕ) → marks s ≡ true → Kept m s

-- below n, the children of each such row of a marked state are marked
abbrev pub Spread : Meaning → (ℕ → Bool) → (ℕ → Bool) → ℕ → Type 0
Spread m f kept n = (s : ℕ) → s < n → kept s ≡ true → (k : ℕ) (p : Production) → m.row s k ≡ Some p → each_marked f p.children ≡ true → each_marked kept p.children ≡ true
