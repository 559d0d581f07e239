-- Marks on states, as a list with one for each, and the rows that they make ready.
use Rattle.std.specs.Prelude.{◌≡◌, ℕ, zero, suc, ◌+◌, ◌<◌, Bool, true, false, cond, ◌⊎◌, List, Some, slice_index_or}
use Rattle.std.specs.List.{list_all}
use Rattle.automata.specs.Automaton.{Meaning, Production}

abbrev pub mark : List Bool → ℕ → Bool
mark marks s = slice_index_or marks s false

abbrev pub each_marked : (ℕ → Bool) → List ℕ → Bool
each_marked f cs = list_all f cs

-- how many of the numbers below n are marked
abbrev pub marked : (ℕ → Bool) → ℕ → ℕ
marked f zero = 0
marked f (suc n) = marked f n + cond (f n) 1 0

-- the state has a row at the place whose children are all marked
abbrev pub Ready : Meaning → (ℕ → Bool) → ℕ → ℕ → Type 0
Ready m f s k = (p : Production) × (m.row s k ≡ Some p) × (each_marked f p.children ≡ true)

-- it has none
abbrev pub Unready : Meaning → (ℕ → Bool) → ℕ → Type 0
Unready m f s = (k : ℕ) (p : Production) → m.row s k ≡ Some p → each_marked f p.children ≡ false

-- each state below n is marked, or has no row whose children all are
abbrev pub Stuck : Meaning → (ℕ → Bool) → ℕ → Type 0
Stuck m f n = (s : ℕ) → s < n → (f s ≡ true) ⊎ Unready m f s
