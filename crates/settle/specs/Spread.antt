-- What is known of marks while the reached states are looked for.
use Rattle.std.specs.Prelude.{◌≡◌, ℕ, ◌<◌, Bool, true, Some}
use Rattle.automata.specs.Automaton.{Meaning, Production}
use Rattle.layers.specs.Marks.{each_marked}
use Rattle.ledger.specs.Reach.{Reaches}

-- each marked state is reached
abbrev pub AllReached : Meaning → (ℕ → Bool) → Type 0
AllReached m marks = (s : ℕ) → marks s ≡ true → Reaches m s

-- the children of the state's rows at the places below n are marked
abbrev pub Followed : Meaning → (ℕ → Bool) → ℕ → ℕ → Type 0
Followed m marks s n = (k : ℕ) → k < n → (p : Production) → m.row s k ≡ Some p → each_marked marks p.children ≡ true
