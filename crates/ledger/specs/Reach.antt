-- The states that rows reach from the root of an automaton, and how settle numbers them.
use Rattle.std.specs.Prelude.{◌≡◌, ℕ, zero, suc, ◌<◌, Bool, false, cond, ◌&&◌, ◌||◌, List, [], ◌∷◌, ◌++◌, length, Some, None, Decides, Option, ◌==◌, nat_eq, slice_index}
use Rattle.automata.specs.Automaton.{Meaning, Production, Sound}

-- the root, and each child of a row of a reached state
pub data Reaches (m : Meaning) : ℕ → Type 0 where
  start : Reaches m m.root
  next : (s k i : ℕ) (p : Production) → Reaches m s → m.row s k ≡ Some p → i < length p.children → Reaches m (slice_index p.children i)

abbrev pub any_below : (ℕ → Bool) → ℕ → Bool
any_below p zero = false
any_below p (suc n) = p n || any_below p n

abbrev pub any_of : (ℕ → Bool) → List ℕ → Bool
any_of p [] = false
any_of p (x ∷ xs) = p x || any_of p xs

-- the flags that n rounds of a step set
abbrev pub rounds : ((ℕ → Bool) → ℕ → Bool) → ℕ → ℕ → Bool
rounds step zero s = false
rounds step (suc n) s = step (rounds step n) s

abbrev pub row_reaches : ℕ → Option Production → Bool
row_reaches c None = false
row_reaches c (Some p) = any_of (nat_eq c) p.children

-- the root, and each child of a row of a flagged state
abbrev pub onward : Meaning → (ℕ → Bool) → ℕ → Bool
onward m flags c = c == m.root || any_below (λ s. flags s && any_below (λ k. row_reaches c (m.row s k)) m.places) m.states

-- the reached states as flags
abbrev pub reached : Meaning → ℕ → Bool
reached m = rounds (onward m) m.states

-- which is exact
abbrev pub ReachedExact : Type 0
ReachedExact = (m : Meaning) → Sound m → (s : ℕ) → Decides (reached m s) (Reaches m s)

-- the flagged numbers below n, ascending
abbrev pub listed : (ℕ → Bool) → ℕ → List ℕ
listed f zero = []
listed f (suc n) = listed f n ++ cond (f n) (n ∷ []) []

abbrev pub reached_states : Meaning → List ℕ
reached_states m = listed (reached m) m.states

-- the new number of a state: how many reached states are below it
abbrev pub number : Meaning → ℕ → ℕ
number m s = length (listed (reached m) s)
