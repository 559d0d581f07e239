-- A list whose elements moved down by one over a struck place.
use Rattle.std.specs.Prelude.{ℕ, ◌+◌, ◌-◌, List, ◌++◌, take, drop}

-- each element after `at` and before `end` has moved down by one
unfoldable pub closed : {X : Type 0} → List X → ℕ → ℕ → List X
closed xs at end = take at xs ++ (take (end - (at + 1)) (drop (at + 1) xs) ++ drop (end - 1) xs)
