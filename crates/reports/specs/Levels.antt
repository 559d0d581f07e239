-- The levels of a sheet.
use Rattle.std.specs.Prelude.{ℕ, max, List, [], ◌∷◌}

-- the highest level; 0 where there is none
abbrev pub highest : List ℕ → ℕ
highest [] = 0
highest (n ∷ ns) = max n (highest ns)
