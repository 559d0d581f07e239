-- The highest level.
use Rattle.std.proofs.Common.{◌≡◌, ℕ, max, List, [], ◌∷◌, arith}
use Rattle.std.specs.List.{fold}
use Rattle.reports.specs.Levels.{highest}

above : (xs : List ℕ) (a : ℕ) → fold (λ a x. max a x) a xs ≡ max a (highest xs)
above [] a = omega arith
above (x ∷ xs) a = omega (arith, above xs (max a x))

pub fold_highest : (xs : List ℕ) → fold (λ a x. max a x) 0 xs ≡ highest xs
fold_highest xs = omega (arith, above xs 0)
