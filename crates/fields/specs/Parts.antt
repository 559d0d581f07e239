-- Lines of a sheet and fields of a line, and what stands before and after a mark.
use Rattle.std.specs.Prelude.{◌≡◌, ℕ, ◌<◌, cond, List, [], ◌∷◌, ◌++◌, length, Some, None, Option, ◌==◌, ◌≢◌}
use Rattle.std.specs.List.{AllByRecursion, slice_split, onto_first}
use Rattle.std.specs.Borrow.{Bor}

-- each LF (10) ends a line; the last may lack it
abbrev pub lines : List ℕ → List (List ℕ)
lines [] = []
lines (b ∷ bs) = cond (b == 10) ([] ∷ lines bs) (onto_first b (lines bs))

-- tabs (9) part the fields
abbrev pub fields : List ℕ → List (List ℕ)
fields bs = slice_split (λ b. b == 9) bs

abbrev pub before : ℕ → List ℕ → List ℕ
before s [] = []
before s (b ∷ bs) = cond (b == s) [] (b ∷ before s bs)

abbrev pub after : ℕ → List ℕ → Option (List ℕ)
after s [] = None
after s (b ∷ bs) = cond (b == s) (Some bs) (after s bs)

-- what an optional reference points to
abbrev pub seen : Option (Bor (List ℕ)) → Option (List ℕ)
seen None = None
seen (Some x) = Some x.now

-- the fields that are left of a line
abbrev pub left : Option (List ℕ) → List (List ℕ)
left None = []
left (Some bs) = fields bs

-- no line, or the first and what is left, which is shorter
abbrev pub FirstLine : List ℕ → Option (Bor (List ℕ) × Bor (List ℕ)) → Type 0
FirstLine bs None = bs ≡ []
FirstLine bs (Some p) = (lines bs ≡ p.0.now ∷ lines p.1.now) × (length p.1.now < length bs)

-- lines with an LF after each
abbrev pub ended : List (List ℕ) → List ℕ
ended [] = []
ended (l ∷ ls) = l ++ 10 ∷ ended ls

-- the sheet with an LF after its last line, where it lacks one
abbrev pub closed : List ℕ → List ℕ
closed [] = []
closed (b ∷ []) = cond (b == 10) (b ∷ []) (b ∷ 10 ∷ [])
closed (b ∷ c ∷ bs) = b ∷ closed (c ∷ bs)

-- fields with a tab between two
abbrev pub tabbed : List (List ℕ) → List ℕ
tabbed [] = []
tabbed (f ∷ []) = f
tabbed (f ∷ g ∷ fs) = f ++ 9 ∷ tabbed (g ∷ fs)

abbrev pub Lacks : ℕ → List ℕ → Type 0
Lacks s = AllByRecursion (λ b. b ≢ s)

-- lines and fields put together give the sheet and the line, and hold no mark
pub record Parted (bs : List ℕ) : Type 0 where
  pub sheet : ended (lines bs) ≡ closed bs
  pub no_lf : AllByRecursion (Lacks 10) (lines bs)
  pub line : tabbed (fields bs) ≡ bs
  pub no_tab : AllByRecursion (Lacks 9) (fields bs)

abbrev pub AllParted : Type 0
AllParted = (bs : List ℕ) → Parted bs
