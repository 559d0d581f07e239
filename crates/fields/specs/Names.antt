-- The checks of one field, at line l and field k, and the place of a name in a list of names.
use Rattle.std.specs.Prelude.{◌≡◌, ℕ, ◌+◌, ◌<◌, cond, ◌&&◌, nat_le, List, [], ◌∷◌, length, is_some, Some, None, Ok, Err, Option, Result, ◌≢◌, slice_index_or}
use Rattle.std.specs.List.{position}
use Rattle.std.specs.Str.{bytes_eq}
use Rattle.refusals.specs.declared.refusal.SheetRefusal.TheVariants.{Fields, Name, Number, Given, NotGiven}
use Rattle.fields.specs.declared.fault.Fault.{Fault}
use Rattle.fields.specs.Fault.{of_field, bind}
use Rattle.fields.specs.Words.{is_name}

-- the first place of the name n
abbrev pub place_of : List ℕ → List (List ℕ) → Option ℕ
place_of n ms = position (λ m. bytes_eq m n) ms

-- the place of a name is its first, and there is none exactly where the name is not in the list
abbrev pub PlacesExact : Type 0
PlacesExact = (n : List ℕ) (ms : List (List ℕ)) →
    ((k : ℕ) → place_of n ms ≡ Some k → (k < length ms) × (slice_index_or ms k [] ≡ n) × ((j : ℕ) → j < k → slice_index_or ms j [] ≢ n))
    × (place_of n ms ≡ None → (j : ℕ) → j < length ms → slice_index_or ms j [] ≢ n)

-- a name
abbrev pub name_at : ℕ → ℕ → List ℕ → Result (List ℕ) Fault
name_at l k f = cond (is_name f) (Ok f) (Err (of_field Name l k))

-- a name that is not given yet
abbrev pub fresh_at : List (List ℕ) → ℕ → ℕ → List ℕ → Result (Unit {0}) Fault
fresh_at ms l k n = cond (is_some (place_of n ms)) (Err (of_field Given l k)) (Ok tt)

-- a number
abbrev pub number_at : ℕ → ℕ → Option ℕ → Result ℕ Fault
number_at l k None = Err (of_field Number l k)
number_at l k (Some n) = Ok n

abbrev pub found_at : Option ℕ → ℕ → ℕ → Result ℕ Fault
found_at None l k = Err (of_field NotGiven l k)
found_at (Some p) l k = Ok p

-- the place of a name that is given
abbrev pub given_at : List (List ℕ) → ℕ → ℕ → List ℕ → Result ℕ Fault
given_at ms l k n = found_at (place_of n ms) l k

-- a field that is a name, not given yet
abbrev pub new_at : List (List ℕ) → ℕ → ℕ → List ℕ → Result (List ℕ) Fault
new_at ms l k f = bind (name_at l k f) (λ n. bind (fresh_at ms l k n) (λ _. Ok n))

-- a field that is a name, given: its place
abbrev pub known_at : List (List ℕ) → ℕ → ℕ → List ℕ → Result ℕ Fault
known_at ms l k f = bind (name_at l k f) (given_at ms l k)

-- the places of the names in fs, the first of which is field k
abbrev pub places_at : List (List ℕ) → ℕ → ℕ → List (List ℕ) → Result (List ℕ) Fault
places_at ms l k [] = Ok []
places_at ms l k (f ∷ fs) =
    bind (known_at ms l k f) (λ p.
    bind (places_at ms l (k + 1) fs) (λ ps.
    Ok (p ∷ ps)))

-- m to n fields; another number is refused at the kind
abbrev pub count_at : ℕ → ℕ → ℕ → List (List ℕ) → Result (Unit {0}) Fault
count_at l m n fs = cond (nat_le m (length fs) && nat_le (length fs) n) (Ok tt) (Err (of_field Fields l 1))
