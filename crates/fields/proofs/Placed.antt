-- Laws of the search for a name.
use Rattle.std.proofs.Common.{◌≡◌, ℕ, ◌+◌, ◌≤◌, Bool, true, false, cond, not, ltb, List, [], ◌∷◌, map, length, Some, None, vec_items, Vec, sym, refl, ap, ap₂, arith}
use borrow.Author.Tests.{ltb-false}
use Rattle.std.specs.declared.alloc.Global.{Global}
use Rattle.std.specs.Str.{bytes_eq}
use Rattle.std.specs.List.{position, position_or_len}
use Rattle.std.proofs.lemmas.Slice.Eq.{bytes_eq-Decides}
use Rattle.std.proofs.lemmas.List.{length-map}
use Rattle.std.proofs.lemmas.List.Sums.{fails_before_first}
use Rattle.std.proofs.lemmas.List.Quantifiers.{position-Some}
use Rattle.std.proofs.lemmas.Bool.Decides.{not_from_Decides}
use Rattle.fields.specs.Names.{place_of, PlacesExact}

first_map : {X Y : Type 0} (p : Y → Bool) (f : X → Y) (xs : List X) → position_or_len (λ x. p (f x)) xs ≡ position_or_len p (map f xs)
first_map p f [] = refl
first_map p f (x ∷ xs) = ap (λ k. cond (not (p (f x))) (1 + k) 0) (first_map p f xs)

-- the place in a list of owned names is that in the list of what they spell
pub place_of_owned : (n : List ℕ) (vs : List (Vec ℕ Global)) → position (λ v. bytes_eq (vec_items v) n) vs ≡ place_of n (map vec_items vs)
place_of_owned n vs = ap₂ (λ i l. cond (ltb i l) (Some i) None) (first_map (λ m. bytes_eq m n) vec_items vs) (sym (length-map vs vec_items))

no_place : (p l : ℕ) → cond (ltb p l) (Some p) None ≡ None → l ≤ p
no_place p l e = at (ltb p l) refl e
  where
    at : (t : Bool) → ltb p l ≡ t → cond t (Some p) None ≡ None → l ≤ p
    at true h e = absurd (let z : ◌≡◌ {A = ℕ} 0 1 = cc in omega arith)
    at false h e = ltb-false p l h

pub places_exact : PlacesExact
places_exact n ms = (
  λ k e. let r = position-Some (λ m. bytes_eq m n) ms k [] e in (r.0, (bytes_eq-Decides _ n).0 r.1, λ j lt. not_from_Decides _ (bytes_eq-Decides _ n) (r.2 j lt)),
  λ e j lt. not_from_Decides _ (bytes_eq-Decides _ n) (fails_before_first (λ m. bytes_eq m n) ms j [] (let none = no_place _ (length ms) e in omega arith)),
)
