-- How a line's meaning is followed from check to check, and what an exit owes.
use Rattle.std.proofs.Common.{◌≡◌, ℕ, List, [], ◌∷◌, ◌++◌, map, IsErrAnd, Some, None, Ok, Err, vec_items, Option, Result, Vec, refl, ap, ◌∙◌}
use Rattle.std.specs.declared.alloc.Global.{Global}
use Rattle.std.proofs.lemmas.List.{map_push}
use Rattle.fields.specs.declared.fault.Fault.{Fault}
use Rattle.fields.specs.declared.fault.Stop.{Stop}
use Rattle.fields.specs.declared.fault.Stop.TheVariants.{Refused}
use Rattle.fields.specs.Fault.{bind, Steps}
use Rattle.fields.specs.Tokens.{classed, first, head, spelled}
use Rattle.fields.specs.Words.{number_of}

pub past : {X Y E : Type 0} (r : Result X E) (f : X → Result Y E) (x : X) → r ≡ Ok x → bind r f ≡ f x
past r f x e = ap (λ s. bind s f) e

pub stopped : {X Y E : Type 0} (r : Result X E) (f : X → Result Y E) (e : E) → r ≡ Err e → bind r f ≡ Err e
stopped r f e h = ap (λ s. bind s f) h

-- a `?` that hands on a fault
pub refuses : {K : Type 0} (s : Result K Fault) (was is : K) (r : Result (Unit {0}) Stop) (e : Fault) → IsErrAnd r (λ y. y ≡ Refused e) → s ≡ Err e → is ≡ was → Steps s was r is
refuses s was is (Ok x) e h _ _ = absurd h
refuses s was is (Err y) e h told same = simp h (told, same)

spelled_classed : (o : Option ℕ) (f : List ℕ) → spelled (classed o f) ≡ f
spelled_classed None f = refl
spelled_classed (Some n) f = refl

pub spelled_first : (fs : List (List ℕ)) → spelled (first fs) ≡ head fs
spelled_first [] = refl
spelled_first (f ∷ fs) = spelled_classed (number_of f) f

-- an owned name is added
pub names_more : (was kept is : List (Vec ℕ Global)) (v : Vec ℕ Global) (n : List ℕ) → kept ≡ was → is ≡ kept ++ v ∷ [] → vec_items v ≡ n → map vec_items is ≡ map vec_items was ++ n ∷ []
names_more was kept is v n same more made =
    ap (map vec_items) (more ∙ ap (λ l. l ++ v ∷ []) same) ∙ map_push vec_items was v ∙ ap (λ m. map vec_items was ++ m ∷ []) made
