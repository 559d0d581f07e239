-- What a checked list of forms has.
use Rattle.std.proofs.Common.{◌≡◌, ℕ, zero, suc, ◌≤◌, Bool, true, false, cond, leb, List, [], ◌∷◌, length, get_or, is_ok, Ok, Err, refl, arith}
use Rattle.std.proofs.lemmas.Bool.{and_parts, leb-true}
use Rattle.refusals.specs.declared.refusal.RegisterRefusal.{RegisterRefusal}
use Rattle.refusals.specs.declared.refusal.RegisterRefusal.TheVariants.{HighArity, FullForms}
use Rattle.tickets.specs.declared.forms.Forms.{Forms}
use Rattle.tickets.specs.Forms.{each_at_most, forms_checked}
use Rattle.tickets.specs.Checked.{arities_of}

pub at_most : (n : ℕ) (xs : List ℕ) → each_at_most n xs ≡ true → (i : ℕ) → get_or xs i 0 ≤ n
at_most n [] e i = omega arith
at_most n (x ∷ xs) e zero = leb-true x n (and_parts (leb x n) (each_at_most n xs) e).0
at_most n (x ∷ xs) e (suc i) = at_most n xs (and_parts (leb x n) (each_at_most n xs) e).1 i

parts : (a : List ℕ) → is_ok (forms_checked a) ≡ true → (length a ≤ 64) × ((f : ℕ) → get_or a f 0 ≤ 4)
parts a e = go (each_at_most 4 a) refl (leb (length a) 64) refl e
  where
    go : (x : Bool) → each_at_most 4 a ≡ x → (y : Bool) → leb (length a) 64 ≡ y
        → is_ok {T = Unit {0}} {E = RegisterRefusal} (cond x (cond y (Ok tt) (Err FullForms)) (Err HighArity)) ≡ true → (length a ≤ 64) × ((f : ℕ) → get_or a f 0 ≤ 4)
    go true ex true ey h = (leb-true (length a) 64 ey, at_most 4 a ex)
    go true ex false ey h = let z : ◌≡◌ {A = ℕ} 0 1 = cc in absurd (omega arith)
    go false ex y ey h = let z : ◌≡◌ {A = ℕ} 0 1 = cc in absurd (omega arith)

pub forms_few : (f : Forms) → length (arities_of f) ≤ 64
forms_few f = (parts (arities_of f) f.few).0

pub forms_low : (f : Forms) (i : ℕ) → get_or (arities_of f) i 0 ≤ 4
forms_low f = (parts (arities_of f) f.few).1
