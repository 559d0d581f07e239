-- Lists of forms. A form is its number in the list, and has an arity.
use Rattle.std.specs.Prelude.{ℕ, Bool, cond, List, length, Ok, Err, Result, nat_le}
use Rattle.std.specs.List.{list_all}
use Rattle.refusals.specs.declared.refusal.RegisterRefusal.{RegisterRefusal}
use Rattle.refusals.specs.declared.refusal.RegisterRefusal.TheVariants.{HighArity, FullForms}

abbrev pub each_at_most : ℕ → List ℕ → Bool
each_at_most n xs = list_all (λ x. nat_le x n) xs

-- arities of 0 to 4, and at most 64 of them
abbrev pub forms_checked : List ℕ → Result (Unit {0}) RegisterRefusal
forms_checked arities = cond (each_at_most 4 arities) (cond (nat_le (length arities) 64) (Ok tt) (Err FullForms)) (Err HighArity)
