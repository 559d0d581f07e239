-- The worth of a node over the list of its state's rows.
use Rattle.std.proofs.Common.{◌≡◌, ℕ, zero, suc, List, [], ◌∷◌, ◌++◌, Some, None, Option, sym, refl, ◌∙◌, ap₂}
use Rattle.std.specs.Option.{option_to_list}
use Rattle.std.specs.List.{AllByRecursion}
use Rattle.tickets.specs.Ticket.{Tickets, node}
use Rattle.automata.specs.Automaton.{Meaning, Production}
use Rattle.automata.specs.Reading.{upto}
use Rattle.automata.specs.Measure.{Ops, Laws}
use Rattle.automata.specs.Worth.{sum, worth, row_worth}
use Rattle.automata.specs.Rows.{rows_below, rows_of}
use Rattle.automata.proofs.Sums.{sum_append}
use Rattle.automata.proofs.ByRows.{worth_by_rows}

pub all_append : {A : Type 0} (P : A → Type 0) (xs ys : List A) → AllByRecursion P xs → AllByRecursion P ys → AllByRecursion P (xs ++ ys)
all_append P [] ys h k = k
all_append P (x ∷ xs) ys h k = (h.0, all_append P xs ys h.1 k)

-- what holds of every row of a state
pub all_rows : (P : Production → Type 0) (m : Meaning) (q : ℕ) → ((k : ℕ) (p : Production) → m.row q k ≡ Some p → P p) → (n : ℕ) → AllByRecursion P (rows_below m q n)
all_rows P m q h zero = tt
all_rows P m q h (suc n) = all_append P (rows_below m q n) (option_to_list (m.row q n)) (all_rows P m q h n) (one (m.row q n) refl)
  where
    one : (r : Option Production) → m.row q n ≡ r → AllByRecursion P (option_to_list r)
    one None e = tt
    one (Some p) e = (h n p e, tt)

module _ {M : Type 0} {o : Ops M} (laws : Laws o) where
  pub sum_all : {A : Type 0} (P : A → Type 0) (f g : A → M) → ((a : A) → P a → f a ≡ g a) → (xs : List A) → AllByRecursion P xs → sum o f xs ≡ sum o g xs
  sum_all P f g e [] h = refl
  sum_all P f g e (x ∷ xs) h = ap₂ o.plus (e x h.0) (sum_all P f g e xs h.1)

  pub worth_by_list : (m : Meaning) (q f : ℕ) (ts : Tickets) → worth o m q (node f ts) ≡ sum o (λ p. row_worth o m f ts (Some p)) (rows_of m q)
  worth_by_list m q f ts = worth_by_rows laws m q f ts ∙ go m.places
    where
      one : (r : Option Production) → o.plus (row_worth o m f ts r) o.none ≡ sum o (λ p. row_worth o m f ts (Some p)) (option_to_list r)
      one None = laws.plus_none o.none
      one (Some p) = refl

      go : (n : ℕ) → sum o (λ k. row_worth o m f ts (m.row q k)) (upto n) ≡ sum o (λ p. row_worth o m f ts (Some p)) (rows_below m q n)
      go zero = refl
      go (suc n) =
          sum_append laws (λ k. row_worth o m f ts (m.row q k)) (upto n) (n ∷ [])
          ∙ ap₂ o.plus (go n) (one (m.row q n))
          ∙ sym (sum_append laws (λ p. row_worth o m f ts (Some p)) (rows_below m q n) (option_to_list (m.row q n)))
