-- The product of two automata: states, places and rows pair up, and worths multiply.
use Rattle.std.specs.Prelude.{◌≡◌, ℕ, ◌+◌, ◌*◌, ◌/◌, ◌%◌, ◌<◌, min, Bool, cond, ◌&&◌, List, map, length, Some, None, Ok, Err, Option, Result, ◌==◌, nat_le, nat_lt}
use Rattle.std.specs.List.{zip}
use Rattle.refusals.specs.declared.refusal.PileRefusal.{PileRefusal}
use Rattle.refusals.specs.declared.refusal.PileRefusal.TheVariants.{ManyStates, ManyPlaces}
use Rattle.refusals.specs.declared.refusal.WorthRefusal.{WorthRefusal}
use Rattle.refusals.specs.declared.refusal.WorthRefusal.TheVariants.{Start}
use Rattle.tickets.specs.Ticket.{Ticket}
use Rattle.automata.specs.Automaton.{Meaning, Production, Sound, all_below}
use Rattle.automata.specs.Measure.{Ops}
use Rattle.automata.specs.Worth.{worth}
use Rattle.automata.specs.Table.{worth_answer}
use Rattle.product.specs.declared.sizes.Sizes.{Sizes}

-- the number of the pair (p, q), where q is one of n
abbrev pub pair : ℕ → ℕ → ℕ → ℕ
pair n p q = p * n + q

abbrev pub pairs : ℕ → List ℕ → List ℕ → List ℕ
pairs n xs ys = map (λ p. pair n p.0 p.1) (zip xs ys)

-- two rows of one form and arity
abbrev pub alike : Production → Production → Bool
alike p q = p.form == q.form && length p.children == length q.children

abbrev pub joint : ℕ → Production → Production → Production
joint n p q = record { form = p.form; points = min (p.points + q.points) 65535; children = pairs n p.children q.children }

abbrev pub joined : ℕ → Option Production → Option Production → Option Production
joined n None b = None
joined n (Some p) None = None
joined n (Some p) (Some q) = cond (alike p q) (Some (joint n p q)) None

abbrev pub product : Meaning → Meaning → Meaning
product a b = record {
  states = a.states * b.states;
  places = a.places * b.places;
  root = pair b.states a.root b.root;
  row = λ s k. joined b.states (a.row (s / b.states) (k / b.places)) (b.row (s % b.states) (k % b.places));
}

-- at most 1,024 states, then at most 65,536 places
abbrev pub product_checked : Meaning → Meaning → Result (Unit {0}) PileRefusal
product_checked a b = cond (nat_le (a.states * b.states) 1024) (cond (nat_le (a.places * b.places) 65536) (Ok tt) (Err ManyPlaces)) (Err ManyStates)

-- a row whose children are all below n, or none
abbrev pub row_below : ℕ → Option Production → Option Production
row_below n None = None
row_below n (Some p) = cond (all_below n p.children) (Some p) None

-- the product by sizes that are kept as numbers, of which w and d are the second side's: no row where something passes them
abbrev pub sized_by : ℕ → ℕ → ℕ → ℕ → ℕ → Meaning → Meaning → Meaning
sized_by n l r w d a b = record {
  states = n;
  places = l;
  root = r;
  row = λ s k. cond (nat_lt s n && nat_lt k l) (row_below n (joined w (a.row (s / w) (k / d)) (b.row (s % w) (k % d)))) None;
}

abbrev pub sized : Sizes → Meaning → Meaning → Meaning
sized z a b = sized_by z.states z.places z.root z.width z.depth a b

-- from each pair and for each ticket, the worth from the first side's state times that from the second's
abbrev pub ProductMultiplies : {M : Type 0} → Ops M → Type 0
ProductMultiplies o =
    (a b : Meaning) → Sound a → Sound b → (t : Ticket) (p q : ℕ) → q < b.states → worth o (product a b) (pair b.states p q) t ≡ o.times (worth o a p t) (worth o b q t)

-- both are states, and then the worth from their pair
abbrev pub pair_answer : {M : Type 0} → Ops M → Meaning → Meaning → Meaning → Ticket → ℕ → ℕ → ℕ → Result M WorthRefusal
pair_answer o m a b t p q room = cond (nat_lt p a.states && nat_lt q b.states) (worth_answer o m t (pair b.states p q) room) (Err Start)
