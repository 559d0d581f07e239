-- Automata with a row for each form that a state has, and the nestings of a ticket.
use Rattle.std.specs.Prelude.{◌≡◌, ℕ, zero, suc, max, Bool, cond, ◌&&◌, ◌⊎◌, List, [], ◌∷◌, length, Some, None, Option, nat_lt, slice_index}
use Rattle.tickets.specs.Ticket.{Ticket, Tickets, node, nil, cons}
use Rattle.automata.specs.Automaton.{Meaning, Production}

-- the states of n children, from a position on
abbrev pub aims : (ℕ → ℕ) → ℕ → ℕ → List ℕ
aims to i zero = []
aims to i (suc n) = to i ∷ aims to (suc i) n

abbrev pub form_row : List ℕ → (ℕ → ℕ → ℕ) → ℕ → Production
form_row arities to f = record { form = f; points = 0; children = aims (to f) 0 (slice_index arities f) }

-- n states and a place for each form, 1 if there is none; a state has some of the forms, and a form sends its child at each position to a state
abbrev pub ruled : List ℕ → ℕ → (ℕ → ℕ → Bool) → (ℕ → ℕ → ℕ) → Meaning
ruled arities n has to = record {
  states = n;
  places = max 1 (length arities);
  root = 0;
  row = λ s k. cond (nat_lt s n && (nat_lt k (length arities) && has s k)) (Some (form_row arities to k)) None;
}

abbrev pub top_form : Ticket → ℕ
top_form (node f ts) = f

-- the form at a position
abbrev pub form_at : Tickets → ℕ → Option ℕ
form_at nil i = None
form_at (cons t ts) zero = Some (top_form t)
form_at (cons t ts) (suc i) = form_at ts i

-- some node of the ticket has form f and, directly at position i, a child of form g
abbrev mutual
  pub Nests : Ticket → ℕ → ℕ → ℕ → Type 0
  Nests (node h ts) f i g = ((h ≡ f) × (form_at ts i ≡ Some g)) ⊎ NestsAny ts f i g

  pub NestsAny : Tickets → ℕ → ℕ → ℕ → Type 0
  NestsAny nil f i g = ⊥
  NestsAny (cons t ts) f i g = Nests t f i g ⊎ NestsAny ts f i g
