-- Readings of a ticket by the rows of an automaton: as a relation, and as a list that has each of them once.
use Rattle.std.specs.Prelude.{◌≡◌, ℕ, zero, suc, ◌<◌, Bool, cond, ◌&&◌, ◌⊎◌, ◌↔◌, List, [], ◌∷◌, ◌++◌, map, length, Some, None, Option, ◌==◌}
use Rattle.tickets.specs.Ticket.{Ticket, Tickets, node, nil, cons, count}
use Rattle.automata.specs.Automaton.{Meaning, Production}

-- a reading: for each node the place and the row that it uses
mutual
  pub data Reading : Type 0 where
    by : ℕ → Production → Readings → Reading

  pub data Readings : Type 0 where
    rnil : Readings
    rcons : Reading → Readings → Readings

-- a reading of a ticket from a state: the top node has a row of that state with its form, and each child a reading from the row's state for it
abbrev mutual
  pub Reads : Ticket → Meaning → ℕ → Reading → Type 0
  Reads (node f ts) m q (by k p rs) = (k < m.places) × (m.row q k ≡ Some p) × (p.form ≡ f) × ReadsAll ts m p.children rs

  pub ReadsAll : Tickets → Meaning → List ℕ → Readings → Type 0
  ReadsAll nil m [] rnil = Unit {0}
  ReadsAll nil m [] (rcons r rs) = ⊥
  ReadsAll nil m (c ∷ cs) rs = ⊥
  ReadsAll (cons t ts) m [] rs = ⊥
  ReadsAll (cons t ts) m (c ∷ cs) rnil = ⊥
  ReadsAll (cons t ts) m (c ∷ cs) (rcons r rs) = Reads t m c r × ReadsAll ts m cs rs

-- a state accepts a ticket that has some reading from it
abbrev pub Accepts : Meaning → ℕ → Ticket → Type 0
Accepts m q t = (r : Reading) × Reads t m q r

abbrev pub fits : Production → ℕ → Tickets → Bool
fits p f ts = p.form == f && length p.children == count ts

-- the numbers below n, ascending
abbrev pub upto : ℕ → List ℕ
upto zero = []
upto (suc n) = upto n ++ (n ∷ [])

abbrev pub concat : {A : Type 0} → List (List A) → List A
concat [] = []
concat (x ∷ xs) = x ++ concat xs

abbrev pub combine : List Reading → List Readings → List Readings
combine [] bs = []
combine (x ∷ xs) bs = map (rcons x) bs ++ combine xs bs

-- the readings that use the row at place k, or none, above given readings of the children
abbrev pub row_readings : ℕ → ℕ → Tickets → (List ℕ → List Readings) → Option Production → List Reading
row_readings k f ts below None = []
row_readings k f ts below (Some p) = cond (fits p f ts) (map (by k p) (below p.children)) []

-- all readings of a ticket from a state
abbrev mutual
  pub readings : Ticket → Meaning → ℕ → List Reading
  readings (node f ts) m q = concat (map (λ k. row_readings k f ts (readings_all ts m) (m.row q k)) (upto m.places))

  pub readings_all : Tickets → Meaning → List ℕ → List Readings
  readings_all nil m [] = rnil ∷ []
  readings_all nil m (c ∷ cs) = []
  readings_all (cons t ts) m [] = []
  readings_all (cons t ts) m (c ∷ cs) = combine (readings t m c) (readings_all ts m cs)

abbrev pub Member : {A : Type 0} → A → List A → Type 0
Member z [] = ⊥
Member z (x ∷ xs) = (z ≡ x) ⊎ Member z xs

abbrev pub Distinct : {A : Type 0} → List A → Type 0
Distinct [] = Unit {0}
Distinct (x ∷ xs) = (Member x xs → ⊥) × Distinct xs

-- the list has what is so, and nothing else, each once
pub record ListsOnce {A : Type 0} (P : A → Type 0) (xs : List A) : Type 0 where
  pub each : (x : A) → Member x xs ↔ P x
  pub once : Distinct xs

abbrev pub ReadingsExact : Type 0
ReadingsExact = (t : Ticket) (m : Meaning) (q : ℕ) → ListsOnce (Reads t m q) (readings t m q)
