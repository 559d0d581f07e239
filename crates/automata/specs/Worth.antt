-- The worth of a ticket: the sum over its readings of the product of their rows' values.
use Rattle.std.specs.Prelude.{◌≡◌, ℕ, ◌+◌, ◌≤◌, min, true, cond, ◌⊎◌, ◌↔◌, List, [], ◌∷◌, length, Some, None, Option}
use Rattle.tickets.specs.Ticket.{Ticket, Tickets, node, nil, cons}
use Rattle.automata.specs.Automaton.{Meaning, Production}
use Rattle.automata.specs.Reading.{Reading, Readings, by, rnil, rcons, Reads, Accepts, readings, fits, upto}
use Rattle.automata.specs.Measure.{Ops}
use Rattle.automata.specs.Measures.{yes_no, reading_count, fewest_points}

-- the sum of f over a list
abbrev pub sum : {M A : Type 0} → Ops M → (A → M) → List A → M
sum o f [] = o.none
sum o f (x ∷ xs) = o.plus (f x) (sum o f xs)

module _ {M : Type 0} (o : Ops M) where
  abbrev mutual
    pub reading_worth : Reading → M
    reading_worth (by k p rs) = o.times (o.value p.points) (readings_worth rs)

    pub readings_worth : Readings → M
    readings_worth rnil = o.unit
    readings_worth (rcons r rs) = o.times (reading_worth r) (readings_worth rs)

  abbrev pub worth : Meaning → ℕ → Ticket → M
  worth m q t = sum o reading_worth (readings t m q)

  -- the product of the worths of the children, each from its state
  abbrev pub children_worth : Meaning → Tickets → List ℕ → M
  children_worth m nil [] = o.unit
  children_worth m nil (c ∷ cs) = o.none
  children_worth m (cons t ts) [] = o.none
  children_worth m (cons t ts) (c ∷ cs) = o.times (worth m c t) (children_worth m ts cs)

  -- what a row adds to the worth of a node
  abbrev pub row_worth : Meaning → ℕ → Tickets → Option Production → M
  row_worth m f ts None = o.none
  row_worth m f ts (Some p) = cond (fits p f ts) (o.times (o.value p.points) (children_worth m ts p.children)) o.none

  -- the worth of a node is the sum over the places of what their rows add
  abbrev pub WorthByRows : Type 0
  WorthByRows = (m : Meaning) (q f : ℕ) (ts : Tickets) → worth m q (node f ts) ≡ sum o (λ k. row_worth m f ts (m.row q k)) (upto m.places)

-- yes exactly where the state accepts the ticket
abbrev pub YesAccepts : Type 0
YesAccepts = (m : Meaning) (q : ℕ) (t : Ticket) → (worth yes_no m q t).yes ≡ true ↔ Accepts m q t

-- the number of readings, cut at 65,535
abbrev pub CountsReadings : Type 0
CountsReadings = (m : Meaning) (q : ℕ) (t : Ticket) → (worth reading_count m q t).count ≡ min (length (readings t m q)) 65535

-- the points of a reading: those of its rows, added up
abbrev mutual
  pub total_points : Reading → ℕ
  total_points (by k p rs) = p.points + total_points_of rs

  pub total_points_of : Readings → ℕ
  total_points_of rnil = 0
  total_points_of (rcons r rs) = total_points r + total_points_of rs

-- at most the points of each reading, and those of some reading or 65,535
abbrev pub FewestOfReadings : Type 0
FewestOfReadings =
    (m : Meaning) (q : ℕ) (t : Ticket)
    → ((r : Reading) → Reads t m q r → (worth fewest_points m q t).points ≤ total_points r)
    × (((worth fewest_points m q t).points ≡ 65535) ⊎ ((r : Reading) × Reads t m q r × (total_points r ≡ (worth fewest_points m q t).points)))
