-- The table of worths in the scratch: a line for each node, and in it a cell for each state.
use Rattle.std.specs.Prelude.{◌≡◌, ℕ, suc, ◌+◌, ◌*◌, ◌<◌, ◌≤◌, true, false, cond, ◌&&◌, List, [], ◌∷◌, length, take, drop, is_ok, Some, None, Ok, Err, Option, Result, ◌==◌, nat_lt, slice_index, slice_index_or}
use Rattle.refusals.specs.declared.refusal.WorthRefusal.{WorthRefusal}
use Rattle.refusals.specs.declared.refusal.WorthRefusal.TheVariants.{Start, Scratch}
use Rattle.tickets.specs.Ticket.{Ticket, Tickets, nil, cons, postfix, subtree}
use Rattle.automata.specs.Automaton.{Meaning, Production}
use Rattle.automata.specs.Reading.{upto}
use Rattle.automata.specs.Measure.{Ops}
use Rattle.automata.specs.Worth.{sum, worth}
use Rattle.tickets.specs.Check.{tree}

-- each place has a whole line of n cells among the first len
abbrev pub Within : ℕ → ℕ → List ℕ → Type 0
Within n len places = (i : ℕ) → i < length places → (slice_index places i + 1) * n ≤ len

-- the tree that ends at a node place: the last that the nodes up to there make
abbrev pub prefix_tree : List ℕ → List ℕ → ℕ → Ticket
prefix_tree arities nodes place = tree arities (take (suc place) nodes)

-- how many cells a call of worth writes
abbrev pub cells_needed : Meaning → Ticket → ℕ
cells_needed m t = length (postfix t) * m.states

module _ {M : Type 0} (o : Ops M) where
  -- the product of one cell of each line
  abbrev pub cells_worth : List M → ℕ → List ℕ → List ℕ → M
  cells_worth cells n [] [] = o.unit
  cells_worth cells n [] (c ∷ cs) = o.none
  cells_worth cells n (p ∷ ps) [] = o.none
  cells_worth cells n (p ∷ ps) (c ∷ cs) = o.times (slice_index_or cells (p * n + c) o.none) (cells_worth cells n ps cs)

  -- what a row adds to the worth of a node whose children have their lines at ps
  abbrev pub cells_row : List M → ℕ → List ℕ → ℕ → Option Production → M
  cells_row cells n ps f None = o.none
  cells_row cells n ps f (Some p) = cond (p.form == f && length p.children == length ps) (o.times (o.value p.points) (cells_worth cells n ps p.children)) o.none

  abbrev pub cells_node : Meaning → List M → List ℕ → ℕ → ℕ → M
  cells_node m cells ps f s = sum o (λ k. cells_row cells m.states ps f (m.row s k)) (upto m.places)

  -- the line at a place has the worths of a tree
  abbrev pub Line : Meaning → List M → ℕ → Ticket → Type 0
  Line m cells p t = (s : ℕ) → s < m.states → slice_index_or cells (p * m.states + s) o.none ≡ worth o m s t

  abbrev pub Lines : Meaning → List M → List ℕ → Tickets → Type 0
  Lines m cells [] nil = Unit {0}
  Lines m cells [] (cons t ts) = ⊥
  Lines m cells (p ∷ ps) nil = ⊥
  Lines m cells (p ∷ ps) (cons t ts) = Line m cells p t × Lines m cells ps ts

  -- the cell at node place × states + state holds the worth of that node's subtree from that state
  abbrev pub HoldsWorths : Meaning → Ticket → List M → Type 0
  HoldsWorths m t cells = (p : ℕ) (u : Ticket) → subtree t p ≡ Some u → Line m cells p u

  -- the start is a state, the scratch has a cell for each node and state, and then the worth
  abbrev pub worth_answer : Meaning → Ticket → ℕ → ℕ → Result M WorthRefusal
  worth_answer m t start room =
      cond (nat_lt start m.states) (cond (nat_lt room (cells_needed m t)) (Err Scratch) (Ok (worth o m start t))) (Err Start)

  -- what a worth leaves in the scratch: with a result the worths of the ticket's subtrees, and beyond them what was there; with a refusal all that was there
  pub record FillsScratch (m : Meaning) (t : Ticket) (r : Result M WorthRefusal) (old new : List M) : Type 0 where
    pub cells : is_ok r ≡ true → HoldsWorths m t new
    pub beyond : is_ok r ≡ true → drop (cells_needed m t) new ≡ drop (cells_needed m t) old
    pub same : is_ok r ≡ false → new ≡ old
