-- Marks that rows lead to, and that are closed under rows, are on the productive states.
use Rattle.std.proofs.Common.{◌≡◌, ℕ, ◌<◌, Bool, true, List, [], ◌∷◌, Some, refl, ⊎_elim, arith}
use Rattle.std.specs.List.{AllByRecursion}
use Rattle.std.proofs.lemmas.Bool.{and_from, both_ways, cases_lt}
use Rattle.tickets.specs.Ticket.{Ticket, Tickets, node, nil, cons}
use Rattle.automata.specs.Automaton.{Meaning, Production, Sound}
use Rattle.automata.specs.Reading.{Reading, Readings, by, rnil, rcons, Reads, ReadsAll}
use Rattle.layers.specs.Marks.{each_marked}
use Rattle.layers.specs.Marks.{Stuck}
use Rattle.layers.specs.Trim.{Productive, Usable}

module _ (m : Meaning) where
  -- a ticket for each child
  children_read : (cs : List ℕ) → AllByRecursion (Productive m) cs → (ts : Tickets) × (rs : Readings) × ReadsAll ts m cs rs
  children_read [] ps = (nil, rnil, tt)
  children_read (c ∷ cs) ps =
      let first = ps.0 in
      let rest = children_read cs ps.1 in
      (cons first.0 rest.0, rcons first.1.0 rest.1, (first.1.1, rest.2))

  -- a state with a usable row is productive
  pub usable_productive : (s k : ℕ) (p : Production) → k < m.places → m.row s k ≡ Some p → Usable m p → Productive m s
  usable_productive s k p l e ps =
      let below = children_read p.children ps in
      (node p.form below.0, (by k p below.1, (l, e, refl, below.2)))

  module _ (f : ℕ → Bool) (closed : (s k : ℕ) (p : Production) → m.row s k ≡ Some p → each_marked f p.children ≡ true → f s ≡ true) where
    mutual
      reads_marked : (t : Ticket) (s : ℕ) (r : Reading) → Reads t m s r → f s ≡ true
      reads_marked (node g ts) s (by k p rs) h = closed s k p h.1 (reads_all_marked ts p.children rs h.3)

      reads_all_marked : (ts : Tickets) (cs : List ℕ) (rs : Readings) → ReadsAll ts m cs rs → each_marked f cs ≡ true
      reads_all_marked nil [] rnil h = refl
      reads_all_marked nil [] (rcons r rs) h = absurd h
      reads_all_marked nil (c ∷ cs) rs h = absurd h
      reads_all_marked (cons t ts) [] rs h = absurd h
      reads_all_marked (cons t ts) (c ∷ cs) rnil h = absurd h
      reads_all_marked (cons t ts) (c ∷ cs) (rcons r rs) h = and_from (f c) (each_marked f cs) (reads_marked t c r h.0) (reads_all_marked ts cs rs h.1)

    pub productive_marked : (s : ℕ) → Productive m s → f s ≡ true
    productive_marked s h = reads_marked h.0 s h.1.0 h.1.1

module _ (m : Meaning) (sm : Sound m) where
  pub place_below : (s k : ℕ) (p : Production) → m.row s k ≡ Some p → k < m.places
  place_below s k p e = ⊎_elim (λ h. h) (λ h. absurd (let no_row = sm.no_place_beyond s k h in let z : ◌≡◌ {A = ℕ} 0 1 = cc in omega arith)) (cases_lt k m.places)

  pub state_below : (s k : ℕ) (p : Production) → m.row s k ≡ Some p → s < m.states
  state_below s k p e = ⊎_elim (λ h. h) (λ h. absurd (let no_row = sm.no_state_beyond s k h in let z : ◌≡◌ {A = ℕ} 0 1 = cc in omega arith)) (cases_lt s m.states)

  -- marks that no row adds to are on all productive states
  pub stuck_productive : (f : ℕ → Bool) → Stuck m f m.states → (s : ℕ) → Productive m s → f s ≡ true
  stuck_productive f stuck = productive_marked m f (λ s k p e all. ⊎_elim (λ h. h) (λ un. absurd (both_ways (each_marked f p.children) (un k p e) all)) (stuck s (state_below s k p e)))
