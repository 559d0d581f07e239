-- A state whose only row has itself as child accepts nothing.
use Rattle.std.proofs.Common.{◌≡◌, ℕ, zero, suc, Bool, true, false, cond, ◌&&◌, eqb, List, [], ◌∷◌, Some, None, Option, sym, refl, ap, ◌∙◌, subst, arith}
use Rattle.tickets.specs.Ticket.{Ticket, Tickets, node, nil, cons}
use Rattle.automata.specs.Automaton.{Production}
use Rattle.automata.specs.Reading.{Reading, Readings, by, rnil, rcons, Reads, ReadsAll, Accepts}
use Rattle.examples.specs.Examples.{endless}

-- its rows have the state 0 as their child
only_child : (k : ℕ) (p : Production) → endless.row 0 k ≡ Some p → p.children ≡ 0 ∷ []
only_child k p e = go (eqb k 0) e
  where
    go : (b : Bool) → ◌≡◌ {A = Option Production} (cond b (Some (record { form = 0; points = 0; children = 0 ∷ [] })) None) (Some p) → p.children ≡ 0 ∷ []
    go true h = let same : record { form = 0; points = 0; children = 0 ∷ [] } ≡ p = cc in ap (λ (q : Production). q.children) (sym same)
    go false h = let z : ◌≡◌ {A = ℕ} 0 1 = cc in absurd (omega arith)

node_none : (f : ℕ) (ts : Tickets) → ((rs : Readings) → ReadsAll ts endless (0 ∷ []) rs → ⊥) → (r : Reading) → Reads (node f ts) endless 0 r → ⊥
node_none f ts below (by k p rs) h = below rs (subst (λ (cs : List ℕ). ReadsAll ts endless cs rs) (only_child k p h.1) h.3)

mutual
  none : (t : Ticket) (r : Reading) → Reads t endless 0 r → ⊥
  none (node f ts) r h = node_none f ts (none_below ts) r h

  none_below : (ts : Tickets) (rs : Readings) → ReadsAll ts endless (0 ∷ []) rs → ⊥
  none_below nil rs h = h
  none_below (cons t ts) rnil h = h
  none_below (cons t ts) (rcons r rs) h = none t r h.0

pub endless_is_barren : (t : Ticket) → Accepts endless 0 t → ⊥
endless_is_barren t a = none t a.0 a.1
