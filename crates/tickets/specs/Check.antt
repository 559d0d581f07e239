-- The check of a list of nodes, and the ticket that a list which passes stands for.
use Rattle.std.specs.Prelude.{◌≡◌, ℕ, zero, suc, ◌+◌, ◌-◌, ◌<◌, ◌≤◌, cond, ◌↔◌, List, [], ◌∷◌, length, take, Ok, Err, Result, nat_lt, slice_index}
use Rattle.refusals.specs.declared.refusal.TicketRefusal.{TicketRefusal}
use Rattle.refusals.specs.declared.refusal.TicketRefusal.TheVariants.{Empty, Long, Unknown, Few, Many}
use Rattle.tickets.specs.Ticket.{Ticket, Tickets, node, nil, cons, count, postfix, postfix_all, Formed, FormedAll}

-- the check of the nodes from a place on, with some trees before it
abbrev pub scan : List ℕ → ℕ → ℕ → List ℕ → Result (Unit {0}) TicketRefusal
scan arities place trees [] = cond (nat_lt 1 trees) (Err Many) (Ok tt)
scan arities place trees (f ∷ fs) =
    cond (nat_lt f (length arities)) (cond (nat_lt trees (slice_index arities f)) (Err (Few place)) (scan arities (place + 1) (trees - slice_index arities f + 1) fs)) (Err (Unknown place))

abbrev pub ticket_checked : List ℕ → List ℕ → Result (Unit {0}) TicketRefusal
ticket_checked arities [] = Err Empty
ticket_checked arities (f ∷ fs) = cond (nat_lt 256 (length (f ∷ fs))) (Err Long) (scan arities 0 0 (f ∷ fs))

abbrev pub join : Tickets → Tickets → Tickets
join nil us = us
join (cons t ts) us = cons t (join ts us)

abbrev pub first : ℕ → Tickets → Tickets
first zero ts = nil
first (suc n) nil = nil
first (suc n) (cons t ts) = cons t (first n ts)

abbrev pub rest : ℕ → Tickets → Tickets
rest zero ts = ts
rest (suc n) nil = nil
rest (suc n) (cons t ts) = rest n ts

abbrev pub last : Tickets → Ticket
last nil = node 0 nil
last (cons t nil) = t
last (cons t (cons u us)) = last (cons u us)

-- a node takes the last trees, as many as its form's arity, for its children
abbrev pub grown : List ℕ → Tickets → ℕ → Tickets
grown arities ts f = join (first (count ts - slice_index arities f) ts) (cons (node f (rest (count ts - slice_index arities f) ts)) nil)

-- the trees that stand after some nodes more
abbrev pub forest : List ℕ → Tickets → List ℕ → Tickets
forest arities ts [] = ts
forest arities ts (f ∷ fs) = forest arities (grown arities ts f) fs

-- the last tree that the nodes make
abbrev pub tree : List ℕ → List ℕ → Ticket
tree arities nodes = last (forest arities nil nodes)

-- the nodes are the postfix order of these trees, each formed, one after the other
pub record Spells (arities nodes : List ℕ) (ts : Tickets) : Type 0 where
  pub formed : FormedAll ts arities
  pub spelled : postfix_all ts ≡ nodes

-- Ok exactly at the postfix order of one formed tree, which is the only one, and else the first refusal by place
pub record CheckExact (arities nodes : List ℕ) : Type 0 where
  pub empty : ticket_checked arities nodes ≡ Err Empty ↔ nodes ≡ []
  pub long : ticket_checked arities nodes ≡ Err Long ↔ 256 < length nodes
  pub passes : ticket_checked arities nodes ≡ Ok tt ↔ (length nodes ≤ 256) × ((t : Ticket) × Formed t arities × (postfix t ≡ nodes))
  pub one_tree : (t u : Ticket) → Formed t arities → Formed u arities → postfix t ≡ postfix u → t ≡ u
  pub unknown : (p : ℕ) → ticket_checked arities nodes ≡ Err (Unknown p)
      ↔ (length nodes ≤ 256) × (p < length nodes) × ((ts : Tickets) × Spells arities (take p nodes) ts) × (length arities ≤ slice_index nodes p)
  pub few : (p : ℕ) → ticket_checked arities nodes ≡ Err (Few p)
      ↔ (length nodes ≤ 256) × (p < length nodes) × (slice_index nodes p < length arities) × ((ts : Tickets) × Spells arities (take p nodes) ts × (count ts < slice_index arities (slice_index nodes p)))
  pub many : ticket_checked arities nodes ≡ Err Many ↔ (length nodes ≤ 256) × ((ts : Tickets) × Spells arities nodes ts × (1 < count ts))
