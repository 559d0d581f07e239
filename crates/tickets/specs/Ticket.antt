-- Tickets: finite trees of forms, of any size; their postfix order and their subtrees.
use Rattle.std.specs.Prelude.{◌≡◌, ℕ, suc, ◌-◌, ◌<◌, cond, List, [], ◌∷◌, ◌++◌, length, Some, None, Option, ◌==◌, nat_lt, slice_index}

-- a form over its children; some tickets in a row
mutual
  pub data Ticket : Type 0 where
    node : ℕ → Tickets → Ticket

  pub data Tickets : Type 0 where
    nil : Tickets
    cons : Ticket → Tickets → Tickets

abbrev pub count : Tickets → ℕ
count nil = 0
count (cons t ts) = suc (count ts)

-- the forms of the nodes, children before their parent
abbrev mutual
  pub postfix : Ticket → List ℕ
  postfix (node f ts) = postfix_all ts ++ (f ∷ [])

  pub postfix_all : Tickets → List ℕ
  postfix_all nil = []
  postfix_all (cons t ts) = postfix t ++ postfix_all ts

-- each node has a form of the list, and as many children as that form's arity
abbrev mutual
  pub Formed : Ticket → List ℕ → Type 0
  Formed (node f ts) arities = (f < length arities) × (count ts ≡ slice_index arities f) × FormedAll ts arities

  pub FormedAll : Tickets → List ℕ → Type 0
  FormedAll nil arities = Unit {0}
  FormedAll (cons t ts) arities = Formed t arities × FormedAll ts arities

-- the subtree of the node at a place of the postfix order
abbrev mutual
  pub subtree : Ticket → ℕ → Option Ticket
  subtree (node f ts) p = cond (nat_lt p (length (postfix_all ts))) (subtree_of ts p) (cond (p == length (postfix_all ts)) (Some (node f ts)) None)

  pub subtree_of : Tickets → ℕ → Option Ticket
  subtree_of nil p = None
  subtree_of (cons t ts) p = cond (nat_lt p (length (postfix t))) (subtree t p) (subtree_of ts (p - length (postfix t)))
