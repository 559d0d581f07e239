-- Rows of trees, and the trees that nodes leave.
use Rattle.std.proofs.Common.{◌≡◌, ℕ, zero, suc, ◌+◌, ◌-◌, ◌<◌, ◌≤◌, List, [], ◌∷◌, ◌++◌, length, get_or, sym, refl, ap, ◌∙◌, ap₂, append_assoc, append-nil, zero-add, arith}
use Rattle.tickets.specs.Ticket.{Ticket, Tickets, node, nil, cons, count, postfix, postfix_all, Formed, FormedAll}
use Rattle.tickets.specs.Check.{join, first, rest, last, grown, forest}

pub count_join : (ts us : Tickets) → count (join ts us) ≡ count ts + count us
count_join nil us = sym (zero-add (count us))
count_join (cons t ts) us = let h = count_join ts us in omega arith

pub join_nil : (ts : Tickets) → join ts nil ≡ ts
join_nil nil = refl
join_nil (cons t ts) = ap (cons t) (join_nil ts)

pub join_assoc : (ts us vs : Tickets) → join (join ts us) vs ≡ join ts (join us vs)
join_assoc nil us vs = refl
join_assoc (cons t ts) us vs = ap (cons t) (join_assoc ts us vs)

pub first_rest : (n : ℕ) (ts : Tickets) → join (first n ts) (rest n ts) ≡ ts
first_rest zero ts = refl
first_rest (suc n) nil = refl
first_rest (suc n) (cons t ts) = ap (cons t) (first_rest n ts)

pub count_rest : (n : ℕ) (ts : Tickets) → count (rest n ts) ≡ count ts - n
count_rest zero ts = omega arith
count_rest (suc n) nil = omega arith
count_rest (suc n) (cons t ts) = let h = count_rest n ts in omega arith

pub count_first : (n : ℕ) (ts : Tickets) → n ≤ count ts → count (first n ts) ≡ n
count_first zero ts h = refl
count_first (suc n) nil h = omega arith
count_first (suc n) (cons t ts) h = ap suc (count_first n ts (omega arith))

pub first_join : (ts us : Tickets) → first (count ts) (join ts us) ≡ ts
first_join nil us = refl
first_join (cons t ts) us = ap (cons t) (first_join ts us)

pub rest_join : (ts us : Tickets) → rest (count ts) (join ts us) ≡ us
rest_join nil us = refl
rest_join (cons t ts) us = rest_join ts us

pub postfix_join : (ts us : Tickets) → postfix_all (join ts us) ≡ postfix_all ts ++ postfix_all us
postfix_join nil us = refl
postfix_join (cons t ts) us = ap (λ xs. postfix t ++ xs) (postfix_join ts us) ∙ sym (append_assoc (postfix t) (postfix_all ts) (postfix_all us))

pub formed_join : (ts us : Tickets) (a : List ℕ) → FormedAll ts a → FormedAll us a → FormedAll (join ts us) a
formed_join nil us a h k = k
formed_join (cons t ts) us a h k = (h.0, formed_join ts us a h.1 k)

pub formed_first : (n : ℕ) (ts : Tickets) (a : List ℕ) → FormedAll ts a → FormedAll (first n ts) a
formed_first zero ts a h = tt
formed_first (suc n) nil a h = tt
formed_first (suc n) (cons t ts) a h = (h.0, formed_first n ts a h.1)

pub formed_rest : (n : ℕ) (ts : Tickets) (a : List ℕ) → FormedAll ts a → FormedAll (rest n ts) a
formed_rest zero ts a h = h
formed_rest (suc n) nil a h = tt
formed_rest (suc n) (cons t ts) a h = formed_rest n ts a h.1

pub grown_postfix : (a : List ℕ) (ts : Tickets) (f : ℕ) → postfix_all (grown a ts f) ≡ postfix_all ts ++ (f ∷ [])
grown_postfix a ts f =
    let n = count ts - get_or a f 0 in
    postfix_join (first n ts) (cons (node f (rest n ts)) nil)
    ∙ ap (λ xs. postfix_all (first n ts) ++ xs) (append-nil (postfix_all (rest n ts) ++ (f ∷ [])))
    ∙ sym (append_assoc (postfix_all (first n ts)) (postfix_all (rest n ts)) (f ∷ []))
    ∙ ap (λ xs. xs ++ (f ∷ [])) (sym (postfix_join (first n ts) (rest n ts)) ∙ ap postfix_all (first_rest n ts))

pub grown_count : (a : List ℕ) (ts : Tickets) (f : ℕ) → count (grown a ts f) ≡ count ts - get_or a f 0 + 1
grown_count a ts f =
    let n = count ts - get_or a f 0 in
    let h : n ≤ count ts = omega arith in
    count_join (first n ts) (cons (node f (rest n ts)) nil) ∙ ap (λ k. k + 1) (count_first n ts h)

pub grown_formed : (a : List ℕ) (ts : Tickets) (f : ℕ) → FormedAll ts a → f < length a → get_or a f 0 ≤ count ts → FormedAll (grown a ts f) a
grown_formed a ts f h l k =
    let n = count ts - get_or a f 0 in
    let e : count (rest n ts) ≡ get_or a f 0 = count_rest n ts ∙ omega arith in
    formed_join (first n ts) (cons (node f (rest n ts)) nil) a (formed_first n ts a h) ((l, e, formed_rest n ts a h), tt)

-- a node over the last trees
pub grown_over : (a : List ℕ) (ts us : Tickets) (f : ℕ) → count us ≡ get_or a f 0 → grown a (join ts us) f ≡ join ts (cons (node f us) nil)
grown_over a ts us f e =
    let n : count (join ts us) - get_or a f 0 ≡ count ts = let h = count_join ts us in omega arith in
    ap (λ k. join (first k (join ts us)) (cons (node f (rest k (join ts us))) nil)) n
    ∙ ap₂ (λ x y. join x (cons (node f y) nil)) (first_join ts us) (rest_join ts us)

pub last_join : (ts : Tickets) (t : Ticket) → last (join ts (cons t nil)) ≡ t
last_join nil t = refl
last_join (cons u nil) t = refl
last_join (cons u (cons v vs)) t = last_join (cons v vs) t

pub forest_append : (a xs ys : List ℕ) (ts : Tickets) → forest a ts (xs ++ ys) ≡ forest a (forest a ts xs) ys
forest_append a [] ys ts = refl
forest_append a (x ∷ xs) ys ts = forest_append a xs ys (grown a ts x)

pub forest_postfix : (a xs : List ℕ) (ts : Tickets) → postfix_all (forest a ts xs) ≡ postfix_all ts ++ xs
forest_postfix a [] ts = sym (append-nil (postfix_all ts))
forest_postfix a (x ∷ xs) ts =
    forest_postfix a xs (grown a ts x) ∙ ap (λ ys. ys ++ xs) (grown_postfix a ts x) ∙ append_assoc (postfix_all ts) (x ∷ []) xs

-- the postfix of formed trees leaves those trees
node_run : (a : List ℕ) (us : Tickets) (f : ℕ) (fs : List ℕ) (ts : Tickets) → count us ≡ get_or a f 0
    → ((gs : List ℕ) → forest a ts (postfix_all us ++ gs) ≡ forest a (join ts us) gs)
    → forest a ts (postfix (node f us) ++ fs) ≡ forest a (join ts (cons (node f us) nil)) fs
node_run a us f fs ts e run =
    ap (forest a ts) (append_assoc (postfix_all us) (f ∷ []) fs) ∙ run (f ∷ fs) ∙ ap (λ vs. forest a vs fs) (grown_over a ts us f e)

mutual
  pub forest_run : (t : Ticket) (a : List ℕ) → Formed t a → (fs : List ℕ) (ts : Tickets) → forest a ts (postfix t ++ fs) ≡ forest a (join ts (cons t nil)) fs
  forest_run (node f us) a h fs ts = node_run a us f fs ts h.1 (λ gs. forest_run_all us a h.2 gs ts)

  pub forest_run_all : (us : Tickets) (a : List ℕ) → FormedAll us a → (fs : List ℕ) (ts : Tickets) → forest a ts (postfix_all us ++ fs) ≡ forest a (join ts us) fs
  forest_run_all nil a h fs ts = ap (λ vs. forest a vs fs) (sym (join_nil ts))
  forest_run_all (cons u us) a h fs ts =
      ap (forest a ts) (append_assoc (postfix u) (postfix_all us) fs) ∙ forest_run u a h.0 (postfix_all us ++ fs) ts
      ∙ forest_run_all us a h.1 fs (join ts (cons u nil)) ∙ ap (λ vs. forest a vs fs) (join_assoc ts (cons u nil) us)

pub forest_of : (us : Tickets) (a : List ℕ) → FormedAll us a → forest a nil (postfix_all us) ≡ us
forest_of us a h = ap (forest a nil) (sym (append-nil (postfix_all us))) ∙ forest_run_all us a h [] nil
