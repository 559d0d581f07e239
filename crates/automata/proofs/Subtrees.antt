-- The subtree at a node place.
use Rattle.std.proofs.Common.{◌≡◌, ℕ, zero, suc, ◌+◌, ◌-◌, ◌<◌, ◌≤◌, ◌⊎◌, List, [], ◌∷◌, ◌++◌, length, take, Some, None, Err, sym, refl, ap, ◌∙◌, subst, inl, inr, ⊎_elim, append-nil, zero-add, arith, length-append}
use Rattle.std.proofs.lemmas.List.{take-append-le, take_all}
use Rattle.std.proofs.lemmas.Bool.{true≢false, lt-ltb, le-ltb, eq-eqb, ne_eqb, cond-true, cond-false, cases_lt}
use Rattle.refusals.specs.declared.refusal.WorthRefusal.{WorthRefusal}
use Rattle.tickets.specs.Ticket.{Ticket, Tickets, node, nil, cons, postfix, postfix_all, Formed, FormedAll, subtree, subtree_of}
use Rattle.tickets.specs.Check.{join, last, forest}
use Rattle.automata.specs.Automaton.{Meaning}
use Rattle.automata.specs.Measure.{Ops}
use Rattle.automata.specs.Table.{prefix_tree, Line, HoldsWorths, FillsScratch}
use Rattle.tickets.proofs.Forests.{last_join, forest_run}

take_past : (xs ys : List ℕ) (m n : ℕ) → m ≡ length xs + n → take m (xs ++ ys) ≡ xs ++ take n ys
take_past [] ys m n e = ap (λ k. take k ys) (e ∙ zero-add n)
take_past (x ∷ xs) ys zero n e = absurd (omega arith)
take_past (x ∷ xs) ys (suc m) n e = ap (λ zs. x ∷ zs) (take_past xs ys m n (omega arith))

node_at : (a : List ℕ) (f : ℕ) (us : Tickets) (ts : Tickets) (p : ℕ) → Formed (node f us) a → p < length (postfix (node f us))
    → (p < length (postfix_all us) → subtree_of us p ≡ Some (last (forest a ts (take (suc p) (postfix_all us)))))
    → subtree (node f us) p ≡ Some (last (forest a ts (take (suc p) (postfix (node f us)))))
node_at a f us ts p h l all = go (cases_lt p (length (postfix_all us)))
  where
    xs : List ℕ
    xs = postfix_all us

    len : length (postfix_all us ++ (f ∷ [])) ≡ length (postfix_all us) + 1
    len = length-append (postfix_all us) (f ∷ [])

    go : (p < length (postfix_all us)) ⊎ (length (postfix_all us) ≤ p) → subtree (node f us) p ≡ Some (last (forest a ts (take (suc p) (postfix (node f us)))))
    go (inl k) = cond-true _ _ _ (lt-ltb p (length (postfix_all us)) k) ∙ all k ∙ ap (λ zs. Some (last (forest a ts zs))) (sym (take-append-le (suc p) (postfix_all us) (f ∷ []) k))
    go (inr k) =
        let e : p ≡ length (postfix_all us) = let n = len in omega arith in
        let w : length (postfix (node f us)) ≤ suc p = let n = len in omega arith in
        cond-false _ _ _ (le-ltb p (length (postfix_all us)) k) ∙ cond-true _ _ _ (eq-eqb p (length (postfix_all us)) e)
        ∙ ap Some (sym (ap (λ zs. last (forest a ts zs)) (take_all (suc p) (postfix (node f us)) w ∙ sym (append-nil (postfix (node f us)))) ∙ ap last (forest_run (node f us) a h [] ts) ∙ last_join ts (node f us)))

cons_at : (a : List ℕ) (u : Ticket) (us : Tickets) (ts : Tickets) (p : ℕ) → Formed u a → p < length (postfix u ++ postfix_all us)
    → (p < length (postfix u) → subtree u p ≡ Some (last (forest a ts (take (suc p) (postfix u)))))
    → ((q : ℕ) → q < length (postfix_all us) → subtree_of us q ≡ Some (last (forest a (join ts (cons u nil)) (take (suc q) (postfix_all us)))))
    → subtree_of (cons u us) p ≡ Some (last (forest a ts (take (suc p) (postfix u ++ postfix_all us))))
cons_at a u us ts p h l one more = go (cases_lt p (length (postfix u)))
  where
    len : length (postfix u ++ postfix_all us) ≡ length (postfix u) + length (postfix_all us)
    len = length-append (postfix u) (postfix_all us)

    go : (p < length (postfix u)) ⊎ (length (postfix u) ≤ p) → subtree_of (cons u us) p ≡ Some (last (forest a ts (take (suc p) (postfix u ++ postfix_all us))))
    go (inl k) = cond-true _ _ _ (lt-ltb p (length (postfix u)) k) ∙ one k ∙ ap (λ zs. Some (last (forest a ts zs))) (sym (take-append-le (suc p) (postfix u) (postfix_all us) k))
    go (inr k) =
        let q = p - length (postfix u) in
        let lq : q < length (postfix_all us) = let n = len in omega arith in
        let e : suc p ≡ length (postfix u) + suc q = omega arith in
        cond-false _ _ _ (le-ltb p (length (postfix u)) k) ∙ more q lq
        ∙ ap (λ zs. Some (last zs)) (sym (ap (forest a ts) (take_past (postfix u) (postfix_all us) (suc p) (suc q) e) ∙ forest_run u a h (take (suc q) (postfix_all us)) ts))

mutual
  subtree_in : (t : Ticket) (a : List ℕ) → Formed t a → (ts : Tickets) (p : ℕ) → p < length (postfix t) → subtree t p ≡ Some (last (forest a ts (take (suc p) (postfix t))))
  subtree_in (node f us) a h ts p l = node_at a f us ts p h l (λ k. subtree_in_all us a h.2 ts p k)

  subtree_in_all : (us : Tickets) (a : List ℕ) → FormedAll us a → (ts : Tickets) (p : ℕ) → p < length (postfix_all us) → subtree_of us p ≡ Some (last (forest a ts (take (suc p) (postfix_all us))))
  subtree_in_all nil a h ts p l = absurd (omega arith)
  subtree_in_all (cons u us) a h ts p l = cons_at a u us ts p h.0 l (λ k. subtree_in u a h.0 ts p k) (λ q k. subtree_in_all us a h.1 (join ts (cons u nil)) q k)

subtree_prefix : (a : List ℕ) (t : Ticket) → Formed t a → (p : ℕ) → p < length (postfix t) → subtree t p ≡ Some (prefix_tree a (postfix t) p)
subtree_prefix a t h p l = subtree_in t a h nil p l

subtree_past : (t : Ticket) (p : ℕ) → length (postfix t) ≤ p → subtree t p ≡ None
subtree_past (node f ts) p h =
    let n = length-append (postfix_all ts) (f ∷ []) in
    cond-false _ _ _ (le-ltb p (length (postfix_all ts)) (omega arith)) ∙ cond-false _ _ _ (ne_eqb p (length (postfix_all ts)) (omega arith))

-- lines of the trees by place are lines of the subtrees
pub holds_worths : {M : Type 0} (o : Ops M) (m : Meaning) (cells : List M) (a : List ℕ) (t : Ticket) → Formed t a
    → ((p : ℕ) → p < length (postfix t) → Line o m cells p (prefix_tree a (postfix t) p)) → HoldsWorths o m t cells
holds_worths o m cells a t h lines p u e = ⊎_elim inside (λ k. absurd (none (sym (subtree_past t p k) ∙ e))) (cases_lt p (length (postfix t)))
  where
    inside : p < length (postfix t) → Line o m cells p u
    inside l = let same : prefix_tree a (postfix t) p ≡ u = some_inj (sym (subtree_prefix a t h p l) ∙ e) in subst (λ (v : Ticket). Line o m cells p v) same (lines p l)
      where
        some_inj : {x y : Ticket} → Some x ≡ Some y → x ≡ y
        some_inj q = cc

    none : None ≡ Some u → ⊥
    none q = let z : ◌≡◌ {A = ℕ} 0 1 = cc in omega arith

-- a refusal leaves the scratch as it was
pub fills_refused : {M : Type 0} (o : Ops M) (m : Meaning) (t : Ticket) (e : WorthRefusal) (cells : List M) → FillsScratch o m t (Err e) cells cells
fills_refused o m t e cells = record { cells = λ h. absurd (true≢false (sym h)); beyond = λ h. absurd (true≢false (sym h)); same = λ h. refl }
