-- What passes the check of a ticket is one formed tree, and one formed tree passes.
use Rattle.std.proofs.Common.{◌≡◌, ℕ, suc, ◌+◌, ◌-◌, ◌<◌, ◌≤◌, Bool, true, false, cond, ltb, List, [], ◌∷◌, ◌++◌, length, get_or, take, drop, is_ok, Ok, Err, Result, sym, refl, ap, ◌∙◌, ap₂, append_assoc, append-nil, add-zero, zero-add, arith, length-append}
use Rattle.std.proofs.lemmas.List.{take-append-drop, length-take-le}
use Rattle.std.proofs.lemmas.Bool.{le-ltb, cond-false}
use Rattle.refusals.specs.declared.refusal.TicketRefusal.{TicketRefusal}
use Rattle.refusals.specs.declared.refusal.TicketRefusal.TheVariants.{Long}
use Rattle.tickets.specs.Ticket.{Ticket, Tickets, node, nil, cons, count, postfix, postfix_all, Formed, FormedAll}
use Rattle.tickets.specs.Check.{scan, ticket_checked, last, grown, forest, tree, Spells}
use Rattle.tickets.proofs.Scans.{scan_more, scan_first, scan_last}
use Rattle.tickets.proofs.Forests.{grown_count, grown_formed, forest_postfix, forest_of}

abbrev Verdict : Type 0
Verdict = Result (Unit {0}) TicketRefusal

pub checked_scan : (a nodes : List ℕ) → 0 < length nodes → length nodes ≤ 256 → ticket_checked a nodes ≡ scan a 0 0 nodes
checked_scan a [] h k = absurd (omega arith)
checked_scan a (f ∷ fs) h k = cond-false _ _ _ (le-ltb 256 (length (f ∷ fs)) k)

-- formed trees pass, one by one
node_scan : (a : List ℕ) (us : Tickets) (f p d : ℕ) (fs : List ℕ) → f < length a → count us ≡ get_or a f 0
    → ((gs : List ℕ) → scan a p d (postfix_all us ++ gs) ≡ scan a (p + length (postfix_all us)) (d + count us) gs)
    → scan a p d (postfix (node f us) ++ fs) ≡ scan a (p + length (postfix (node f us))) (d + 1) fs
node_scan a us f p d fs l e run =
    let n = length (postfix_all us) in
    let h : length (postfix_all us ++ (f ∷ [])) ≡ n + 1 = length-append (postfix_all us) (f ∷ []) in
    let x : p + n + 1 ≡ p + length (postfix (node f us)) = omega arith in
    let y : d + count us - get_or a f 0 + 1 ≡ d + 1 = omega arith in
    ap (scan a p d) (append_assoc (postfix_all us) (f ∷ []) fs) ∙ run (f ∷ fs)
    ∙ scan_more a (p + n) (d + count us) f fs l (omega arith) ∙ ap₂ (λ x y. scan a x y fs) x y

mutual
  pub scan_run : (t : Ticket) (a : List ℕ) → Formed t a → (p d : ℕ) (fs : List ℕ) → scan a p d (postfix t ++ fs) ≡ scan a (p + length (postfix t)) (d + 1) fs
  scan_run (node f us) a h p d fs = node_scan a us f p d fs h.0 h.1 (λ gs. scan_run_all us a h.2 p d gs)

  pub scan_run_all : (us : Tickets) (a : List ℕ) → FormedAll us a → (p d : ℕ) (fs : List ℕ) → scan a p d (postfix_all us ++ fs) ≡ scan a (p + length (postfix_all us)) (d + count us) fs
  scan_run_all nil a h p d fs = ap₂ (λ x y. scan a x y fs) (sym (add-zero p)) (sym (add-zero d))
  scan_run_all (cons u us) a h p d fs =
      let l = length-append (postfix u) (postfix_all us) in
      let x : p + length (postfix u) + length (postfix_all us) ≡ p + length (postfix u ++ postfix_all us) = omega arith in
      let y : d + 1 + count us ≡ d + suc (count us) = omega arith in
      ap (scan a p d) (append_assoc (postfix u) (postfix_all us) fs) ∙ scan_run u a h.0 p d (postfix_all us ++ fs)
      ∙ scan_run_all us a h.1 (p + length (postfix u)) (d + 1) fs ∙ ap₂ (λ x y. scan a x y fs) x y

pub scan_trees : (us : Tickets) (a nodes : List ℕ) (p : ℕ) → p ≤ length nodes → Spells a (take p nodes) us → scan a 0 0 nodes ≡ scan a p (count us) (drop p nodes)
scan_trees us a nodes p h r =
    let l : length (postfix_all us) ≡ p = ap length r.spelled ∙ length-take-le p nodes h in
    ap (scan a 0 0) (sym (take-append-drop p nodes) ∙ ap (λ xs. xs ++ drop p nodes) (sym r.spelled))
    ∙ scan_run_all us a r.formed 0 0 (drop p nodes) ∙ ap₂ (λ x y. scan a x y (drop p nodes)) (zero-add _ ∙ l) (zero-add (count us))

-- what passes is formed
pub scan_sound : (a nodes : List ℕ) (p : ℕ) (ts : Tickets) → FormedAll ts a → scan a p (count ts) nodes ≡ Ok tt → FormedAll (forest a ts nodes) a × (count (forest a ts nodes) ≤ 1)
scan_sound a [] p ts h e = (h, scan_last a p (count ts) e)
scan_sound a (f ∷ fs) p ts h e =
    let k = scan_first a p (count ts) f fs e in
    scan_sound a fs (p + 1) (grown a ts f) (grown_formed a ts f h k.0 k.1) (ap (λ d. scan a (p + 1) d fs) (grown_count a ts f) ∙ k.2)

one_tree : (a : List ℕ) (f : ℕ) (fs : List ℕ) (ts : Tickets) → count ts ≤ 1 → postfix_all ts ≡ f ∷ fs → FormedAll ts a → Formed (last ts) a × (postfix (last ts) ≡ f ∷ fs)
one_tree a f fs nil h e k = let z : ◌≡◌ {A = ℕ} 0 1 = cc in absurd (omega arith)
one_tree a f fs (cons t nil) h e k = (k.0, sym (append-nil (postfix t)) ∙ e)
one_tree a f fs (cons t (cons u us)) h e k = absurd (omega arith)

pub check_tree : (a nodes : List ℕ) → ticket_checked a nodes ≡ Ok tt → Formed (tree a nodes) a × (postfix (tree a nodes) ≡ nodes)
check_tree a [] e = let z : ◌≡◌ {A = ℕ} 0 1 = cc in absurd (omega arith)
check_tree a (f ∷ fs) e = go (ltb 256 (length (f ∷ fs))) e
  where
    go : (b : Bool) → ◌≡◌ {A = Verdict} (cond b (Err Long) (scan a 0 0 (f ∷ fs))) (Ok tt) → Formed (tree a (f ∷ fs)) a × (postfix (tree a (f ∷ fs)) ≡ f ∷ fs)
    go true h = let z : ◌≡◌ {A = ℕ} 0 1 = cc in absurd (omega arith)
    go false h =
        let s = scan_sound a (f ∷ fs) 0 nil tt h in
        one_tree a f fs (forest a nil (f ∷ fs)) s.1 (forest_postfix a (f ∷ fs) nil) s.0

some_node : (t : Ticket) → 0 < length (postfix t)
some_node (node f us) = let h = length-append (postfix_all us) (f ∷ []) in omega arith

pub tree_of : (t : Ticket) (a : List ℕ) → Formed t a → tree a (postfix t) ≡ t
tree_of t a h = ap (λ xs. last (forest a nil xs)) (sym (append-nil (postfix t))) ∙ ap last (forest_of (cons t nil) a (h, tt))

pub tree_passes : (t : Ticket) (a : List ℕ) → Formed t a → length (postfix t) ≤ 256 → ticket_checked a (postfix t) ≡ Ok tt
tree_passes t a h k =
    checked_scan a (postfix t) (some_node t) k ∙ ap (scan a 0 0) (sym (append-nil (postfix t))) ∙ scan_run t a h 0 0 []

pub no_nodes : (t : Ticket) (ts : Tickets) → postfix_all (cons t ts) ≡ [] → ⊥
no_nodes t ts e = let h = some_node t in let l = length-append (postfix t) (postfix_all ts) in let z : length (postfix t ++ postfix_all ts) ≡ 0 = ap length e in omega arith

pub ok_from : (r : Verdict) → is_ok r ≡ true → r ≡ Ok tt
ok_from (Ok u) e = refl
ok_from (Err x) e = let z : ◌≡◌ {A = ℕ} 0 1 = cc in absurd (omega arith)
