-- What each verdict of the check of a ticket says.
use Rattle.std.proofs.Common.{◌≡◌, ℕ, suc, ◌+◌, ◌-◌, ◌<◌, ◌≤◌, Bool, true, false, cond, ltb, List, [], ◌∷◌, length, get_or, take, drop, Ok, Err, Result, sym, refl, ap, ◌∙◌, subst, add-zero, zero-add, arith}
use Rattle.std.proofs.lemmas.List.{drop_more, drop_all, take_all}
use Rattle.std.proofs.lemmas.Bool.{ltb-true, ltb-false, lt-ltb, cond-true}
use Rattle.refusals.specs.declared.refusal.TicketRefusal.{TicketRefusal}
use Rattle.refusals.specs.declared.refusal.TicketRefusal.TheVariants.{Empty, Long, Unknown, Few, Many}
use Rattle.tickets.specs.Ticket.{Tickets, nil, cons, count, FormedAll}
use Rattle.tickets.specs.Check.{scan, ticket_checked, grown, forest, tree, Spells, CheckExact}
use Rattle.tickets.proofs.Scans.{scan_unknown, scan_few, scan_many}
use Rattle.tickets.proofs.Forests.{grown_count, grown_formed, forest_postfix}
use Rattle.tickets.proofs.Checks.{checked_scan, scan_trees, check_tree, tree_of, tree_passes}

abbrev Verdict : Type 0
Verdict = Result (Unit {0}) TicketRefusal

-- what a verdict on the nodes from place p on says, after the trees ts
abbrev Says : List ℕ → Tickets → List ℕ → ℕ → Verdict → Type 0
Says a ts nodes p (Ok u) = Unit {0}
Says a ts nodes p (Err Empty) = ⊥
Says a ts nodes p (Err Long) = ⊥
Says a ts nodes p (Err (Unknown q)) = (k : ℕ) × (q ≡ p + k) × (k < length nodes) × FormedAll (forest a ts (take k nodes)) a × (length a ≤ get_or nodes k 0)
Says a ts nodes p (Err (Few q)) =
    (k : ℕ) × (q ≡ p + k) × (k < length nodes) × FormedAll (forest a ts (take k nodes)) a × (get_or nodes k 0 < length a) × (count (forest a ts (take k nodes)) < get_or a (get_or nodes k 0) 0)
Says a ts nodes p (Err Many) = FormedAll (forest a ts nodes) a × (1 < count (forest a ts nodes))

says_more : (a : List ℕ) (ts : Tickets) (f : ℕ) (fs : List ℕ) (p : ℕ) (r : Verdict) → Says a (grown a ts f) fs (p + 1) r → Says a ts (f ∷ fs) p r
says_more a ts f fs p (Ok u) h = tt
says_more a ts f fs p (Err Empty) h = h
says_more a ts f fs p (Err Long) h = h
says_more a ts f fs p (Err (Unknown q)) h = (suc h.0, (let e = h.1 in omega arith), (let e = h.2 in omega arith), h.3, h.4)
says_more a ts f fs p (Err (Few q)) h = (suc h.0, (let e = h.1 in omega arith), (let e = h.2 in omega arith), h.3, h.4, h.5)
says_more a ts f fs p (Err Many) h = h

says : (a nodes : List ℕ) (p : ℕ) (ts : Tickets) → FormedAll ts a → Says a ts nodes p (scan a p (count ts) nodes)
says a [] p ts h = go (ltb 1 (count ts)) refl
  where
    go : (b : Bool) → ltb 1 (count ts) ≡ b → Says a ts [] p (cond b (Err Many) (Ok tt))
    go true e = (h, ltb-true 1 (count ts) e)
    go false e = tt
says a (f ∷ fs) p ts h = go (ltb f (length a)) refl (ltb (count ts) (get_or a f 0)) refl (λ l k. says a fs (p + 1) (grown a ts f) (grown_formed a ts f h l k))
  where
    go : (b : Bool) → ltb f (length a) ≡ b → (c : Bool) → ltb (count ts) (get_or a f 0) ≡ c
        → (f < length a → get_or a f 0 ≤ count ts → Says a (grown a ts f) fs (p + 1) (scan a (p + 1) (count (grown a ts f)) fs))
        → Says a ts (f ∷ fs) p (cond b (cond c (Err (Few p)) (scan a (p + 1) (count ts - get_or a f 0 + 1) fs)) (Err (Unknown p)))
    go true eb true ec more = (0, sym (add-zero p), omega arith, h, ltb-true f (length a) eb, ltb-true (count ts) (get_or a f 0) ec)
    go true eb false ec more =
        let s = more (ltb-true f (length a) eb) (ltb-false (count ts) (get_or a f 0) ec) in
        says_more a ts f fs p (scan a (p + 1) (count ts - get_or a f 0 + 1) fs) (subst (λ (d : ℕ). Says a (grown a ts f) fs (p + 1) (scan a (p + 1) d fs)) (grown_count a ts f) s)
    go false eb c ec more = (0, sym (add-zero p), omega arith, h, ltb-false f (length a) eb)

-- what a verdict on a whole list says
abbrev Means : List ℕ → List ℕ → Verdict → Type 0
Means a nodes (Ok u) = Unit {0}
Means a nodes (Err Empty) = nodes ≡ []
Means a nodes (Err Long) = 256 < length nodes
Means a nodes (Err (Unknown p)) = (length nodes ≤ 256) × Says a nil nodes 0 (Err (Unknown p))
Means a nodes (Err (Few p)) = (length nodes ≤ 256) × Says a nil nodes 0 (Err (Few p))
Means a nodes (Err Many) = (length nodes ≤ 256) × Says a nil nodes 0 (Err Many)

means_said : (a nodes : List ℕ) (r : Verdict) → length nodes ≤ 256 → Says a nil nodes 0 r → Means a nodes r
means_said a nodes (Ok u) k h = tt
means_said a nodes (Err Empty) k h = absurd h
means_said a nodes (Err Long) k h = absurd h
means_said a nodes (Err (Unknown p)) k h = (k, h)
means_said a nodes (Err (Few p)) k h = (k, h)
means_said a nodes (Err Many) k h = (k, h)

means : (a nodes : List ℕ) → Means a nodes (ticket_checked a nodes)
means a [] = refl
means a (f ∷ fs) = go (ltb 256 (length (f ∷ fs))) refl
  where
    go : (b : Bool) → ltb 256 (length (f ∷ fs)) ≡ b → Means a (f ∷ fs) (cond b (Err Long) (scan a 0 0 (f ∷ fs)))
    go true e = ltb-true 256 (length (f ∷ fs)) e
    go false e = means_said a (f ∷ fs) (scan a 0 0 (f ∷ fs)) (ltb-false 256 (length (f ∷ fs)) e) (says a (f ∷ fs) 0 nil tt)

forest_spells : (a xs : List ℕ) → FormedAll (forest a nil xs) a → Spells a xs (forest a nil xs)
forest_spells a xs h = record { formed = h; spelled = forest_postfix a xs nil }

module _ (a nodes : List ℕ) where
  meant : (r : Verdict) → ticket_checked a nodes ≡ r → Means a nodes r
  meant r e = subst (λ (v : Verdict). Means a nodes v) e (means a nodes)

  long_refused : (xs : List ℕ) → 256 < length xs → ticket_checked a xs ≡ Err Long
  long_refused [] h = absurd (omega arith)
  long_refused (f ∷ fs) h = cond-true _ _ _ (lt-ltb 256 (length (f ∷ fs)) h)

  scanned_from : (p : ℕ) (ts : Tickets) → length nodes ≤ 256 → p < length nodes → Spells a (take p nodes) ts → ticket_checked a nodes ≡ scan a p (count ts) (get_or nodes p 0 ∷ drop (p + 1) nodes)
  scanned_from p ts few l r =
      let k : p ≤ length nodes = omega arith in
      checked_scan a nodes (omega arith) few ∙ scan_trees ts a nodes p k r ∙ ap (scan a p (count ts)) (drop_more nodes p 0 l)

  unknown_to : (p : ℕ) → ticket_checked a nodes ≡ Err (Unknown p) → (length nodes ≤ 256) × (p < length nodes) × ((ts : Tickets) × Spells a (take p nodes) ts) × (length a ≤ get_or nodes p 0)
  unknown_to p e =
      let m = meant (Err (Unknown p)) e in
      let s = m.1 in
      let q : s.0 ≡ p = sym (s.1 ∙ zero-add s.0) in
      let P : ℕ → Type 0 = λ k. (length nodes ≤ 256) × (k < length nodes) × ((ts : Tickets) × Spells a (take k nodes) ts) × (length a ≤ get_or nodes k 0) in
      subst P q (m.0, s.2, (forest a nil (take s.0 nodes), forest_spells a (take s.0 nodes) s.3), s.4)

  few_to : (p : ℕ) → ticket_checked a nodes ≡ Err (Few p)
      → (length nodes ≤ 256) × (p < length nodes) × (get_or nodes p 0 < length a) × ((ts : Tickets) × Spells a (take p nodes) ts × (count ts < get_or a (get_or nodes p 0) 0))
  few_to p e =
      let m = meant (Err (Few p)) e in
      let s = m.1 in
      let q : s.0 ≡ p = sym (s.1 ∙ zero-add s.0) in
      let P : ℕ → Type 0 = λ k. (length nodes ≤ 256) × (k < length nodes) × (get_or nodes k 0 < length a) × ((ts : Tickets) × Spells a (take k nodes) ts × (count ts < get_or a (get_or nodes k 0) 0)) in
      subst P q (m.0, s.2, s.4, (forest a nil (take s.0 nodes), forest_spells a (take s.0 nodes) s.3, s.5))

  many_from : (ts : Tickets) → length nodes ≤ 256 → Spells a nodes ts → 1 < count ts → ticket_checked a nodes ≡ Err Many
  many_from ts few r h =
      let n = length nodes in
      let k : n ≤ length nodes = omega arith in
      let s : Spells a (take n nodes) ts = subst (λ (xs : List ℕ). Spells a xs ts) (sym (take_all n nodes k)) r in
      checked_scan a nodes (some ts nodes r h) few ∙ scan_trees ts a nodes n k s ∙ ap (scan a n (count ts)) (drop_all n nodes k) ∙ scan_many a n (count ts) h
    where
      some : (us : Tickets) (xs : List ℕ) → Spells a xs us → 1 < count us → 0 < length xs
      some nil xs s l = absurd (omega arith)
      some (cons u us) [] s l = absurd (Rattle.tickets.proofs.Checks.no_nodes u us s.spelled)
      some (cons u us) (x ∷ xs) s l = omega arith

  pub check_exact : CheckExact a nodes
  check_exact = record {
    empty = (meant (Err Empty), λ e. ap (ticket_checked a) e);
    long = (meant (Err Long), long_refused nodes);
    passes = (
      λ e. (passes_few nodes e, (tree a nodes, (check_tree a nodes e).0, (check_tree a nodes e).1)),
      λ h. subst (λ (xs : List ℕ). ticket_checked a xs ≡ Ok tt) h.1.2 (tree_passes h.1.0 a h.1.1 (subst (λ (xs : List ℕ). length xs ≤ 256) (sym h.1.2) h.0)),
    );
    one_tree = λ t u h k e. sym (tree_of t a h) ∙ ap (tree a) e ∙ tree_of u a k;
    unknown = λ p. (unknown_to p, λ h. scanned_from p h.2.0 h.0 h.1 h.2.1 ∙ scan_unknown a p (count h.2.0) (get_or nodes p 0) (drop (p + 1) nodes) h.3);
    few = λ p. (few_to p, λ h. scanned_from p h.3.0 h.0 h.1 h.3.1 ∙ scan_few a p (count h.3.0) (get_or nodes p 0) (drop (p + 1) nodes) h.2 h.3.2);
    many = (λ e. let m = meant (Err Many) e in (m.0, (forest a nil nodes, forest_spells a nodes m.1.0, m.1.1)), λ h. many_from h.1.0 h.0 h.1.1 h.1.2);
  }
    where
      passes_few : (xs : List ℕ) → ticket_checked a xs ≡ Ok tt → length xs ≤ 256
      passes_few [] e = omega arith
      passes_few (f ∷ fs) e = go (ltb 256 (length (f ∷ fs))) refl e
        where
          go : (b : Bool) → ltb 256 (length (f ∷ fs)) ≡ b → ◌≡◌ {A = Verdict} (cond b (Err Long) (scan a 0 0 (f ∷ fs))) (Ok tt) → length (f ∷ fs) ≤ 256
          go true eb h = let z : ◌≡◌ {A = ℕ} 0 1 = cc in absurd (omega arith)
          go false eb h = ltb-false 256 (length (f ∷ fs)) eb
