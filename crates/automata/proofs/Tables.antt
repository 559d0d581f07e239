-- The table of worths, node by node.
use Rattle.std.proofs.Common.{◌≡◌, ℕ, zero, suc, ◌+◌, ◌-◌, ◌*◌, ◌<◌, ◌≤◌, Bool, true, false, cond, ltb, ◌⊎◌, List, [], ◌∷◌, ◌++◌, length, get_or, take, drop, is_ok, Ok, Err, Result, sym, refl, ap, ◌∙◌, subst, inl, inr, mul-le-mul_right, add-one, arith}
use Rattle.std.proofs.lemmas.List.{drop_more, take_more, take_all, length_push, length-take, length-drop}
use Rattle.std.proofs.lemmas.Bool.{ltb-false, cases_eq}
use Rattle.refusals.specs.declared.refusal.TicketRefusal.{TicketRefusal}
use Rattle.refusals.specs.declared.refusal.TicketRefusal.TheVariants.{Long}
use Rattle.tickets.specs.Ticket.{Ticket, Tickets, node, nil, cons, count}
use Rattle.automata.specs.Automaton.{Meaning}
use Rattle.automata.specs.Measure.{Ops}
use Rattle.tickets.specs.Check.{scan, ticket_checked, join, first, rest, last, grown, forest, tree}
use Rattle.automata.specs.Table.{Line, Lines, prefix_tree}
use Rattle.tickets.proofs.Scans.{scan_first}
use Rattle.tickets.proofs.Forests.{grown_count, forest_append, last_join}
use Rattle.tickets.proofs.Checks.{ok_from}
use Rattle.automata.proofs.Cells.{cell_in}

abbrev Verdict : Type 0
Verdict = Result (Unit {0}) TicketRefusal

-- a ticket that passes has 1 to 256 nodes, and each is good
pub passed : (a nodes : List ℕ) → is_ok (ticket_checked a nodes) ≡ true → (0 < length nodes) × (length nodes ≤ 256) × (scan a 0 0 nodes ≡ Ok tt)
passed a [] e = let z : ◌≡◌ {A = ℕ} 0 1 = cc in absurd (omega arith)
passed a (f ∷ fs) e = go (ltb 256 (length (f ∷ fs))) refl e
  where
    go : (b : Bool) → ltb 256 (length (f ∷ fs)) ≡ b → is_ok {T = Unit {0}} {E = TicketRefusal} (cond b (Err Long) (scan a 0 0 (f ∷ fs))) ≡ true → (0 < length (f ∷ fs)) × (length (f ∷ fs) ≤ 256) × (scan a 0 0 (f ∷ fs) ≡ Ok tt)
    go true eb h = let z : ◌≡◌ {A = ℕ} 0 1 = cc in absurd (omega arith)
    go false eb h = (omega arith, ltb-false 256 (length (f ∷ fs)) eb, ok_from (scan a 0 0 (f ∷ fs)) h)

-- the trees at the places, each before place p
abbrev pub Spots : List ℕ → List ℕ → ℕ → List ℕ → Tickets → Type 0
Spots arities nodes p [] nil = Unit {0}
Spots arities nodes p [] (cons t ts) = ⊥
Spots arities nodes p (x ∷ xs) nil = ⊥
Spots arities nodes p (x ∷ xs) (cons t ts) = (x < p) × (prefix_tree arities nodes x ≡ t) × Spots arities nodes p xs ts

module _ (a ns : List ℕ) where
  pub spots_first : (p k : ℕ) (xs : List ℕ) (ts : Tickets) → Spots a ns p xs ts → Spots a ns p (take k xs) (first k ts)
  spots_first p zero xs ts h = tt
  spots_first p (suc k) [] nil h = tt
  spots_first p (suc k) [] (cons t ts) h = absurd h
  spots_first p (suc k) (x ∷ xs) nil h = absurd h
  spots_first p (suc k) (x ∷ xs) (cons t ts) h = (h.0, h.1, spots_first p k xs ts h.2)

  pub spots_rest : (p k : ℕ) (xs : List ℕ) (ts : Tickets) → Spots a ns p xs ts → Spots a ns p (drop k xs) (rest k ts)
  spots_rest p zero xs ts h = h
  spots_rest p (suc k) [] nil h = tt
  spots_rest p (suc k) [] (cons t ts) h = absurd h
  spots_rest p (suc k) (x ∷ xs) nil h = absurd h
  spots_rest p (suc k) (x ∷ xs) (cons t ts) h = spots_rest p k xs ts h.2

  -- one tree more, at place p
  pub spots_push : (p : ℕ) (xs : List ℕ) (ts : Tickets) (t : Ticket) → Spots a ns p xs ts → prefix_tree a ns p ≡ t → Spots a ns (p + 1) (xs ++ (p ∷ [])) (join ts (cons t nil))
  spots_push p [] nil t h e = (omega arith, e, tt)
  spots_push p [] (cons u us) t h e = absurd h
  spots_push p (x ∷ xs) nil t h e = absurd h
  spots_push p (x ∷ xs) (cons u us) t h e = ((let l = h.0 in omega arith), h.1, spots_push p xs us t h.2 e)

  pub spots_lt : (p : ℕ) (xs : List ℕ) (ts : Tickets) → Spots a ns p xs ts → (i : ℕ) → i < length xs → get_or xs i 0 < p
  spots_lt p [] ts h i l = absurd (omega arith)
  spots_lt p (x ∷ xs) nil h i l = absurd h
  spots_lt p (x ∷ xs) (cons t ts) h zero l = h.0
  spots_lt p (x ∷ xs) (cons t ts) h (suc i) l = spots_lt p xs ts h.2 i (omega arith)

  pub spots_lines : {M : Type 0} (o : Ops M) (m : Meaning) (cells : List M) (p : ℕ) → ((q : ℕ) → q < p → Line o m cells q (prefix_tree a ns q)) → (xs : List ℕ) (ts : Tickets) → Spots a ns p xs ts → Lines o m cells xs ts
  spots_lines o m cells p all [] nil h = tt
  spots_lines o m cells p all [] (cons t ts) h = absurd h
  spots_lines o m cells p all (x ∷ xs) nil h = absurd h
  spots_lines o m cells p all (x ∷ xs) (cons t ts) h = (subst (λ (u : Ticket). Line o m cells x u) h.1 (all x h.0), spots_lines o m cells p all xs ts h.2)

  -- the trees before a place, one node more
  pub forest_more : (p : ℕ) → p < length ns → forest a nil (take (p + 1) ns) ≡ grown a (forest a nil (take p ns)) (get_or ns p 0)
  forest_more p h = ap (forest a nil) (take_more ns p 0 h) ∙ forest_append a (take p ns) (get_or ns p 0 ∷ []) nil

  -- the check goes on from place p with the trees whose places are the roots
  abbrev pub Stage : ℕ → List ℕ → Type 0
  Stage p roots = (scan a p (length roots) (drop p ns) ≡ Ok tt) × (length roots ≡ count (forest a nil (take p ns))) × Spots a ns p roots (forest a nil (take p ns)) × (length roots ≤ p)

  pub stage_node : (p : ℕ) (roots : List ℕ) → p < length ns → Stage p roots
      → (get_or ns p 0 < length a) × (get_or a (get_or ns p 0) 0 ≤ length roots) × (scan a (p + 1) (length roots - get_or a (get_or ns p 0) 0 + 1) (drop (p + 1) ns) ≡ Ok tt)
  stage_node p roots l h = scan_first a p (length roots) (get_or ns p 0) (drop (p + 1) ns) (sym (ap (scan a p (length roots)) (drop_more ns p 0 l)) ∙ h.0)

  abbrev pub taken : ℕ → ℕ → ℕ
  taken p d = d - get_or a (get_or ns p 0) 0

  -- the places of the node's children are the last roots
  pub stage_spots : (p n : ℕ) (roots xs : List ℕ) → n ≡ length roots → xs ≡ roots → Stage p roots → Spots a ns p (take (length xs - taken p n) (drop (taken p n) xs)) (rest (taken p n) (forest a nil (take p ns)))
  stage_spots p n roots xs en ex h =
      let k = taken p n in
      let T = forest a nil (take p ns) in
      let all : take (length roots - k) (drop k roots) ≡ drop k roots = take_all (length roots - k) (drop k roots) (omega (arith, length-drop k roots)) in
      subst (λ (ys : List ℕ). Spots a ns p ys (rest k T)) (sym (ap (λ (ys : List ℕ). take (length ys - k) (drop k ys)) ex ∙ all)) (spots_rest p k roots T h.2)

  pub prefix_tree_at : (p d : ℕ) → p < length ns → d ≡ count (forest a nil (take p ns)) → prefix_tree a ns p ≡ node (get_or ns p 0) (rest (taken p d) (forest a nil (take p ns)))
  prefix_tree_at p d l e =
      let T = forest a nil (take p ns) in
      let f = get_or ns p 0 in
      ap (λ n. tree a (take n ns)) (sym (add-one p)) ∙ ap last (forest_more p l)
      ∙ last_join (first (count T - get_or a f 0) T) (node f (rest (count T - get_or a f 0) T)) ∙ ap (λ n. node f (rest (n - get_or a f 0) T)) (sym e)

  -- the node is a root in their place
  pub stage_more : (p n : ℕ) (roots ys : List ℕ) → p < length ns → n ≡ length roots → ys ≡ take (taken p n) roots ++ p ∷ [] → Stage p roots → Stage (p + 1) ys
  stage_more p n roots ys l en ey h =
      let k = taken p n in
      let T = forest a nil (take p ns) in
      let f = get_or ns p 0 in
      let s = stage_node p roots l h in
      let ek : length roots - get_or a f 0 ≡ k = ap (λ m. m - get_or a f 0) (sym en) in
      let e : count T - get_or a f 0 ≡ k = ap (λ m. m - get_or a f 0) (sym h.1) ∙ ek in
      let m : length ys ≡ k + 1 = omega (arith, ap length ey, length_push (take k roots) p, length-take k roots) in
      let c : k + 1 ≡ count (forest a nil (take (p + 1) ns)) = sym (ap count (forest_more p l) ∙ grown_count a T f ∙ ap (λ m. m + 1) e) in
      let g : join (first k T) (cons (node f (rest k T)) nil) ≡ forest a nil (take (p + 1) ns) =
      ap (λ m. join (first m T) (cons (node f (rest m T)) nil)) (sym e) ∙ sym (forest_more p l) in
      let r : Spots a ns (p + 1) (take k roots ++ p ∷ []) (join (first k T) (cons (node f (rest k T)) nil)) =
      spots_push p (take k roots) (first k T) (node f (rest k T)) (spots_first p k roots T h.2) (prefix_tree_at p n l (en ∙ h.1)) in
      (ap (λ d. scan a (p + 1) d (drop (p + 1) ns)) (m ∙ ap (λ d. d + 1) (sym ek)) ∙ s.2, m ∙ c, subst (λ (us : Tickets). Spots a ns (p + 1) ys us) g (subst (λ (zs : List ℕ). Spots a ns (p + 1) zs (join (first k T) (cons (node f (rest k T)) nil))) (sym ey) r), omega (arith, h.3))

  -- one line more
  pub lines_more : {M : Type 0} (o : Ops M) (m : Meaning) (xs ys : List M) (p : ℕ) → ((q : ℕ) → q < p → Line o m xs q (prefix_tree a ns q)) → ((i : ℕ) → i < p * m.states → get_or ys i o.none ≡ get_or xs i o.none) → Line o m ys p (prefix_tree a ns p)
      → (q : ℕ) → q < p + 1 → Line o m ys q (prefix_tree a ns q)
  lines_more o m xs ys p all same here q l s b = go (cases_eq q p)
    where
      go : (q ≡ p) ⊎ (q ≡ p → ⊥) → get_or ys (q * m.states + s) o.none ≡ Rattle.automata.specs.Worth.worth o m s (prefix_tree a ns q)
      go (inl e) = subst (λ (k : ℕ). Line o m ys k (prefix_tree a ns k)) (sym e) here s b
      go (inr ne) =
          let k : q < p = omega arith in
          same (q * m.states + s) (cell_in q m.states s (p * m.states) (mul-le-mul_right m.states (omega arith)) b) ∙ all q k s b
