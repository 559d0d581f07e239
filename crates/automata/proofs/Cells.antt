-- The cells of the table, one product, one row, one node at a time.
use Rattle.std.proofs.Common.{◌≡◌, ℕ, suc, ◌+◌, ◌-◌, ◌*◌, ◌<◌, ◌≤◌, true, cond, ◌&&◌, eqb, ltb, ◌⊎◌, List, [], ◌∷◌, ◌++◌, length, get_or, take, drop, set, Some, None, Option, sym, refl, ap, ◌∙◌, subst, ap₂, inl, inr, add-mul, one-mul, arith}
use Rattle.std.specs.List.{list_all}
use Rattle.std.proofs.lemmas.List.{get_or-set_same, get_or-set_other, get_or-append-add, get_or-take, get_or-drop, length-take}
use Rattle.std.proofs.lemmas.Bool.{ltb-true, cases_eq, and_parts}
use Rattle.tickets.specs.Ticket.{Tickets, node, nil, cons, count}
use Rattle.automata.specs.Automaton.{Meaning, Production, all_below, Closed}
use Rattle.automata.specs.Reading.{upto}
use Rattle.automata.specs.Measure.{Ops, Laws}
use Rattle.automata.specs.Worth.{sum, worth, children_worth, row_worth}
use Rattle.automata.specs.Table.{Within, Lines, cells_worth, cells_row, cells_node}
use Rattle.automata.proofs.Sums.{plus_none_right, sum_append, sum_below}
use Rattle.automata.proofs.ByRows.{worth_by_rows}

-- the test of each child, as an iterator makes it
pub below_all : (n : ℕ) (cs : List ℕ) → all_below n cs ≡ list_all (λ c. ltb c n) cs
below_all n [] = refl
below_all n (c ∷ cs) = ap (λ b. ltb c n && b) (below_all n cs)

pub line_end : (p n : ℕ) → (p + 1) * n ≡ p * n + n
line_end p n = add-mul p 1 n ∙ ap (λ k. p * n + k) (one-mul n)

pub cell_in : (p n c len : ℕ) → (p + 1) * n ≤ len → c < n → p * n + c < len
cell_in p n c len h k = let e = line_end p n in omega arith

module _ {M : Type 0} {o : Ops M} (laws : Laws o) where
  -- the places ps and the states cs are left, and x is the product so far of what is w in all
  abbrev pub Left : List M → ℕ → M → List ℕ → List ℕ → M → Type 0
  Left cells n x ps cs w = (o.times x (cells_worth o cells n ps cs) ≡ w) × Within n (length cells) ps × (all_below n cs ≡ true) × (length ps ≡ length cs)

  pub left_cell : (cells : List M) (n : ℕ) (x w : M) (ps cs : List ℕ) (p c : ℕ) (ps' cs' : List ℕ) → ps ≡ p ∷ ps' → cs ≡ c ∷ cs' → Left cells n x ps cs w → p * n + c < length cells
  left_cell cells n x w ps cs p c ps' cs' ep ec h =
      let b : all_below n (c ∷ cs') ≡ true = subst (λ (cs : List ℕ). all_below n cs ≡ true) ec h.2 in
      let l : Within n (length cells) (p ∷ ps') = subst (λ (ps : List ℕ). Within n (length cells) ps) ep h.1 in
      cell_in p n c (length cells) (l 0 (omega arith)) (ltb-true c n (and_parts (ltb c n) (all_below n cs') b).0)

  pub left_more : (cells : List M) (n : ℕ) (x y w : M) (ps cs : List ℕ) (p c : ℕ) (ps' cs' : List ℕ) → ps ≡ p ∷ ps' → cs ≡ c ∷ cs' → Left cells n x ps cs w
      → y ≡ o.times x (get_or cells (p * n + c) o.none) → Left cells n y ps' cs' w
  left_more cells n x y w ps cs p c ps' cs' ep ec h e =
      let b : all_below n (c ∷ cs') ≡ true = subst (λ (cs : List ℕ). all_below n cs ≡ true) ec h.2 in
      let l : Within n (length cells) (p ∷ ps') = subst (λ (ps : List ℕ). Within n (length cells) ps) ep h.1 in
      let r = cells_worth o cells n ps' cs' in (
        ap (λ v. o.times v r) e ∙ laws.times_assoc x (get_or cells (p * n + c) o.none) r ∙ ap (o.times x) (sym (ap₂ (cells_worth o cells n) ep ec)) ∙ h.0,
        (λ i k. l (suc i) (omega arith)),
        (and_parts (ltb c n) (all_below n cs') b).1,
        omega (arith, h.3, ap length ep, ap length ec),
      )

  -- one row more
  pub sum_more : (f : ℕ → M) (k : ℕ) → sum o f (upto (k + 1)) ≡ o.plus (sum o f (upto k)) (f k)
  sum_more f k = ap (λ j. sum o f (upto j)) (native.Mathlib.Numerals.add-one k) ∙ sum_append laws f (upto k) (k ∷ []) ∙ ap (o.plus (sum o f (upto k))) (plus_none_right laws (f k))

  -- the cells of lines that hold worths
  lines_length : (m : Meaning) (cells : List M) (ps : List ℕ) (ts : Tickets) → Lines o m cells ps ts → length ps ≡ count ts
  lines_length m cells [] nil h = refl
  lines_length m cells [] (cons t ts) h = absurd h
  lines_length m cells (p ∷ ps) nil h = absurd h
  lines_length m cells (p ∷ ps) (cons t ts) h = ap suc (lines_length m cells ps ts h.1)

  lines_worth : (m : Meaning) (cells : List M) (ps : List ℕ) (ts : Tickets) (cs : List ℕ) → Lines o m cells ps ts → all_below m.states cs ≡ true → cells_worth o cells m.states ps cs ≡ children_worth o m ts cs
  lines_worth m cells [] nil [] h e = refl
  lines_worth m cells [] nil (c ∷ cs) h e = refl
  lines_worth m cells [] (cons t ts) cs h e = absurd h
  lines_worth m cells (p ∷ ps) nil cs h e = absurd h
  lines_worth m cells (p ∷ ps) (cons t ts) [] h e = refl
  lines_worth m cells (p ∷ ps) (cons t ts) (c ∷ cs) h e =
      let k = and_parts (ltb c m.states) (all_below m.states cs) e in
      ap₂ o.times (h.0 c (ltb-true c m.states k.0)) (lines_worth m cells ps ts cs h.1 k.1)

  lines_row : (m : Meaning) (cells : List M) (ps : List ℕ) (ts : Tickets) (f : ℕ) (r : Option Production) → Lines o m cells ps ts → Closed m.states r → cells_row o cells m.states ps f r ≡ row_worth o m f ts r
  lines_row m cells ps ts f None h k = refl
  lines_row m cells ps ts f (Some p) h k =
      ap₂ (λ n w. cond (eqb p.form f && eqb (length p.children) n) (o.times (o.value p.points) w) o.none) (lines_length m cells ps ts h) (lines_worth m cells ps ts p.children h k)

  pub lines_node : (m : Meaning) → ((s k : ℕ) → Closed m.states (m.row s k)) → (cells : List M) (ps : List ℕ) (ts : Tickets) (f s : ℕ) → Lines o m cells ps ts → cells_node o m cells ps f s ≡ worth o m s (node f ts)
  lines_node m closed cells ps ts f s h =
      sum_below laws m.places (λ k. cells_row o cells m.states ps f (m.row s k)) (λ k. row_worth o m f ts (m.row s k)) (λ k l. lines_row m cells ps ts f (m.row s k) h (closed s k))
      ∙ sym (worth_by_rows laws m s f ts)

  -- lines of earlier places are not touched
  pub lines_kept : (m : Meaning) (xs ys : List M) (p : ℕ) (ps : List ℕ) (ts : Tickets) → ((i : ℕ) → i < length ps → get_or ps i 0 < p) → ((i : ℕ) → i < p * m.states → get_or ys i o.none ≡ get_or xs i o.none)
      → Lines o m xs ps ts → Lines o m ys ps ts
  lines_kept m xs ys p [] nil lt e h = h
  lines_kept m xs ys p [] (cons t ts) lt e h = h
  lines_kept m xs ys p (q ∷ ps) nil lt e h = h
  lines_kept m xs ys p (q ∷ ps) (cons t ts) lt e h =
      (λ s l. e (q * m.states + s) (in_line q p m.states s (lt 0 (omega arith)) l) ∙ h.0 s l, lines_kept m xs ys p ps ts (λ i l. lt (suc i) (omega arith)) e h.1)
    where
      in_line : (q p n s : ℕ) → q < p → s < n → q * n + s < p * n
      in_line q p n s l k = cell_in q n s (p * n) (native.Mathlib.Nat.mul-le-mul_right n (omega arith)) k

  -- the sum of a node, one place more
  pub node_some : (m : Meaning) (cells : List M) (ps : List ℕ) (f s k n : ℕ) (p : Production) (x y w : M) → x ≡ sum o (λ j. cells_row o cells m.states ps f (m.row s j)) (upto k)
      → Some p ≡ m.row s k → n ≡ m.states → w ≡ cells_row o cells n ps f (Some p) → y ≡ o.plus x w → y ≡ sum o (λ j. cells_row o cells m.states ps f (m.row s j)) (upto (k + 1))
  node_some m cells ps f s k n p x y w ex er en ew ey =
      let F : ℕ → M = λ j. cells_row o cells m.states ps f (m.row s j) in
      ey ∙ ap₂ o.plus ex (ew ∙ ap₂ (λ n r. cells_row o cells n ps f r) en er) ∙ sym (sum_more F k)

  pub node_none : (m : Meaning) (cells : List M) (ps : List ℕ) (f s k : ℕ) (x y : M) → x ≡ sum o (λ j. cells_row o cells m.states ps f (m.row s j)) (upto k)
      → None ≡ m.row s k → y ≡ x → y ≡ sum o (λ j. cells_row o cells m.states ps f (m.row s j)) (upto (k + 1))
  node_none m cells ps f s k x y ex er ey =
      let F : ℕ → M = λ j. cells_row o cells m.states ps f (m.row s j) in
      ey ∙ ex ∙ sym (plus_none_right laws (sum o F (upto k))) ∙ ap (λ r. o.plus (sum o F (upto k)) (cells_row o cells m.states ps f r)) er ∙ sym (sum_more F k)

  -- the line is filled below state s, by the lines in xs, and what was there stands from s on
  abbrev pub Filled : Meaning → List M → List ℕ → ℕ → List M → List M → ℕ → Type 0
  Filled m xs ps f was ys s =
      ((ts : Tickets) → Lines o m xs ps ts → (j : ℕ) → j < s → get_or ys j o.none ≡ worth o m j (node f ts)) × ((i : ℕ) → s ≤ i → get_or ys i o.none ≡ get_or was i o.none)

  pub filled_more : (m : Meaning) → ((s k : ℕ) → Closed m.states (m.row s k)) → (xs : List M) (ps : List ℕ) (f : ℕ) (was ys : List M) (s : ℕ) (w : M) → s < length ys → w ≡ cells_node o m xs ps f s
      → Filled m xs ps f was ys s → Filled m xs ps f was (set ys s w) (s + 1)
  filled_more m closed xs ps f was ys s w lt ew inv = (λ ts h j l. go ts h j l (cases_eq j s), λ i l. other i (omega arith) ∙ inv.1 i (omega arith))
    where
      other : (i : ℕ) → (i ≡ s → ⊥) → get_or (set ys s w) i o.none ≡ get_or ys i o.none
      other i ne = get_or-set_other ys s i w o.none ne

      go : (ts : Tickets) → Lines o m xs ps ts → (j : ℕ) → j < s + 1 → (j ≡ s) ⊎ (j ≡ s → ⊥) → get_or (set ys s w) j o.none ≡ worth o m j (node f ts)
      go ts h j l (inl e) = ap (λ k. get_or (set ys s w) k o.none) e ∙ get_or-set_same ys s w o.none lt ∙ ew ∙ lines_node m closed xs ps ts f s h ∙ ap (λ k. worth o m k (node f ts)) (sym e)
      go ts h j l (inr ne) = other j ne ∙ inv.0 ts h j (omega arith)

  -- the line in its place, behind the lines before it
  module _ (m : Meaning) (xs : List M) (ps : List ℕ) (f p : ℕ) (earlier was ys : List M) (n : ℕ) (ee : earlier ≡ take (p * m.states) xs) (ew : was ≡ drop (p * m.states) xs) (en : n ≡ m.states) (room : p * m.states ≤ length xs)
      (inv : Filled m earlier ps f was ys n) where
    behind : (k : ℕ) → get_or (earlier ++ ys) (p * m.states + k) o.none ≡ get_or ys k o.none
    behind k =
        let e : length earlier ≡ p * m.states = omega (arith, ap length ee, length-take (p * m.states) xs) in
        ap (λ n. get_or (earlier ++ ys) (n + k) o.none) (sym e) ∙ get_or-append-add earlier ys k o.none

    pub line_filled : ((i : ℕ) → i < length ps → get_or ps i 0 < p) → (ts : Tickets) → Lines o m xs ps ts → (s : ℕ) → s < m.states → get_or (earlier ++ ys) (p * m.states + s) o.none ≡ worth o m s (node f ts)
    line_filled before ts h s l =
        behind s ∙ inv.0 ts (lines_kept m xs earlier p ps ts before (λ i k. ap (λ zs. get_or zs i o.none) ee ∙ get_or-take (p * m.states) xs i o.none k) h) s (omega arith)

    pub line_after : (i : ℕ) → (p + 1) * m.states ≤ i → get_or (earlier ++ ys) i o.none ≡ get_or xs i o.none
    line_after i l =
        let k = i - p * m.states in
        let past : n ≤ k = omega (arith, line_end p m.states) in
        let e : p * m.states + k ≡ i = omega (arith, line_end p m.states) in
        ap (λ j. get_or (earlier ++ ys) j o.none) (sym e) ∙ behind k ∙ inv.1 k past ∙ ap (λ zs. get_or zs k o.none) ew ∙ get_or-drop (p * m.states) xs k o.none ∙ ap (λ j. get_or xs j o.none) e
