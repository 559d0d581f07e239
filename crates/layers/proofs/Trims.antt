-- Trimming keeps the readings from the root, and there is one way to trim.
use Rattle.std.proofs.Common.{◌≡◌, ℕ, Bool, true, false, cond, ◌⊎◌, List, [], ◌∷◌, map, Some, None, Decides, Option, sym, refl, ap, ◌∙◌, subst, ap₂, inl, inr, ⊎_elim, arith}
use mathlib.Core.Path.{fun_ext}
use Rattle.std.specs.List.{AllByRecursion}
use Rattle.tickets.specs.Ticket.{Ticket, Tickets, node, nil, cons}
use Rattle.automata.specs.Automaton.{Meaning, Production}
use Rattle.automata.specs.Reading.{Reading, by, Reads, readings, readings_all, row_readings, concat, combine, fits, upto, Member}
use Rattle.automata.specs.Measure.{Ops}
use Rattle.automata.specs.Worth.{sum, reading_worth, worth}
use Rattle.automata.proofs.EachOnce.{readings_exact}
use Rattle.layers.specs.Marks.{each_marked}
use Rattle.layers.specs.Trim.{Productive, Usable, Kept, root, next, Trimmed, row_kept, pruned, TrimPreserves, TrimBarren, TrimOne}
use Rattle.layers.proofs.Marking.{all_from_marked, marked_from_all}

-- a reading shows that the state is productive
some_reading : (m : Meaning) (t : Ticket) (q : ℕ) (xs : List Reading) → readings t m q ≡ xs → (xs ≡ []) ⊎ Productive m q
some_reading m t q [] e = inl refl
some_reading m t q (r ∷ xs) e = inr (t, (r, ((readings_exact t m q).each r).0 (subst (Member r) (sym e) (inl refl))))

combine_none : (rs : List Reading) → combine rs [] ≡ []
combine_none [] = refl
combine_none (r ∷ rs) = combine_none rs

-- where the children have a reading, each child's state is productive
children_read : (m : Meaning) (ts : Tickets) (cs : List ℕ) → (readings_all ts m cs ≡ []) ⊎ AllByRecursion (Productive m) cs
children_read m nil [] = inr tt
children_read m nil (c ∷ cs) = inl refl
children_read m (cons t ts) [] = inl refl
children_read m (cons t ts) (c ∷ cs) =
    ⊎_elim (λ e. inl (ap (λ rs. combine rs (readings_all ts m cs)) e))
    (λ h. ⊎_elim (λ e. inl (ap (combine (readings t m c)) e ∙ combine_none (readings t m c))) (λ all. inr (h, all)) (children_read m ts cs))
    (some_reading m t c (readings t m c) refl)

cond_same : {A : Type 0} (b : Bool) (x : A) → cond b x x ≡ x
cond_same true x = refl
cond_same false x = refl

kept_children : (m : Meaning) (s k : ℕ) (p : Production) → Kept m s → m.row s k ≡ Some p → Usable m p → (cs : List ℕ) → ((c : ℕ) → Member c cs → Member c p.children) → AllByRecursion (Kept m) cs
kept_children m s k p h e u [] sub = tt
kept_children m s k p h e u (c ∷ cs) sub = (next s k p c h e u (sub c (inl refl)), kept_children m s k p h e u cs (λ d i. sub d (inr i)))

module _ (m m' : Meaning) (tr : Trimmed m m') where
  abbrev Children : Tickets → Type 0
  Children ts = (cs : List ℕ) → AllByRecursion (Kept m) cs → readings_all ts m' cs ≡ readings_all ts m cs

  row_same : (s k f : ℕ) (ts : Tickets) → Children ts → Kept m s → (x' x : Option Production) → m'.row s k ≡ x' → m.row s k ≡ x
      → row_readings k f ts (readings_all ts m') x' ≡ row_readings k f ts (readings_all ts m) x
  row_same s k f ts below h (Some q) x e' e =
      let r = (tr.rows s k q).0 e' in
      ap (λ z. cond (fits q f ts) (map (by k q) z) []) (below q.children (kept_children m s k q h r.0 r.2 q.children (λ c i. i)))
      ∙ ap (row_readings k f ts (readings_all ts m)) (sym r.0 ∙ e)
  row_same s k f ts below h None None e' e = refl
  row_same s k f ts below h None (Some p) e' e =
      ⊎_elim (λ z. sym (ap (λ all. cond (fits p f ts) (map (by k p) all) []) z ∙ cond_same (fits p f ts) []))
      (λ u. absurd (let there = (tr.rows s k p).1 (e, h, u) in let z : ◌≡◌ {A = ℕ} 0 1 = cc in omega arith))
      (children_read m ts p.children)

  mutual
    kept_readings : (t : Ticket) (s : ℕ) → Kept m s → readings t m' s ≡ readings t m s
    kept_readings (node f ts) s h =
        ap (λ n. concat (map (λ k. row_readings k f ts (readings_all ts m') (m'.row s k)) (upto n))) tr.places
        ∙ ap (λ g. concat (map g (upto m.places))) (fun_ext (λ k. row_same s k f ts (kept_children_readings ts) h (m'.row s k) (m.row s k) refl refl))

    kept_children_readings : (ts : Tickets) → Children ts
    kept_children_readings nil [] h = refl
    kept_children_readings nil (c ∷ cs) h = refl
    kept_children_readings (cons t ts) [] h = refl
    kept_children_readings (cons t ts) (c ∷ cs) h = ap₂ combine (kept_readings t c h.0) (kept_children_readings ts cs h.1)

  -- what the trimmed automaton reads from a state, only from a kept one
  reads_kept : (t : Ticket) (s : ℕ) (r : Reading) → Reads t m' s r → Kept m s
  reads_kept (node f ts) s (by k p rs) h = ((tr.rows s k p).0 h.1).1

  root_readings : (t : Ticket) → readings t m' m.root ≡ readings t m m.root
  root_readings t =
      ⊎_elim
      (λ e. ⊎_elim (λ e'. e' ∙ sym e) (λ pr. kept_readings t m.root (reads_kept pr.0 m.root pr.1.0 pr.1.1)) (some_reading m' t m.root (readings t m' m.root) refl))
      (λ pr. kept_readings t m.root (root pr)) (some_reading m t m.root (readings t m m.root) refl)

pub trim_preserves : {M : Type 0} (o : Ops M) → TrimPreserves o
trim_preserves o m m' tr t = ap (λ s. worth o m' s t) tr.root ∙ ap (sum o (reading_worth o)) (root_readings m m' tr t)

kept_productive : (m : Meaning) {s : ℕ} → Kept m s → Productive m m.root
kept_productive m (root h) = h
kept_productive m (next s k p c h e u i) = kept_productive m h

no_row : (x : Option Production) → ((p : Production) → x ≡ Some p → ⊥) → x ≡ None
no_row None h = refl
no_row (Some p) h = absurd (h p refl)

pub trim_barren : TrimBarren
trim_barren m m' tr barren s k = no_row (m'.row s k) (λ p e. barren (kept_productive m ((tr.rows s k p).0 e).1))

pub trim_one : TrimOne
trim_one m a b ta tb s k = go (a.row s k) refl
  where
    go : (x : Option Production) → a.row s k ≡ x → x ≡ b.row s k
    go (Some p) e = sym ((tb.rows s k p).1 ((ta.rows s k p).0 e))
    go None e = sym (no_row (b.row s k) (λ p e'. let there = (ta.rows s k p).1 ((tb.rows s k p).0 e') in let z : ◌≡◌ {A = ℕ} 0 1 = cc in omega arith))

-- marks that decide kept and productive trim
module _ (m : Meaning) (keep f : ℕ → Bool) (kept : (s : ℕ) → Decides (keep s) (Kept m s)) (made : (s : ℕ) → Decides (f s) (Productive m s)) where
  row_from : (b : Bool) (x : Option Production) (p : Production) → cond b (row_kept f x) None ≡ Some p → (b ≡ true) × (x ≡ Some p) × (each_marked f p.children ≡ true)
  row_from false x p e = absurd (let z : ◌≡◌ {A = ℕ} 0 1 = cc in omega arith)
  row_from true None p e = absurd (let z : ◌≡◌ {A = ℕ} 0 1 = cc in omega arith)
  row_from true (Some q) p e = go (each_marked f q.children) refl e
    where
      go : (b : Bool) → each_marked f q.children ≡ b → cond b (Some q) None ≡ Some p → (true ≡ true) × (Some q ≡ Some p) × (each_marked f p.children ≡ true)
      go true t e' = let same : q ≡ p = cc in (refl, e', subst (λ z. each_marked f z.children ≡ true) same t)
      go false t e' = absurd (let z : ◌≡◌ {A = ℕ} 0 1 = cc in omega arith)

  pub pruned_trimmed : Trimmed m (pruned keep f m)
  pruned_trimmed = record {
    states = refl;
    places = refl;
    root = refl;
    rows = λ s k p. (
      λ e. let r = row_from (keep s) (m.row s k) p e in (r.1, (kept s).0 r.0, all_from_marked (Productive m) f (λ c h. (made c).0 h) p.children r.2),
      λ h. ap₂ (λ b x. cond b (row_kept f x) None) ((kept s).1 h.1) h.0 ∙ ap (λ b. cond b (Some p) None) (marked_from_all (Productive m) f (λ c g. (made c).1 g) p.children h.2),
    );
  }
