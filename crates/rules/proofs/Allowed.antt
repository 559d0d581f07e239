-- A ruled automaton accepts a ticket exactly where each node's form is one of the state that reads it.
use Rattle.std.proofs.Common.{◌≡◌, ℕ, zero, suc, ◌+◌, ◌<◌, Bool, true, ltb, ◌↔◌, List, length, get_or, Some, sym, refl, ap, ◌∙◌, subst, inl, inr, ⊎_elim, add-zero, zero-add, arith}
use Rattle.std.proofs.lemmas.Bool.{lt-ltb, and_from, cond-true}
use Rattle.tickets.specs.Ticket.{Ticket, Tickets, node, nil, cons, count, Formed, FormedAll}
use Rattle.automata.specs.Automaton.{Production}
use Rattle.automata.specs.Reading.{Reading, Readings, by, rnil, rcons, Reads, ReadsAll, Accepts}
use Rattle.rules.specs.Ruled.{aims, form_row, ruled, top_form, form_at, Nests, NestsAny}
use Rattle.rules.specs.Soundness.{row_of}

module _ (a : List ℕ) (n : ℕ) (has : ℕ → ℕ → Bool) (to : ℕ → ℕ → ℕ) where
  pub row_is : (s k : ℕ) → s < n → k < length a → has s k ≡ true → (ruled a n has to).row s k ≡ Some (form_row a to k)
  row_is s k l l' h = cond-true _ _ _ (and_from (ltb s n) _ (lt-ltb s n l) (and_from (ltb k (length a)) (has s k) (lt-ltb k (length a) l') h))

  -- from state s each node's form is one of its state
  abbrev mutual
    Allowed : Ticket → ℕ → Type 0
    Allowed (node f ts) s = (s < n) × (has s f ≡ true) × AllowedAll ts f 0

    AllowedAll : Tickets → ℕ → ℕ → Type 0
    AllowedAll nil f i = Unit {0}
    AllowedAll (cons t ts) f i = Allowed t (to f i) × AllowedAll ts f (suc i)

  node_allowed : (f : ℕ) (ts : Tickets) → ((g i c : ℕ) (rs : Readings) → ReadsAll ts (ruled a n has to) (aims (to g) i c) rs → AllowedAll ts g i)
      → (s : ℕ) (r : Reading) → Reads (node f ts) (ruled a n has to) s r → Allowed (node f ts) s
  node_allowed f ts all s (by k p rs) h =
      let x = row_of a n has to s k p h.1 in
      let e : k ≡ f = ap (λ (q : Production). q.form) x.3 ∙ h.2 in
      let y : ReadsAll ts (ruled a n has to) (aims (to k) 0 (get_or a k 0)) rs = subst (λ (cs : List ℕ). ReadsAll ts (ruled a n has to) cs rs) (sym (ap (λ (q : Production). q.children) x.3)) h.3 in
      (x.0, ap (has s) (sym e) ∙ x.2, subst (λ (j : ℕ). AllowedAll ts j 0) e (all k 0 (get_or a k 0) rs y))

  mutual
    reads_allowed : (t : Ticket) (s : ℕ) (r : Reading) → Reads t (ruled a n has to) s r → Allowed t s
    reads_allowed (node f ts) s r h = node_allowed f ts (λ g i c rs k. reads_allowed_all ts g i c rs k) s r h

    reads_allowed_all : (ts : Tickets) (f i c : ℕ) (rs : Readings) → ReadsAll ts (ruled a n has to) (aims (to f) i c) rs → AllowedAll ts f i
    reads_allowed_all nil f i c rs h = tt
    reads_allowed_all (cons t ts) f i zero rs h = absurd h
    reads_allowed_all (cons t ts) f i (suc c) rnil h = absurd h
    reads_allowed_all (cons t ts) f i (suc c) (rcons r rs) h = (reads_allowed t (to f i) r h.0, reads_allowed_all ts f (suc i) c rs h.1)

  node_reads : (f : ℕ) (ts : Tickets) → ((g i : ℕ) → AllowedAll ts g i → (rs : Readings) × ReadsAll ts (ruled a n has to) (aims (to g) i (count ts)) rs)
      → f < length a → count ts ≡ get_or a f 0 → (s : ℕ) → Allowed (node f ts) s → (r : Reading) × Reads (node f ts) (ruled a n has to) s r
  node_reads f ts all l c s h =
      let y = all f 0 h.2 in
      (by f (form_row a to f) y.0, (omega arith, row_is s f h.0 l h.1, refl, subst (λ (j : ℕ). ReadsAll ts (ruled a n has to) (aims (to f) 0 j) y.0) c y.1))

  mutual
    allowed_reads : (t : Ticket) (s : ℕ) → Formed t a → Allowed t s → (r : Reading) × Reads t (ruled a n has to) s r
    allowed_reads (node f ts) s k h = node_reads f ts (λ g i x. allowed_reads_all ts g i k.2 x) k.0 k.1 s h

    allowed_reads_all : (ts : Tickets) (f i : ℕ) → FormedAll ts a → AllowedAll ts f i → (rs : Readings) × ReadsAll ts (ruled a n has to) (aims (to f) i (count ts)) rs
    allowed_reads_all nil f i k h = (rnil, tt)
    allowed_reads_all (cons t ts) f i k h =
        let x = allowed_reads t (to f i) k.0 h.0 in
        let y = allowed_reads_all ts f (suc i) k.1 h.1 in
        (rcons x.0 y.0, (x.1, y.1))

  -- each form directly below another is one of the state that it is sent to
  abbrev Nested : Ticket → Type 0
  Nested t = (f i g : ℕ) → Nests t f i g → has (to f i) g ≡ true

  abbrev NestedAny : Tickets → Type 0
  NestedAny ts = (f i g : ℕ) → NestsAny ts f i g → has (to f i) g ≡ true

  allowed_has : (t : Ticket) (s : ℕ) → Allowed t s → has s (top_form t) ≡ true
  allowed_has (node f ts) s h = h.1

  child_has : (ts : Tickets) (h j : ℕ) → AllowedAll ts h j → (i g : ℕ) → form_at ts i ≡ Some g → has (to h (j + i)) g ≡ true
  child_has nil h j x i g e = let z : ◌≡◌ {A = ℕ} 0 1 = cc in absurd (omega arith)
  child_has (cons t ts) h j x zero g e =
      let same : top_form t ≡ g = cc in
      subst (λ (k : ℕ). has (to h k) g ≡ true) (sym (add-zero j)) (subst (λ (f : ℕ). has (to h j) f ≡ true) same (allowed_has t (to h j) x.0))
  child_has (cons t ts) h j x (suc i) g e =
      let k : suc j + i ≡ j + suc i = omega arith in
      subst (λ (k : ℕ). has (to h k) g ≡ true) k (child_has ts h (suc j) x.1 i g e)

  node_nested : (h : ℕ) (ts : Tickets) → NestedAny ts → AllowedAll ts h 0 → Nested (node h ts)
  node_nested h ts any x f i g nest =
      ⊎_elim (λ (e : (h ≡ f) × (form_at ts i ≡ Some g)). subst (λ (k : ℕ). has (to k i) g ≡ true) e.0 (subst (λ (k : ℕ). has (to h k) g ≡ true) (zero-add i) (child_has ts h 0 x i g e.1)))
      (any f i g) nest

  mutual
    allowed_nested : (t : Ticket) (s : ℕ) → Allowed t s → Nested t
    allowed_nested (node h ts) s x = node_nested h ts (allowed_nested_any ts h 0 x.2) x.2

    allowed_nested_any : (ts : Tickets) (h j : ℕ) → AllowedAll ts h j → NestedAny ts
    allowed_nested_any nil h j x f i g nest = absurd nest
    allowed_nested_any (cons t ts) h j x f i g nest = ⊎_elim (allowed_nested t (to h j) x.0 f i g) (allowed_nested_any ts h (suc j) x.1 f i g) nest

  module _ (low : (f i : ℕ) → to f i < n) where
    to_node : (h : ℕ) (ts : Tickets) (s : ℕ) → s < n → has s h ≡ true → AllowedAll ts h 0 → Allowed (node h ts) s
    to_node h ts s l e x = (l, e, x)

    mutual
      nested_allowed : (t : Ticket) (s : ℕ) → s < n → has s (top_form t) ≡ true → Nested t → Allowed t s
      nested_allowed (node h ts) s l e nest =
          to_node h ts s l e (nested_allowed_all ts h 0 (λ i g k. subst (λ (j : ℕ). has (to h j) g ≡ true) (sym (zero-add i)) (nest h i g (inl (refl, k)))) (λ f i g k. nest f i g (inr k)))

      nested_allowed_all : (ts : Tickets) (h j : ℕ) → ((i g : ℕ) → form_at ts i ≡ Some g → has (to h (j + i)) g ≡ true) → NestedAny ts → AllowedAll ts h j
      nested_allowed_all nil h j own any = tt
      nested_allowed_all (cons t ts) h j own any = (
        nested_allowed t (to h j) (low h j) (subst (λ (k : ℕ). has (to h k) (top_form t) ≡ true) (add-zero j) (own 0 (top_form t) refl)) (λ f i g k. any f i g (inl k)),
        nested_allowed_all ts h (suc j) (λ i g k. let e : j + suc i ≡ suc j + i = omega arith in subst (λ (m : ℕ). has (to h m) g ≡ true) e (own (suc i) g k)) (λ f i g k. any f i g (inr k)),
      )

    -- accepted from a state that has the top form exactly where each child's form is one of the state that it is sent to
    pub accepts_nested : (t : Ticket) (s : ℕ) → Formed t a → s < n → has s (top_form t) ≡ true → Accepts (ruled a n has to) s t ↔ Nested t
    accepts_nested t s k l e =
        (λ r. allowed_nested t s (reads_allowed t s r.0 r.1), λ nest. allowed_reads t s k (nested_allowed t s l e nest))
