-- The list of readings has each reading, and no other, once.
use Rattle.std.proofs.Common.{◌≡◌, ℕ, suc, Bool, true, false, cond, eqb, List, [], ◌∷◌, map, length, Some, None, Option, sym, refl, ap, ◌∙◌, subst, inl, inr, ⊎_elim, arith}
use Rattle.std.proofs.lemmas.Bool.{and_parts, and_from, eqb-true, eq-eqb}
use Rattle.tickets.specs.Ticket.{Ticket, Tickets, node, nil, cons, count}
use Rattle.automata.specs.Automaton.{Meaning, Production}
use Rattle.automata.specs.Reading.{Reading, Readings, by, rnil, rcons, readings, readings_all, row_readings, combine, fits, upto, Reads, ReadsAll, Member, Distinct, ReadingsExact}
use Rattle.automata.proofs.Members.{member_cases, member_left, member_right, distinct_append, member_upto, upto_below, distinct_upto, member_map, map_member, distinct_map, member_concat, concat_member, distinct_concat}

member_combine : (r : Reading) (x : Readings) (rs : List Reading) (all : List Readings) → Member r rs → Member x all → Member (rcons r x) (combine rs all)
member_combine r x [] all h h' = absurd h
member_combine r x (s ∷ rs) all h h' =
    ⊎_elim (λ e. member_left (rcons r x) (map (rcons s) all) (combine rs all) (subst (λ y. Member (rcons y x) (map (rcons s) all)) (sym e) (member_map (rcons s) x all h')))
    (λ k. member_right (rcons r x) (map (rcons s) all) (combine rs all) (member_combine r x rs all k h')) h

combine_member : (z : Readings) (rs : List Reading) (all : List Readings) → Member z (combine rs all) → (r : Reading) × (x : Readings) × Member r rs × Member x all × (z ≡ rcons r x)
combine_member z [] all h = absurd h
combine_member z (s ∷ rs) all h =
    ⊎_elim (λ l. let m = map_member (rcons s) z all l in (s, m.0, inl refl, m.1, m.2))
    (λ l. let m = combine_member z rs all l in (m.0, m.1, inr m.2, m.3, m.4))
    (member_cases z (map (rcons s) all) (combine rs all) h)

distinct_combine : (rs : List Reading) (all : List Readings) → Distinct rs → Distinct all → Distinct (combine rs all)
distinct_combine [] all d d' = tt
distinct_combine (r ∷ rs) all d d' =
    distinct_append (map (rcons r) all) (combine rs all) (distinct_map (rcons r) (λ x y e. cc) all d') (distinct_combine rs all d.1 d')
    (λ z h k.
    let l = map_member (rcons r) z all h in
    let s = combine_member z rs all k in
    let both : rcons r l.0 ≡ rcons s.0 s.1 = sym l.2 ∙ s.4 in
    let same : s.0 ≡ r = cc in
    d.0 (subst (λ y. Member y rs) same s.2))

reads_count : (ts : Tickets) (m : Meaning) (cs : List ℕ) (rs : Readings) → ReadsAll ts m cs rs → length cs ≡ count ts
reads_count nil m [] rs h = refl
reads_count nil m (c ∷ cs) rs h = absurd h
reads_count (cons t ts) m [] rs h = absurd h
reads_count (cons t ts) m (c ∷ cs) rnil h = absurd h
reads_count (cons t ts) m (c ∷ cs) (rcons r rs) h = ap suc (reads_count ts m cs rs h.1)

abbrev place : Reading → ℕ
place (by k p rs) = k

-- what a reading at the place k is
row_member : (k f : ℕ) (ts : Tickets) (below : List ℕ → List Readings) (x : Option Production) (z : Reading) → Member z (row_readings k f ts below x)
    → (p : Production) × (rs : Readings) × (x ≡ Some p) × (fits p f ts ≡ true) × Member rs (below p.children) × (z ≡ by k p rs)
row_member k f ts below None z h = absurd h
row_member k f ts below (Some p) z h = go (fits p f ts) refl h
  where
    go : (b : Bool) → fits p f ts ≡ b → Member z (cond b (map (by k p) (below p.children)) [])
        → (q : Production) × (rs : Readings) × (Some p ≡ Some q) × (fits q f ts ≡ true) × Member rs (below q.children) × (z ≡ by k q rs)
    go true e l = let s = map_member (by k p) z (below p.children) l in (p, s.0, refl, e, s.1, s.2)
    go false e l = absurd l

row_distinct : (k f : ℕ) (ts : Tickets) (below : List ℕ → List Readings) → ((cs : List ℕ) → Distinct (below cs)) → (x : Option Production) → Distinct (row_readings k f ts below x)
row_distinct k f ts below d None = tt
row_distinct k f ts below d (Some p) = go (fits p f ts)
  where
    go : (b : Bool) → Distinct (cond b (map (by k p) (below p.children)) [])
    go true = distinct_map (by k p) (λ x y e. cc) (below p.children) (d p.children)
    go false = tt

module _ (m : Meaning) where
  mutual
    listed_reads : (t : Ticket) (q : ℕ) (z : Reading) → Member z (readings t m q) → Reads t m q z
    listed_reads (node f ts) q z h =
        let at = concat_member (λ k. row_readings k f ts (readings_all ts m) (m.row q k)) z (upto m.places) h in
        let r = row_member at.0 f ts (readings_all ts m) (m.row q at.0) z at.2 in
        subst (Reads (node f ts) m q) (sym r.5)
        (upto_below m.places at.0 at.1, r.2, eqb-true r.0.form f (and_parts (eqb r.0.form f) _ r.3).0, listed_reads_all ts r.0.children r.1 r.4)

    listed_reads_all : (ts : Tickets) (cs : List ℕ) (z : Readings) → Member z (readings_all ts m cs) → ReadsAll ts m cs z
    listed_reads_all nil [] rnil h = tt
    listed_reads_all nil [] (rcons r rs) h = ⊎_elim (λ (e : rcons r rs ≡ rnil). absurd (let z : ◌≡◌ {A = ℕ} 0 1 = cc in omega arith)) absurd h
    listed_reads_all nil (c ∷ cs) z h = absurd h
    listed_reads_all (cons t ts) [] z h = absurd h
    listed_reads_all (cons t ts) (c ∷ cs) z h =
        let s = combine_member z (readings t m c) (readings_all ts m cs) h in
        subst (ReadsAll (cons t ts) m (c ∷ cs)) (sym s.4) (listed_reads t c s.0 s.2, listed_reads_all ts cs s.1 s.3)

  mutual
    reads_listed : (t : Ticket) (q : ℕ) (z : Reading) → Reads t m q z → Member z (readings t m q)
    reads_listed (node f ts) q (by k p rs) h =
        let all = map (by k p) (readings_all ts m p.children) in
        let fit : fits p f ts ≡ true = and_from (eqb p.form f) (eqb (length p.children) (count ts)) (eq-eqb p.form f h.2) (eq-eqb (length p.children) (count ts) (reads_count ts m p.children rs h.3)) in
        let here : row_readings k f ts (readings_all ts m) (m.row q k) ≡ all = ap (row_readings k f ts (readings_all ts m)) h.1 ∙ ap (λ b. cond b all []) fit in
        member_concat (λ k. row_readings k f ts (readings_all ts m) (m.row q k)) (by k p rs) k (upto m.places) (member_upto m.places k h.0)
        (subst (Member (by k p rs)) (sym here) (member_map (by k p) rs (readings_all ts m p.children) (reads_all_listed ts p.children rs h.3)))

    reads_all_listed : (ts : Tickets) (cs : List ℕ) (z : Readings) → ReadsAll ts m cs z → Member z (readings_all ts m cs)
    reads_all_listed nil [] rnil h = inl refl
    reads_all_listed nil [] (rcons r rs) h = absurd h
    reads_all_listed nil (c ∷ cs) z h = absurd h
    reads_all_listed (cons t ts) [] z h = absurd h
    reads_all_listed (cons t ts) (c ∷ cs) rnil h = absurd h
    reads_all_listed (cons t ts) (c ∷ cs) (rcons r rs) h = member_combine r rs (readings t m c) (readings_all ts m cs) (reads_listed t c r h.0) (reads_all_listed ts cs rs h.1)

  mutual
    listed_once : (t : Ticket) (q : ℕ) → Distinct (readings t m q)
    listed_once (node f ts) q =
        distinct_concat (λ k. row_readings k f ts (readings_all ts m) (m.row q k)) (λ k. row_distinct k f ts (readings_all ts m) (listed_all_once ts) (m.row q k))
        (λ j k z l r. sym (ap place (row_member j f ts (readings_all ts m) (m.row q j) z l).5) ∙ ap place (row_member k f ts (readings_all ts m) (m.row q k) z r).5)
        (upto m.places) (distinct_upto m.places)

    listed_all_once : (ts : Tickets) (cs : List ℕ) → Distinct (readings_all ts m cs)
    listed_all_once nil [] = (absurd, tt)
    listed_all_once nil (c ∷ cs) = tt
    listed_all_once (cons t ts) [] = tt
    listed_all_once (cons t ts) (c ∷ cs) = distinct_combine (readings t m c) (readings_all ts m cs) (listed_once t c) (listed_all_once ts cs)

pub readings_exact : ReadingsExact
readings_exact t m q = record { each = λ r. (listed_reads m t q r, reads_listed m t q r); once = listed_once m t q }
