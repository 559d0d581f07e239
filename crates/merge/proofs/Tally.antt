-- Equal counts of rows give equal sums of any function of the row.
use Rattle.std.proofs.Common.{◌≡◌, ◌+◌, ◌<◌, Bool, true, false, cond, ◌&&◌, eqb, nat_eq, List, [], ◌∷◌, sym, refl, ap, ◌∙◌, add_assoc, add_comm, arith}
use Rattle.std.specs.Cmp.Lexicographic.{pointwise}
use Rattle.std.proofs.lemmas.Slice.Eq.{bytes_eq-Decides}
use Rattle.std.proofs.lemmas.Bool.{eqb-true, eq-eqb, and_parts, and_from}
use Rattle.automata.specs.Automaton.{Production}
use Rattle.merge.specs.Merge.{same, tally}

pub same_true : (p q : Production) → same p q ≡ true → p ≡ q
same_true p q e =
    let h = and_parts (eqb p.form q.form) (eqb p.points q.points && pointwise nat_eq p.children q.children) e in
    let k = and_parts (eqb p.points q.points) (pointwise nat_eq p.children q.children) h.1 in
    let a : p.form ≡ q.form = eqb-true p.form q.form h.0 in
    let b : p.points ≡ q.points = eqb-true p.points q.points k.0 in
    let c : p.children ≡ q.children = (bytes_eq-Decides p.children q.children).0 k.1 in
    λ i. record { form = a i; points = b i; children = c i }

pub same_refl : (p : Production) → same p p ≡ true
same_refl p =
    and_from (eqb p.form p.form) _ (eq-eqb p.form p.form refl)
    (and_from (eqb p.points p.points) _ (eq-eqb p.points p.points refl) ((bytes_eq-Decides p.children p.children).1 refl))

-- the list with one such row taken out
abbrev without : Production → List Production → List Production
without x [] = []
without x (y ∷ ys) = cond (same x y) ys (y ∷ without x ys)

abbrev pub sums : {M : Type 0} → (M → M → M) → M → (Production → M) → List Production → M
sums plus none f [] = none
sums plus none f (x ∷ xs) = plus (f x) (sums plus none f xs)

module _ {M : Type 0} (plus : M → M → M) (none : M) (assoc : (x y z : M) → plus (plus x y) z ≡ plus x (plus y z)) (comm : (x y : M) → plus x y ≡ plus y x) where
  swap : (x y z : M) → plus x (plus y z) ≡ plus y (plus x z)
  swap x y z = sym (assoc x y z) ∙ ap (λ w. plus w z) (comm x y) ∙ assoc y x z

  taken : (f : Production → M) (x : Production) (ys : List Production) → 0 < tally x ys → sums plus none f ys ≡ plus (f x) (sums plus none f (without x ys))
  taken f x [] h = absurd (omega arith)
  taken f x (y ∷ ys) h = go (same x y) refl (taken f x ys)
    where
      go : (b : Bool) → same x y ≡ b → (0 < tally x ys → sums plus none f ys ≡ plus (f x) (sums plus none f (without x ys))) → sums plus none f (y ∷ ys) ≡ plus (f x) (sums plus none f (without x (y ∷ ys)))
      go true e ih = rw e (ap (λ z. plus (f z) (sums plus none f ys)) (sym (same_true x y e)))
      go false e ih =
          let k : 0 < tally x ys = omega (arith, rw e at h) in
          rw e (ap (plus (f y)) (ih k) ∙ swap (f y) (f x) _)

pub tally_sums : (s : Production) (xs : List Production) → tally s xs ≡ sums ◌+◌ 0 (λ x. cond (same s x) 1 0) xs
tally_sums s [] = refl
tally_sums s (x ∷ xs) = ap (λ n. cond (same s x) 1 0 + n) (tally_sums s xs)

left : (s x : Production) (ys : List Production) → 0 < tally x ys → tally s ys ≡ cond (same s x) 1 0 + tally s (without x ys)
left s x ys h = tally_sums s ys ∙ taken ◌+◌ 0 add_assoc add_comm (λ z. cond (same s z) 1 0) x ys h ∙ ap (λ n. cond (same s x) 1 0 + n) (sym (tally_sums s (without x ys)))

present : (x : Production) (xs : List Production) → 0 < tally x (x ∷ xs)
present x xs = rw (same_refl x) (omega arith)

module _ {M : Type 0} (plus : M → M → M) (none : M) (assoc : (x y z : M) → plus (plus x y) z ≡ plus x (plus y z)) (comm : (x y : M) → plus x y ≡ plus y x) where
  pub same_sums : (f : Production → M) (xs ys : List Production) → ((s : Production) → tally s xs ≡ tally s ys) → sums plus none f xs ≡ sums plus none f ys
  same_sums f [] [] h = refl
  same_sums f [] (y ∷ ys) h = absurd (omega (arith, h y, present y ys))
  same_sums f (x ∷ xs) ys h =
      let k : 0 < tally x ys = omega (arith, h x, present x xs) in
      ap (plus (f x)) (same_sums f xs (without x ys) (λ s. omega (arith, h s, left s x ys k))) ∙ sym (taken plus none assoc comm f x ys k)
