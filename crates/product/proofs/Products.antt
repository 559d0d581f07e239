-- From each pair, the worth in the product is the product of the worths.
use Rattle.std.proofs.Common.{◌≡◌, ℕ, ◌+◌, ◌*◌, ◌/◌, ◌%◌, ◌<◌, min, Bool, true, false, cond, ◌&&◌, eqb, ltb, List, [], ◌∷◌, length, Some, None, Option, sym, refl, ap, ◌∙◌, ap₂, arith}
use Rattle.std.proofs.lemmas.Nat.{div-mul-add, mod-mul-add}
use Rattle.std.proofs.lemmas.Bool.{and_parts, ltb-true, eqb-true}
use Rattle.std.proofs.lemmas.Bool.Decides.{nat_tests}
use Rattle.tickets.specs.Ticket.{Ticket, Tickets, node, nil, cons, count}
use Rattle.automata.specs.Automaton.{Meaning, Production, Sound, Closed, Small, all_below}
use Rattle.automata.specs.Reading.{fits, upto}
use Rattle.automata.specs.Measure.{Ops, Laws}
use Rattle.automata.specs.Worth.{sum, worth, children_worth, row_worth}
use Rattle.product.specs.Product.{pairs, alike, joint, joined, product, ProductMultiplies}
use Rattle.automata.proofs.Sums.{times_none_right, times_middle, sum_cong, sum_product, sum_grid}
use Rattle.automata.proofs.ByRows.{worth_by_rows}

pub length_pairs : (n : ℕ) (xs ys : List ℕ) → length (pairs n xs ys) ≡ min (length xs) (length ys)
length_pairs n [] ys = omega arith
length_pairs n (x ∷ xs) [] = omega arith
length_pairs n (x ∷ xs) (y ∷ ys) = omega (arith, length_pairs n xs ys)

-- two rows join and fit a node if each fits it
fit_joined : (g h f k l j c : ℕ) → j ≡ min k l → ((eqb g h && eqb k l) && (eqb g f && eqb j c)) ≡ ((eqb g f && eqb k c) && (eqb h f && eqb l c))
fit_joined g h f k l j c e = grind (arith, nat_tests)

module _ {M : Type 0} {o : Ops M} (laws : Laws o) where
  both : (x y : Bool) (v u w : M) → (x ≡ true → y ≡ true → v ≡ o.times u w) → cond (x && y) v o.none ≡ o.times (cond x u o.none) (cond y w o.none)
  both true true v u w e = e refl refl
  both true false v u w e = sym (times_none_right laws u)
  both false y v u w e = sym (laws.times_none (cond y w o.none))

  if_joined : (m : Meaning) (f : ℕ) (ts : Tickets) (b : Bool) (p : Production)
      → row_worth o m f ts (cond b (Some p) None) ≡ cond (b && fits p f ts) (o.times (o.value p.points) (children_worth o m ts p.children)) o.none
  if_joined m f ts true p = refl
  if_joined m f ts false p = refl

  module _ (a b : Meaning) where
    -- the product law for a row of children
    abbrev Children : Tickets → Type 0
    Children ts = (xs ys : List ℕ) → length xs ≡ count ts → length ys ≡ count ts → all_below b.states ys ≡ true → children_worth o (product a b) ts (pairs b.states xs ys) ≡ o.times (children_worth o a ts xs) (children_worth o b ts ys)

    row_product : (f : ℕ) (ts : Tickets) → Children ts → (x y : Option Production) → Closed b.states y → Small x → Small y
        → row_worth o (product a b) f ts (joined b.states x y) ≡ o.times (row_worth o a f ts x) (row_worth o b f ts y)
    row_product f ts below None y closed s s' = sym (laws.times_none (row_worth o b f ts y))
    row_product f ts below (Some x) None closed s s' = sym (times_none_right laws (row_worth o a f ts (Some x)))
    row_product f ts below (Some x) (Some y) closed s s' =
        let n = b.states in
        let xs = x.children in
        let ys = y.children in
        let u = o.times (o.value x.points) (children_worth o a ts xs) in
        let w = o.times (o.value y.points) (children_worth o b ts ys) in
        let v = o.times (o.value (joint n x y).points) (children_worth o (product a b) ts (pairs n xs ys)) in
        let parted : fits x f ts ≡ true → fits y f ts ≡ true → v ≡ o.times u w =
        λ fx fy.
        ap₂ o.times (laws.value_sum x.points y.points s s')
        (below xs ys (eqb-true (length xs) (count ts) (and_parts (eqb x.form f) _ fx).1) (eqb-true (length ys) (count ts) (and_parts (eqb y.form f) _ fy).1) closed)
        ∙ times_middle laws (o.value x.points) (o.value y.points) (children_worth o a ts xs) (children_worth o b ts ys) in
        if_joined (product a b) f ts (alike x y) (joint n x y)
        ∙ ap (λ t. cond t v o.none) (fit_joined x.form y.form f (length xs) (length ys) (length (pairs n xs ys)) (count ts) (length_pairs n xs ys))
        ∙ both (fits x f ts) (fits y f ts) v u w parted

    node_product : Sound a → Sound b → (f : ℕ) (ts : Tickets) → Children ts → (p q : ℕ) → q < b.states
        → worth o (product a b) (p * b.states + q) (node f ts) ≡ o.times (worth o a p (node f ts)) (worth o b q (node f ts))
    node_product sa sb f ts below p q lt =
        let n = b.states in
        let h : ℕ → ℕ → ℕ → ℕ → M = λ s s' i j. row_worth o (product a b) f ts (joined n (a.row s i) (b.row s' j)) in
        worth_by_rows laws (product a b) (p * n + q) f ts
        ∙ ap₂ (λ s s'. sum o (λ k. h s s' (k / b.places) (k % b.places)) (upto (a.places * b.places))) (div-mul-add p n q lt) (mod-mul-add p n q lt)
        ∙ sum_grid laws a.places b.places (h p q)
        ∙ sum_cong laws (λ i. sum_cong laws (λ j. row_product f ts below (a.row p i) (b.row q j) (sb.closed q j) (sa.few_points p i) (sb.few_points q j)) (upto b.places)) (upto a.places)
        ∙ sym (sum_product laws (λ i. row_worth o a f ts (a.row p i)) (λ j. row_worth o b f ts (b.row q j)) (upto a.places) (upto b.places))
        ∙ sym (ap₂ o.times (worth_by_rows laws a p f ts) (worth_by_rows laws b q f ts))

    module _ (sa : Sound a) (sb : Sound b) where
      mutual
        product_worth : (t : Ticket) (p q : ℕ) → q < b.states → worth o (product a b) (p * b.states + q) t ≡ o.times (worth o a p t) (worth o b q t)
        product_worth (node f ts) p q lt = node_product sa sb f ts (children_product ts) p q lt

        children_product : (ts : Tickets) → Children ts
        children_product nil [] [] e e' closed = sym (laws.times_unit o.unit)
        children_product nil [] (y ∷ ys) e e' closed = absurd (omega arith)
        children_product nil (x ∷ xs) ys e e' closed = absurd (omega arith)
        children_product (cons t ts) [] ys e e' closed = absurd (omega arith)
        children_product (cons t ts) (x ∷ xs) [] e e' closed = absurd (omega arith)
        children_product (cons t ts) (x ∷ xs) (y ∷ ys) e e' closed =
            let parts = and_parts (ltb y b.states) (all_below b.states ys) closed in
            ap₂ o.times (product_worth t x y (ltb-true y b.states parts.0)) (children_product ts xs ys (omega arith) (omega arith) parts.1)
            ∙ times_middle laws (worth o a x t) (worth o b y t) (children_worth o a ts xs) (children_worth o b ts ys)

  pub product_multiplies : ProductMultiplies o
  product_multiplies a b sa sb t p q lt = product_worth a b sa sb t p q lt
