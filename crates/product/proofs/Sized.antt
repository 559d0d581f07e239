-- Sizes that are those of the sides leave out no row of the product.
use Rattle.std.proofs.Common.{◌≡◌, ℕ, ◌+◌, ◌*◌, ◌/◌, ◌%◌, ◌<◌, ◌≤◌, Bool, true, false, cond, ◌&&◌, ltb, leb, List, [], ◌∷◌, is_ok, Some, None, Ok, Err, Option, sym, refl, ap, ◌∙◌, ap₂, ⊎_elim, mul_comm, arith}
use mathlib.Core.Path.{fun_ext}
use Rattle.refusals.specs.declared.refusal.PileRefusal.{PileRefusal}
use Rattle.refusals.specs.declared.refusal.PileRefusal.TheVariants.{ManyStates, ManyPlaces}
use Rattle.std.proofs.lemmas.Nat.{mul-add-lt, le-div}
use Rattle.std.proofs.lemmas.Bool.{and_parts, and_from, ltb-true, lt-ltb, le-ltb, leb-true, cases_lt, true≢false}
use Rattle.automata.specs.Automaton.{Meaning, Production, Sound, Closed, all_below}
use Rattle.product.specs.Product.{pair, pairs, alike, joint, joined, product, product_checked, row_below, sized_by}

pairs_below : (m n : ℕ) (xs ys : List ℕ) → all_below m xs ≡ true → all_below n ys ≡ true → all_below (m * n) (pairs n xs ys) ≡ true
pairs_below m n [] ys e e' = refl
pairs_below m n (x ∷ xs) [] e e' = refl
pairs_below m n (x ∷ xs) (y ∷ ys) e e' =
    let l = and_parts (ltb x m) (all_below m xs) e in
    let r = and_parts (ltb y n) (all_below n ys) e' in
    let lt : x * n + y < m * n = omega (arith, mul-add-lt x n y m (ltb-true x m l.0) (ltb-true y n r.0), mul_comm m n) in
    and_from (ltb (x * n + y) (m * n)) (all_below (m * n) (pairs n xs ys)) (lt-ltb (x * n + y) (m * n) lt) (pairs_below m n xs ys l.1 r.1)

joined_closed : (m n : ℕ) (x y : Option Production) → Closed m x → Closed n y → Closed (m * n) (joined n x y)
joined_closed m n None y cx cy = tt
joined_closed m n (Some p) None cx cy = tt
joined_closed m n (Some p) (Some q) cx cy = go (alike p q)
  where
    go : (b : Bool) → Closed (m * n) (cond b (Some (joint n p q)) None)
    go true = pairs_below m n p.children q.children cx cy
    go false = tt

closed_below : (n : ℕ) (x : Option Production) → Closed n x → row_below n x ≡ x
closed_below n None h = refl
closed_below n (Some p) h = ap (λ b. cond b (Some p) None) h

guard_idle : (n k s j : ℕ) (x : Option Production) → Closed n x → (n ≤ s → x ≡ None) → (k ≤ j → x ≡ None) → cond (ltb s n && ltb j k) (row_below n x) None ≡ x
guard_idle n k s j x closed beyond beyond' =
    ⊎_elim
    (λ l. ⊎_elim
    (λ r. ap (λ b. cond b (row_below n x) None) (and_from (ltb s n) (ltb j k) (lt-ltb s n l) (lt-ltb j k r)) ∙ closed_below n x closed)
    (λ r. ap₂ (λ b c. cond (b && c) (row_below n x) None) (lt-ltb s n l) (le-ltb j k r) ∙ sym (beyond' r)) (cases_lt j k))
    (λ l. ap (λ b. cond (b && ltb j k) (row_below n x) None) (le-ltb s n l) ∙ sym (beyond l)) (cases_lt s n)

module _ (a b : Meaning) (sa : Sound a) (sb : Sound b) where
  product_rows : (s k : ℕ) → cond (ltb s (a.states * b.states) && ltb k (a.places * b.places)) (row_below (a.states * b.states) ((product a b).row s k)) None ≡ (product a b).row s k
  product_rows s k =
      guard_idle (a.states * b.states) (a.places * b.places) s k ((product a b).row s k)
      (joined_closed a.states b.states (a.row (s / b.states) (k / b.places)) (b.row (s % b.states) (k % b.places)) (sa.closed _ _) (sb.closed _ _))
      (λ h. ap (λ x. joined b.states x (b.row (s % b.states) (k % b.places))) (sa.no_state_beyond (s / b.states) (k / b.places) (le-div a.states s b.states sb.some_state h)))
      (λ h. ap (λ x. joined b.states x (b.row (s % b.states) (k % b.places))) (sa.no_place_beyond (s / b.states) (k / b.places) (le-div a.places k b.places sb.some_place h)))

  pub sized_product : (n l r w d : ℕ) → n ≡ a.states * b.states → l ≡ a.places * b.places → r ≡ pair b.states a.root b.root → w ≡ b.states → d ≡ b.places → sized_by n l r w d a b ≡ product a b
  sized_product n l r w d es ep er ew ed =
      let F : ℕ → ℕ → ℕ → ℕ → ℕ → ℕ → Option Production = λ S P w d s k. cond (ltb s S && ltb k P) (row_below S (joined w (a.row (s / w) (k / d)) (b.row (s % w) (k % d)))) None in
      let rows : (sized_by n l r w d a b).row ≡ (product a b).row =
      fun_ext (λ s. fun_ext (λ k.
      ap (λ x. F x l w d s k) es
      ∙ ap (λ x. F (a.states * b.states) x w d s k) ep
      ∙ ap (λ x. F (a.states * b.states) (a.places * b.places) x d s k) ew
      ∙ ap (λ x. F (a.states * b.states) (a.places * b.places) b.states x s k) ed
      ∙ product_rows s k)) in
      λ i. record { states = es i; places = ep i; root = er i; row = rows i }

-- what a product that passes the check has
checked_parts : (x y : Bool) (n m : PileRefusal) → is_ok {T = Unit {0}} (cond x (cond y (Ok tt) (Err n)) (Err m)) ≡ true → (x ≡ true) × (y ≡ true)
checked_parts true true n m e = (refl, refl)
checked_parts true false n m e = absurd (true≢false (sym e))
checked_parts false y n m e = absurd (true≢false (sym e))

pub checked_states : (a b : Meaning) → is_ok (product_checked a b) ≡ true → a.states * b.states ≤ 1024
checked_states a b e = leb-true (a.states * b.states) 1024 (checked_parts (leb (a.states * b.states) 1024) (leb (a.places * b.places) 65536) ManyPlaces ManyStates e).0

pub checked_places : (a b : Meaning) → is_ok (product_checked a b) ≡ true → a.places * b.places ≤ 65536
checked_places a b e = leb-true (a.places * b.places) 65536 (checked_parts (leb (a.states * b.states) 1024) (leb (a.places * b.places) 65536) ManyPlaces ManyStates e).1
