-- Lemmas and no definitions: the product is sound at every value of its type.
use Rattle.std.specs.Prelude.{◌≡◌, ℕ, ◌/◌, ◌%◌, Bool, true, false, cond, ◌&&◌, ltb, List, [], ◌∷◌, length, Some, None, Option, ◌==◌, nat_lt, refl}
use Rattle.std.proofs.Common.{sym, ap, ◌∙◌, arith}
use Rattle.std.proofs.lemmas.Bool.{and_parts, eqb-true, le-ltb}
use Rattle.automata.specs.Automaton.{Meaning, Production, Sound, Closed, Small, all_below}
use Rattle.layers.specs.Soundness.{cond_row, cond_from}
use Rattle.product.specs.declared.sizes.Sizes.{Sizes}
use Rattle.product.specs.Product.{pairs, alike, joint, joined, row_below, sized}

length_pairs : (n : ℕ) (xs ys : List ℕ) → length xs ≡ length ys → length (pairs n xs ys) ≡ length xs
length_pairs n [] ys e = refl
length_pairs n (x ∷ xs) [] e = absurd (omega arith)
length_pairs n (x ∷ xs) (y ∷ ys) e = omega (arith, length_pairs n xs ys (omega arith))

row_below_closed : (n : ℕ) (x : Option Production) → Closed n (row_below n x)
row_below_closed n None = tt
row_below_closed n (Some p) = go (all_below n p.children) refl
  where
    go : (b : Bool) → all_below n p.children ≡ b → Closed n (cond b (Some p) None)
    go true e = e
    go false e = tt

row_below_small : (n : ℕ) (x : Option Production) → Small x → Small (row_below n x)
row_below_small n None h = tt
row_below_small n (Some p) h = cond_row Small (all_below n p.children) (Some p) tt h

joined_small : (n : ℕ) (x y : Option Production) → Small (joined n x y)
joined_small n None y = tt
joined_small n (Some p) None = tt
joined_small n (Some p) (Some q) = cond_row Small (alike p q) (Some (joint n p q)) tt (omega arith)

row_below_from : (n : ℕ) (x : Option Production) (r : Production) → row_below n x ≡ Some r → x ≡ Some r
row_below_from n None r e = e
row_below_from n (Some p) r e = go (all_below n p.children) e
  where
    go : (b : Bool) → cond b (Some p) None ≡ Some r → Some p ≡ Some r
    go true e' = e'
    go false e' = cc

joined_like : (n : ℕ) (x y : Option Production) (r : Production) → joined n x y ≡ Some r → (q : Production) × (x ≡ Some q) × (q.form ≡ r.form) × (length q.children ≡ length r.children)
joined_like n None y r e = absurd (let z : ◌≡◌ {A = ℕ} 0 1 = cc in omega arith)
joined_like n (Some p) None r e = absurd (let z : ◌≡◌ {A = ℕ} 0 1 = cc in omega arith)
joined_like n (Some p) (Some q) r e = go (alike p q) refl e
  where
    go : (b : Bool) → alike p q ≡ b → cond b (Some (joint n p q)) None ≡ Some r → (o : Production) × (Some p ≡ Some o) × (o.form ≡ r.form) × (length o.children ≡ length r.children)
    go true t e' =
        let same : joint n p q ≡ r = cc in
        let sizes = eqb-true (length p.children) (length q.children) (and_parts (p.form == q.form) _ t).1 in
        (p, refl, ap (λ z. z.form) same, sym (length_pairs n p.children q.children sizes) ∙ ap (λ z. length z.children) same)
    go false t e' = absurd (let z : ◌≡◌ {A = ℕ} 0 1 = cc in omega arith)

and_false : (x y : Bool) → y ≡ false → (x && y) ≡ false
and_false true y e = e
and_false false y e = refl

pub sized_sound : (z : Sizes) (a b : Meaning) → Sound a → Sound (sized z a b)
sized_sound z a b sa =
    let in-range : ℕ → ℕ → Bool = λ s k. nat_lt s z.states && ltb k z.places in
    let both : ℕ → ℕ → Option Production = λ s k. joined z.width (a.row (s / z.width) (k / z.depth)) (b.row (s % z.width) (k % z.depth)) in
    let like : (s k : ℕ) (p : Production) → (sized z a b).row s k ≡ Some p → (q : Production) × (a.row (s / z.width) (k / z.depth) ≡ Some q) × (q.form ≡ p.form) × (length q.children ≡ length p.children) =
    λ s k p e. joined_like z.width _ (b.row (s % z.width) (k % z.depth)) p (row_below_from z.states (both s k) p (cond_from (in-range s k) (row_below z.states (both s k)) p e)) in
    record {
      some_state = omega (arith, z.rooted);
      few_states = z.few_states;
      some_place = z.some_place;
      few_places = z.few_places;
      rooted = z.rooted;
      closed = λ s k. cond_row (Closed z.states) (in-range s k) (row_below z.states (both s k)) tt (row_below_closed z.states (both s k));
      few_points = λ s k. cond_row Small (in-range s k) (row_below z.states (both s k)) tt (row_below_small z.states (both s k) (joined_small z.width (a.row (s / z.width) (k / z.depth)) (b.row (s % z.width) (k % z.depth))));
      one_arity = λ s k s' k' p p' e e' same.
          let l = like s k p e in
          let r = like s' k' p' e' in
          sym l.3 ∙ sa.one_arity (s / z.width) (k / z.depth) (s' / z.width) (k' / z.depth) l.0 r.0 l.1 r.1 (l.2 ∙ same ∙ sym r.2) ∙ r.3;
      no_state_beyond = λ s k h. ap (λ x. cond (x && nat_lt k z.places) (row_below z.states (both s k)) None) (le-ltb s z.states h);
      no_place_beyond = λ s k h. ap (λ x. cond x (row_below z.states (both s k)) None) (and_false (nat_lt s z.states) (nat_lt k z.places) (le-ltb k z.places h));
    }
