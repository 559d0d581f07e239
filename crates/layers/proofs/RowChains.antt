-- A chain that goes over the places of a state, and takes the row at each, gives the rows of the state.
use Rattle.std.proofs.Common.{◌≡◌, ℕ, zero, suc, ◌+◌, ◌≢◌, true, false, List, length, [], ◌∷◌, ◌++◌, Some, None, Option, sym, refl, ap, ◌∙◌, subst, ap₂, add-one, arith}
use mathlib.Core.List.{map-id}
use denote.Param.Members.{Mut}
use Rattle.std.specs.declared.iter.FilterMap.{FilterMap}
use Rattle.std.specs.declared.ops.Range.{Range}
use Rattle.std.specs.Fn.{Called}
use Rattle.std.specs.Iterator.{AlwaysYields, Yields}
use Rattle.std.specs.Iterator.Adapters.{filter_map_source, filter_map_callee, filter_map_steps}
use Rattle.std.specs.List.{FoldsTo, cons_option, filter_map, range_with_len}
use Rattle.std.specs.Option.{MatchOption, is_some, option_map, option_to_list}
use Rattle.std.proofs.iter.Yields.{nat_range_steps}
use Rattle.std.proofs.lemmas.Bool.{true≢false}
use Rattle.std.proofs.lemmas.Iterator.{YieldsList, YieldsList-from_range}
use Rattle.std.proofs.lemmas.List.Elements.{filter_map-append}
use Rattle.std.proofs.lemmas.List.FromFn.{map-range_with_len_more}
use Rattle.automata.specs.declared.row.Row.{Row}
use Rattle.automata.specs.Automaton.{Meaning, Production, production, shown}
use Rattle.automata.specs.Rows.{rows_below, rows_of}

abbrev pub first_or : {X : Type 0} → X → List X → X
first_or d [] = d
first_or d (y ∷ ys) = y

abbrev pub others : {X : Type 0} → List X → List X
others [] = []
others (y ∷ ys) = ys

some_item : {X : Type 0} (y : X) (ys : List X) → y ∷ ys ≢ []
some_item y ys e = omega (arith, ap length e)

-- one call of `next`
module _ {S A B : Type 0} (steps : S → Option A → S → Type 0) (v : A → B) where
  pub ended : (more : List B) (t u : S) → AlwaysYields steps v t more → steps t None u → more ≡ []
  ended [] t u e p = refl
  ended (y ∷ ys) t u e p = absurd (e.0 u p)

  pub went : (more : List B) (t u : S) (x : A) → AlwaysYields steps v t more → steps t (Some x) u → (ys : List B) × (more ≡ v x ∷ ys) × AlwaysYields steps v u ys
  went [] t u x e p = absurd (e x u p)
  went (y ∷ ys) t u x e p = (ys, ap (λ z. z ∷ ys) (sym (e.1 x u p).0), (e.1 x u p).1)

-- `filter_map`, where w reads what the closure gives
module _ {S A B C D F : Type 0} (steps : S → Option A → S → Type 0) (v : A → B) (g : Mut F (A × Unit {0}) (Option C)) (w : C → D) (h : B → Option D) (f : F)
    (k : (x : A) (r : Option C) (q : F) → Called g f (x, tt) r q → (q ≡ f) × (option_map w r ≡ h (v x))) where
  passed : (xs : List A) (ys : List B) (s t : S) (p q : F) → p ≡ f → AlwaysYields steps v s ys → Yields steps s xs t → FoldsTo (λ p x q. Called g p (x, tt) None q) p xs q
      → (more : List B) × (q ≡ f) × (filter_map h ys ≡ filter_map h more) × AlwaysYields steps v t more
  passed [] ys s t p q a e y c = (ys, sym c ∙ a, refl, subst (λ j. AlwaysYields steps v j ys) y e)
  passed (x ∷ xs) [] s t p q a e y c = absurd (e x y.0 y.1)
  passed (x ∷ xs) (z ∷ ys) s t p q a e y c =
      let n = e.1 x y.0 y.1 in
      let d = k x None c.0 (subst (λ u. Called g u (x, tt) None c.0) a c.1) in
      let m = passed xs ys y.0 t c.0 q d.0 n.1 y.2 c.2 in
      (m.0, m.1, ap (λ b. filter_map h (b ∷ ys)) (sym n.0) ∙ ap (λ o. cons_option o (filter_map h ys)) (sym d.1) ∙ m.2, m.3)

  came : (more : List B) (t u : S) (p q : F) (y : C) (o : Option A) → p ≡ f → AlwaysYields steps v t more → steps t o u → MatchOption o ((Some y ≡ None) × (q ≡ p)) (λ x. Called g p (x, tt) (Some y) q × (true ≡ true))
      → (zs : List B) × (q ≡ f) × (filter_map h more ≡ w y ∷ filter_map h zs) × AlwaysYields steps v u zs
  came more t u p q y None a e s c = absurd (true≢false (ap is_some c.0))
  came more t u p q y (Some x) a e s c =
      let n = went steps v more t u x e s in
      let m = k x (Some y) q (subst (λ z. Called g z (x, tt) (Some y) q) a c.0) in
      (n.0, m.0, ap (filter_map h) n.1 ∙ ap (λ o. cons_option o (filter_map h n.0)) (sym m.1), n.2)

  stopped : (more : List B) (t u : S) (P : Type 0) (Q : A → Type 0) (o : Option A) → AlwaysYields steps v t more → steps t o u → MatchOption o P (λ x. Q x × (false ≡ true)) → more ≡ []
  stopped more t u P Q None e p c = ended steps v more t u e p
  stopped more t u P Q (Some x) e p c = absurd (true≢false (sym c.1))

  next_item : (ys : List B) (s j : FilterMap S F) (y : C) → filter_map_callee s ≡ f → AlwaysYields steps v (filter_map_source s) ys → filter_map_steps steps g s (Some y) j
      → (zs : List B) × (filter_map_callee j ≡ f) × (filter_map h ys ≡ w y ∷ filter_map h zs) × AlwaysYields steps v (filter_map_source j) zs
  next_item ys s j y a e p =
      let m = passed p.0 ys (filter_map_source s) p.3.0 (filter_map_callee s) p.2 a e p.3.1 p.4 in
      let n = came m.0 p.3.0 (filter_map_source j) p.2 (filter_map_callee j) y p.1 m.1 m.3 p.3.2 p.5 in
      (n.0, n.1, m.2 ∙ n.2, n.3)

  yields : (zs : List D) (ys : List B) (s : FilterMap S F) → filter_map_callee s ≡ f → filter_map h ys ≡ zs → AlwaysYields steps v (filter_map_source s) ys → AlwaysYields (filter_map_steps steps g) w s zs
  yields [] ys s a d e = λ y j p. let o = next_item ys s j y a e p in some_item (w y) _ (sym o.2 ∙ d)
  yields (z ∷ zs) ys s a d e = (
    λ j p.
        let m = passed p.0 ys (filter_map_source s) p.3.0 (filter_map_callee s) p.2 a e p.3.1 p.4 in
        some_item z zs (sym d ∙ m.2 ∙ ap (filter_map h) (stopped m.0 p.3.0 (filter_map_source j) _ _ p.1 m.3 p.3.2 p.5)),
    λ y j p. let o = next_item ys s j y a e p in (ap (first_or z) (sym o.2 ∙ d), yields zs o.0 j o.1 (ap others (sym o.2 ∙ d)) o.3),
  )

module _ (m : Meaning) (q : ℕ) where
  upto_more : (n : ℕ) → range_with_len 0 (n + 1) ≡ range_with_len 0 n ++ n ∷ []
  upto_more n = sym (map-id (range_with_len 0 (n + 1))) ∙ map-range_with_len_more (λ x. x) 0 n n (omega arith) ∙ ap (λ xs. xs ++ n ∷ []) (map-id (range_with_len 0 n))

  one_or_none : (x : Option Production) → cons_option x [] ≡ option_to_list x
  one_or_none None = refl
  one_or_none (Some p) = refl

  rows_at_places : (n : ℕ) → filter_map (m.row q) (range_with_len 0 n) ≡ rows_below m q n
  rows_at_places zero = refl
  rows_at_places (suc n) =
      ap (λ k. filter_map (m.row q) (range_with_len 0 k)) (sym (add-one n)) ∙ ap (filter_map (m.row q)) (upto_more n)
      ∙ filter_map-append (m.row q) (range_with_len 0 n) (n ∷ [])
      ∙ ap₂ (λ xs ys. xs ++ ys) (rows_at_places n) (one_or_none (m.row q n))

  as_shown : (x : Option Row) → option_map production x ≡ shown x
  as_shown None = refl
  as_shown (Some r) = refl

  pub rows_yielded : {F : Type 0} {s : FilterMap (Range ℕ) F} (g : Mut F (ℕ × Unit {0}) (Option Row)) {f : F} (n : ℕ) → filter_map_source s ≡ record { start = 0; end = n } → n ≡ m.places → filter_map_callee s ≡ f
      → ((k : ℕ) (r : Option Row) (p : F) → Called g f (k, tt) r p → (p ≡ f) × (shown r ≡ m.row q k)) → YieldsList (filter_map_steps nat_range_steps g) production s (rows_of m q)
  rows_yielded {F} {s} g {f} n is places a k =
      record {
        runs = yields nat_range_steps (λ x. x) g production (m.row q) f (λ x r p c. let t = k x r p c in (t.0, as_shown r ∙ t.1)) (rows_of m q) (range_with_len 0 n) s a (rows_at_places n ∙ ap (rows_below m q) places)
            (YieldsList-from_range 0 n n is (omega arith)).runs;
      }
