-- Lemmas and no definitions: the book over a good sealed ledger is sound.
use Rattle.std.specs.Prelude.{◌≡◌, ℕ, zero, suc, ◌<◌, ◌≤◌, Bool, true, ◌&&◌, List, [], ◌∷◌, length, is_some, Some, None, Option, ◌==◌, nat_le, nat_lt, slice_index, slice_index_or, refl}
use Rattle.std.proofs.Common.{sym, ap, subst, ◌∙◌, arith}
use Rattle.std.proofs.Math.Bool.{Bool-set}
use Rattle.std.proofs.Math.Logic.{∥∥₁_elim}
use mathlib.Core.HLevel.{Π_prop}
use Rattle.std.proofs.Math.Bridge.{le_prop}
use Rattle.std.proofs.lemmas.Bool.{true≢false, leb-true, ltb-true, eqb-true, and_parts}
use Rattle.automata.specs.Automaton.{Production, Sound, Closed, Small, all_below}
use Rattle.ledger.specs.Ledger.{Ledger, every, rows_at, has_form, nth, or_zero, book}
use Rattle.ledger.specs.Layout.{fits, fair, rooted, Good}

pub good_prop : (l : Ledger) → IsProp (Good l)
good_prop l x y = λ i. record {
  arities = Bool-set _ _ x.arities y.arities i;
  rows = Bool-set _ _ x.rows y.rows i;
  few = le_prop x.few y.few i;
  root = Bool-set _ _ x.root y.root i;
  ready = Π_prop (λ e. Bool-set _ _) x.ready y.ready i;
}

pub good_from : (l : Ledger) → ∥ Good l ∥₁ → Good l
good_from l g = ∥∥₁_elim g (good_prop l) (λ x. x)

every_get_d : {X : Type 0} (f : X → Bool) (xs : List X) (i : ℕ) (d : X) → every f xs ≡ true → f d ≡ true → f (slice_index_or xs i d) ≡ true
every_get_d f [] i d h k = k
every_get_d f (x ∷ xs) zero d h k = (and_parts (f x) (every f xs) h).0
every_get_d f (x ∷ xs) (suc i) d h k = every_get_d f xs i d (and_parts (f x) (every f xs) h).1 k

every_nth : {X : Type 0} (f : X → Bool) (xs : List X) (k : ℕ) → every f xs ≡ true → (x : X) → nth xs k ≡ Some x → f x ≡ true
every_nth f [] k h x e = absurd (let z : ◌≡◌ {A = ℕ} 0 1 = cc in omega arith)
every_nth f (y ∷ xs) zero h x e = let same : y ≡ x = cc in subst (λ z. f z ≡ true) same (and_parts (f y) (every f xs) h).0
every_nth f (y ∷ xs) (suc k) h x e = every_nth f xs k (and_parts (f y) (every f xs) h).1 x e

pub nth_beyond : {X : Type 0} (xs : List X) (k : ℕ) → length xs ≤ k → nth xs k ≡ None
nth_beyond [] k h = refl
nth_beyond (x ∷ xs) zero h = absurd (omega arith)
nth_beyond (x ∷ xs) (suc k) h = nth_beyond xs k (omega arith)

pub get_d_beyond : {X : Type 0} (xs : List X) (s : ℕ) (d : X) → length xs ≤ s → slice_index_or xs s d ≡ d
get_d_beyond [] s d h = refl
get_d_beyond (x ∷ xs) zero d h = absurd (omega arith)
get_d_beyond (x ∷ xs) (suc s) d h = get_d_beyond xs s d (omega arith)

module _ (l : Ledger) (g : Good l) where
  pub fair_at : (s : ℕ) → fair l.arities (length l.rows) (rows_at l s) ≡ true
  fair_at s = every_get_d (fair l.arities (length l.rows)) l.rows s [] g.rows refl

  pub short_at : (s : ℕ) → length (rows_at l s) ≤ 32
  short_at s = leb-true (length (rows_at l s)) 32 (and_parts (nat_le (length (rows_at l s)) 32) (every (fits l.arities (length l.rows)) (rows_at l s)) (fair_at s)).0

  row_fits : (s k : ℕ) (p : Production) → nth (rows_at l s) k ≡ Some p → fits l.arities (length l.rows) p ≡ true
  row_fits s k p e = every_nth (fits l.arities (length l.rows)) (rows_at l s) k (and_parts (nat_le (length (rows_at l s)) 32) (every (fits l.arities (length l.rows)) (rows_at l s)) (fair_at s)).1 p e

  row_arity : (s k : ℕ) (p : Production) → nth (rows_at l s) k ≡ Some p → length p.children ≡ slice_index l.arities p.form
  row_arity s k p e =
      eqb-true (length p.children) (slice_index l.arities p.form)
      (and_parts (nat_lt p.form (length l.arities)) (length p.children == slice_index l.arities p.form) (and_parts (has_form l.arities p) (nat_le p.points 1000 && all_below (length l.rows) p.children) (row_fits s k p e)).0).1

  row_rest : (s k : ℕ) (p : Production) → nth (rows_at l s) k ≡ Some p → (nat_le p.points 1000 ≡ true) × (all_below (length l.rows) p.children ≡ true)
  row_rest s k p e = and_parts (nat_le p.points 1000) (all_below (length l.rows) p.children) (and_parts (has_form l.arities p) (nat_le p.points 1000 && all_below (length l.rows) p.children) (row_fits s k p e)).1

  root_below : (r : Option ℕ) → is_some r ≡ true → rooted (length l.rows) r ≡ true → or_zero r < length l.rows
  root_below None h e = absurd (true≢false (sym h))
  root_below (Some s) h e = ltb-true s (length l.rows) e

  pub good_sound : l.sealed ≡ true → Sound (book l)
  good_sound sealed =
      let r : or_zero l.root < length l.rows = root_below l.root (g.ready sealed) g.root in
      record {
        some_state = omega arith;
        few_states = omega (arith, g.few);
        some_place = omega arith;
        few_places = omega arith;
        rooted = r;
        closed = λ s k. closed_at s k (nth (rows_at l s) k) refl;
        few_points = λ s k. small_at s k (nth (rows_at l s) k) refl;
        one_arity = λ s k s' k' p p' e e' f. row_arity s k p e ∙ ap (λ x. slice_index l.arities x) f ∙ sym (row_arity s' k' p' e');
        no_state_beyond = λ s k h. ap (λ ps. nth ps k) (get_d_beyond l.rows s [] h);
        no_place_beyond = λ s k h. nth_beyond (rows_at l s) k (omega (arith, short_at s));
      }
    where
      closed_at : (s k : ℕ) (x : Option Production) → nth (rows_at l s) k ≡ x → Closed (length l.rows) x
      closed_at s k None e = tt
      closed_at s k (Some p) e = (row_rest s k p e).1

      small_at : (s k : ℕ) (x : Option Production) → nth (rows_at l s) k ≡ x → Small x
      small_at s k None e = tt
      small_at s k (Some p) e = omega (arith, leb-true p.points 1000 (row_rest s k p e).0)
