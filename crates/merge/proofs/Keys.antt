-- States have equal keys where they have each row equally often.
use Rattle.std.proofs.Common.{◌≡◌, ℕ, suc, ◌+◌, ◌-◌, ◌<◌, true, false, ◌&&◌, ◌==◌, nat_eq, Decides, cond, List, [], ◌∷◌, map, length, replicate, sum_by, Ordering, Less, Equal, Greater, sym, refl, ap, ◌∙◌, ap₂, add_assoc, add_comm, add-one, arith}
use Rattle.std.specs.Ordering.{nat_cmp, is_lt, is_eq, ordering_then, ordering_reverse}
use Rattle.std.specs.Cmp.{IsTotalOrder}
use Rattle.std.specs.Cmp.Lexicographic.{pointwise}
use Rattle.std.proofs.lemmas.Bool.{and_parts, and_from, eqb-true, eq-eqb}
use Rattle.std.proofs.lemmas.Slice.Eq.{bytes_eq-Decides}
use Rattle.std.specs.FinMap.{IsAntisymmetric, nat_cmp-IsAntisymmetric, slice_cmp-IsAntisymmetric}
use Rattle.std.specs.List.Sorted.{IsSorted}
use Rattle.std.proofs.Math.Seq.{take-append_seam}
use Rattle.std.proofs.lemmas.Cmp.{tied_itself, alike_right, on_total, then_total, nat_cmp_total, nat_list_cmp_total}
use Rattle.std.proofs.lemmas.List.Sums.{sum_by-cons}
use Rattle.std.proofs.lemmas.List.Sorted.{sum_by-IsPermutation}
use Rattle.automata.specs.Automaton.{Production}
use Rattle.automata.specs.Rows.{renamed}
use Rattle.merge.specs.Merge.{same, tally, at}
use Rattle.merge.specs.declared.row_key.RowKey.{RowKey}
use Rattle.merge.specs.Refine.{Lowest, key_of, row_of, key_cmp, Keys, keys_at, LowestKeyed}
use Rattle.merge.proofs.Tally.{sums, same_sums}

-- ascending lists with equal counts are equal
module _ {K : Type 0} {R : K → K → Ordering} (o : IsTotalOrder R) (one : IsAntisymmetric R) where
  abbrev hit : K → K → ℕ
  hit k x = cond (is_eq (R k x)) 1 0

  rest : (x : K) (xs : List K) → IsSorted R (x ∷ xs) → IsSorted R xs
  rest x xs h k d low l = let e = h (suc k) d (omega arith) (omega arith) in rw add-one (rw add-one at e)

  present : (x : K) (xs : List K) → 0 < sum_by (hit x) (x ∷ xs)
  present x xs = rw (sum_by-cons (hit x) x xs, tied_itself o x) (omega arith)

  below : (x y z : K) → R x y ≡ Less → is_lt (R z y) ≡ false → R x z ≡ Less
  below x y z l h = go (R y z) refl
    where
      go : (r : Ordering) → R y z ≡ r → R x z ≡ Less
      go Less e = o.trans x y z l e
      go Equal e = sym (alike_right o y z x e) ∙ l
      go Greater e = let i : R z y ≡ Less = o.antisymm z y ∙ ap ordering_reverse e in cc

  none_below : (x y : K) (ys : List K) → IsSorted R (y ∷ ys) → R x y ≡ Less → sum_by (hit x) (y ∷ ys) ≡ 0
  none_below x y [] h l = rw (sum_by-cons (hit x) y [], l) refl
  none_below x y (z ∷ zs) h l =
      let ih = none_below x z zs (rest y (z ∷ zs) h) (below x y z l (h 0 y (omega arith) (omega arith))) in
      rw (sum_by-cons (hit x) y (z ∷ zs), l) (omega (arith, ih))

  sorted_same : (xs ys : List K) → IsSorted R xs → IsSorted R ys → ((k : K) → sum_by (hit k) xs ≡ sum_by (hit k) ys) → xs ≡ ys
  sorted_same [] [] h h' e = refl
  sorted_same [] (y ∷ ys) h h' e = absurd (omega (arith, e y, present y ys))
  sorted_same (x ∷ xs) [] h h' e = absurd (omega (arith, e x, present x xs))
  sorted_same (x ∷ xs) (y ∷ ys) h h' e = go (R x y) refl (sorted_same xs ys (rest x xs h) (rest y ys h'))
    where
      go : (r : Ordering) → R x y ≡ r → (((k : K) → sum_by (hit k) xs ≡ sum_by (hit k) ys) → xs ≡ ys) → x ∷ xs ≡ y ∷ ys
      go Less l ih = absurd (omega (arith, e x, present x xs, none_below x y ys h' l))
      go Greater l ih = absurd (omega (arith, e y, present y ys, none_below y x xs h (o.antisymm y x ∙ ap ordering_reverse l)))
      go Equal l ih = let i : x ≡ y = one x y l in ap₂ ◌∷◌ i (ih (λ k. omega (arith, e k, sum_by-cons (hit k) x xs, sum_by-cons (hit k) y ys, ap (hit k) i)))

-- keys are ordered, and alike only where they are one
key_total : IsTotalOrder key_cmp
key_total = then_total (on_total (λ k. k.form) nat_cmp_total) (then_total (on_total (λ k. k.points) nat_cmp_total) (then_total (on_total (λ k. k.arity) nat_cmp_total) (on_total (λ k. k.children) nat_list_cmp_total)))

both_equal : (r s : Ordering) → ordering_then r s ≡ Equal → (r ≡ Equal) × (s ≡ Equal)
both_equal Less s e = absurd (let z : ◌≡◌ {A = ℕ} 0 1 = cc in omega arith)
both_equal Equal s e = (refl, e)
both_equal Greater s e = absurd (let z : ◌≡◌ {A = ℕ} 0 1 = cc in omega arith)

key_same : IsAntisymmetric key_cmp
key_same x y e =
    let forms = both_equal (nat_cmp x.form y.form) _ e in
    let points = both_equal (nat_cmp x.points y.points) _ forms.1 in
    let arities = both_equal (nat_cmp x.arity y.arity) _ points.1 in
    let form = nat_cmp-IsAntisymmetric x.form y.form forms.0 in
    let point = nat_cmp-IsAntisymmetric x.points y.points points.0 in
    let arity = nat_cmp-IsAntisymmetric x.arity y.arity arities.0 in
    let child = slice_cmp-IsAntisymmetric nat_cmp-IsAntisymmetric x.children y.children arities.1 in
    λ i. record { form = form i; points = point i; arity = arity i; children = child i }

-- what `==` of keys says
pub key_decides : (x y : RowKey) → Decides (x.form == y.form && (x.points == y.points && (x.arity == y.arity && pointwise nat_eq x.children y.children))) (x ≡ y)
key_decides x y = (from, to)
  where
    from : (x.form == y.form && (x.points == y.points && (x.arity == y.arity && pointwise nat_eq x.children y.children))) ≡ true → x ≡ y
    from e =
        let f = and_parts (x.form == y.form) _ e in
        let p = and_parts (x.points == y.points) _ f.1 in
        let a = and_parts (x.arity == y.arity) _ p.1 in
        let form = eqb-true x.form y.form f.0 in
        let point = eqb-true x.points y.points p.0 in
        let arity = eqb-true x.arity y.arity a.0 in
        let child = (bytes_eq-Decides x.children y.children).0 a.1 in
        λ i. record { form = form i; points = point i; arity = arity i; children = child i }

    to : x ≡ y → (x.form == y.form && (x.points == y.points && (x.arity == y.arity && pointwise nat_eq x.children y.children))) ≡ true
    to e =
        and_from (x.form == y.form) _ (eq-eqb x.form y.form (ap (λ k. k.form) e))
        (and_from (x.points == y.points) _ (eq-eqb x.points y.points (ap (λ k. k.points) e))
        (and_from (x.arity == y.arity) _ (eq-eqb x.arity y.arity (ap (λ k. k.arity) e)) ((bytes_eq-Decides x.children y.children).1 (ap (λ k. k.children) e))))

-- the key of a row gives it back
pub row_key : (s : Production) → row_of (key_of s) ≡ s
row_key s =
    let e = take-append_seam s.children (replicate (4 - length s.children) 0) in
    λ i. record { form = s.form; points = s.points; children = e i }

sum_by_sums : (f : RowKey → ℕ) (xs : List Production) → sum_by f (map key_of xs) ≡ sums ◌+◌ 0 (λ x. f (key_of x)) xs
sum_by_sums f [] = refl
sum_by_sums f (x ∷ xs) = sum_by-cons f (key_of x) (map key_of xs) ∙ ap (λ n. f (key_of x) + n) (sum_by_sums f xs)

tally_keys : (s : Production) (xs : List Production) (ks : List RowKey) → Keys xs ks → tally s xs ≡ sum_by (λ k. cond (same s (row_of k)) 1 0) ks
tally_keys s xs ks h = each xs ∙ sym (sum_by-IsPermutation (λ k. cond (same s (row_of k)) 1 0) (map key_of xs) ks h.shuffled)
  where
    each : (xs : List Production) → tally s xs ≡ sum_by (λ k. cond (same s (row_of k)) 1 0) (map key_of xs)
    each [] = refl
    each (x ∷ xs) = ap₂ (λ y n. cond (same s y) 1 0 + n) (sym (row_key x)) (each xs) ∙ sym (sum_by-cons (λ k. cond (same s (row_of k)) 1 0) (key_of x) (map key_of xs))

pub tally_from_keys : (xs ys : List Production) (ks ls : List RowKey) → Keys xs ks → Keys ys ls → ks ≡ ls → (s : Production) → tally s xs ≡ tally s ys
tally_from_keys xs ys ks ls h h' e s = tally_keys s xs ks h ∙ ap (sum_by (λ k. cond (same s (row_of k)) 1 0)) e ∙ sym (tally_keys s ys ls h')

pub keys_from_tally : (xs ys : List Production) (ks ls : List RowKey) → Keys xs ks → Keys ys ls → ((s : Production) → tally s xs ≡ tally s ys) → ks ≡ ls
keys_from_tally xs ys ks ls h h' e =
    sorted_same key_total key_same ks ls h.rising h'.rising (λ k.
    let f : RowKey → ℕ = λ x. cond (is_eq (key_cmp k x)) 1 0 in
    sum_by-IsPermutation f (map key_of xs) ks h.shuffled ∙ sum_by_sums f xs
    ∙ same_sums ◌+◌ 0 add_assoc add_comm (λ x. f (key_of x)) xs ys e
    ∙ sym (sum_by_sums f ys) ∙ sym (sum_by-IsPermutation f (map key_of ys) ls h'.shuffled))

-- the lowest state by keys is the lowest by rows
pub lowest_from_keys : (n : ℕ) (R : ℕ → List Production) (gs : List ℕ) (ks : List _) → ((q : ℕ) → q < n → Keys (map (renamed (at gs)) (R q)) (keys_at ks q)) → (p r : ℕ) → p < n → LowestKeyed gs ks p r → Lowest R (at gs) p r
lowest_from_keys n R gs ks keyed p r l h = record {
  below = h.below;
  group = h.group;
  like = tally_from_keys _ _ _ _ (keyed r (omega (arith, h.below))) (keyed p l) h.like;
  least = λ c lc e like. h.least c lc e (keys_from_tally _ _ _ _ (keyed c (omega (arith, h.below))) (keyed p l) like);
}
