-- Two rows as one, child by child.
use Rattle.std.proofs.Common.{◌≡◌, ℕ, ◌+◌, ◌*◌, ◌<◌, ◌≤◌, min, true, false, cond, eqb, List, ◌++◌, [], ◌∷◌, length, get_or, take, set, Some, None, zero-add, sym, refl, ap, ◌∙◌, ap₂, arith}
use Rattle.std.specs.List.{zip, enumerate_from}
use Rattle.std.proofs.lemmas.List.{length_push, get_or_default}
use Rattle.std.proofs.lemmas.List.FromFn.{length-enumerate_from, get_or-enumerate_from}
use Rattle.std.proofs.lemmas.Slice.Zip.{length-zip, get_or-zip}
use Rattle.std.proofs.lemmas.Bool.{and_parts, eqb-true}
use Rattle.automata.specs.declared.row.Row.{Row}
use Rattle.automata.specs.Automaton.{production, all_below}
use Rattle.product.specs.Product.{pair, pairs, alike, joint, row_below}
use Rattle.product.proofs.Pairs.{Paired, paired_all, paired_more, pair_past}

-- the pair at a place, as two lists side by side with their places give it
pub record At (xs ys : List ℕ) (n i a b : ℕ) : Type 0 where
  pub first : n < length xs
  pub second : n < length ys
  pub place : i ≡ n
  pub left : a ≡ get_or xs n 0
  pub right : b ≡ get_or ys n 0

pub at_place : (xs ys : List ℕ) (n i a b : ℕ) → n < length (enumerate_from 0 (zip xs ys)) → (i, (a, b)) ≡ get_or (enumerate_from 0 (zip xs ys)) n (i, (a, b)) → At xs ys n i a b
at_place xs ys n i a b l e =
    let lz : n < length (zip xs ys) = omega (arith, length-enumerate_from 0 (zip xs ys)) in
    let lx : n < length xs = omega (arith, length-zip xs ys) in
    let ly : n < length ys = omega (arith, length-zip xs ys) in
    let r : (i, (a, b)) ≡ (0 + n, (get_or xs n a, get_or ys n b)) = e ∙ get_or-enumerate_from 0 (zip xs ys) n (i, (a, b)) lz ∙ ap (λ z. (0 + n, z)) (get_or-zip xs ys n (a, b) lx ly) in
    record {
      first = lx;
      second = ly;
      place = ap (λ z. z.0) r ∙ zero-add n;
      left = ap (λ z. z.1.0) r ∙ get_or_default xs n a 0 lx;
      right = ap (λ z. z.1.1) r ∙ get_or_default ys n b 0 ly;
    }

module _ (n S : ℕ) (p q : Row) (same : alike (production p) (production q) ≡ true) where
  even : length (production p).children ≡ length (production q).children
  even = eqb-true (length (production p).children) (length (production q).children) (and_parts (eqb p.form q.form) _ same).1

  pub joint_none : (k i a b : ℕ) → At (production p).children (production q).children k i a b → S ≤ a * n + b → None ≡ row_below S (Some (joint n (production p) (production q)))
  joint_none k i a b h l =
      let e : a * n + b ≡ pair n (get_or (production p).children k 0) (get_or (production q).children k 0) = ap₂ (λ x y. x * n + y) h.left h.right in
      let out : all_below S (pairs n (production p).children (production q).children) ≡ false = pair_past n S k (production p).children (production q).children h.first h.second (omega arith) in
      sym (ap (λ b. cond b (Some (joint n (production p) (production q))) None) out)

  pub joint_more : {X : Type 0} (cs : List ℕ) (done : List X) (x : X) (i a b : ℕ) → At (production p).children (production q).children (length done) i a b → length (production p).children ≤ length cs → a * n + b < S → Paired n S (production p).children (production q).children cs (length done)
      → Paired n S (production p).children (production q).children (set cs i (a * n + b)) (length (done ++ x ∷ []))
  joint_more cs done x i a b h lc lt so =
      let P : ℕ → ℕ → Type 0 = λ j m. Paired n S (production p).children (production q).children (set cs j (a * n + b)) m in
      rw (length_push done x, h.place) (paired_more n S (production p).children (production q).children cs (length done) (a * n + b) (omega (arith, h.first)) (ap₂ (λ x y. x * n + y) h.left h.right) lt so)

  pub joint_some : (cs : List ℕ) (i v w : ℕ) → length (production p).children ≤ length cs → i ≡ min (length (production p).children) (length (production q).children) → v ≡ min (p.points + q.points) 65535 → w ≡ length (production p).children → Paired n S (production p).children (production q).children cs i
      → Some (record { form = p.form; points = v; children = take w cs }) ≡ row_below S (Some (joint n (production p) (production q)))
  joint_some cs i v w lc li ev ew h =
      let all = paired_all n S (length (production p).children) (production p).children (production q).children cs refl (sym even) lc (λ j l. h j (omega (arith, even))) in
      ap₂ (λ x ys. Some (record { form = p.form; points = x; children = ys })) ev (ap (λ k. take k cs) ew ∙ all.0)
      ∙ sym (ap (λ b. cond b (Some (joint n (production p) (production q))) None) all.1)
