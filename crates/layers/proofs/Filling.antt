-- What a chain collects, where each step can fail.
use Rattle.std.proofs.Common.{◌≡◌, ℕ, ◌+◌, ◌<◌, ◌≤◌, List, [], ◌∷◌, ◌++◌, None, Option, Ok, Result, Vec, vec_items, vec_len, length, get_or, drop, sym, ap, ◌∙◌, subst, refl, arith}
use denote.Param.Members.{Mut}
use Rattle.std.specs.declared.iter.Map.{Map}
use Rattle.std.specs.Fn.{Called}
use Rattle.std.specs.Iterator.{AlwaysYields, TryCollects, Yields}
use Rattle.std.specs.Iterator.Adapters.{map_source, map_callee, map_steps}
use Rattle.std.specs.List.{FoldsTo}
use Rattle.std.specs.Vec.{vec_capacity}
use Rattle.std.proofs.lemmas.Iterator.{YieldsList}
use Rattle.std.proofs.lemmas.List.{drop_more, length-drop}
use Rattle.layers.proofs.RowChains.{ended, went, first_or, others}

abbrev extends : {Y Z : Type 0} → Vec Y Z → List Y → Vec Y Z → Type 0
extends w xs z = (vec_items z ≡ vec_items w ++ xs) × (vec_len z ≡ vec_len w + length xs) × (vec_capacity w ≤ vec_capacity z)

-- Q says what the first i of the steps have collected
module _ {S A B F Y E Z : Type 0} (steps : S → Option A → S → Type 0) (v : A → B) (g : Mut F (A × Unit {0}) (Result Y E)) (f : F) (all : List B) (Q : List Y → ℕ → Type 0)
    (k : (i : ℕ) (x : A) (y : Y) (q : F) (ys : List Y) → i < length all → v x ≡ get_or all i (v x) → Called g f (x, tt) (Ok y) q → Q ys i → (q ≡ f) × Q (ys ++ y ∷ []) (i + 1)) where
  more : (xs : List (Result Y E)) (left : List B) (i : ℕ) (s t u : Map S F) (b w : Vec Y Z) → AlwaysYields steps v (map_source s) left → left ≡ drop i all → map_callee s ≡ f → i ≤ length all → Yields (map_steps steps g) s xs t → map_steps steps g t None u
      → FoldsTo (λ p x q. (y : Y) × (Ok y ≡ x) × extends p (y ∷ []) q) b xs w → Q (vec_items b) i → Q (vec_items w) (length all)
  more [] left i s t u b w a e c l ys end c' h =
      let none : left ≡ [] = ended steps v left (map_source t) (map_source u) (subst (λ (z : Map S F). AlwaysYields steps v (map_source z) left) ys a) end.0 in
      let rest : length (drop i all) ≡ 0 = ap length (sym e ∙ none) in
      let same : i ≡ length all = omega (arith, rest, length-drop i all) in
      subst (λ z. Q (vec_items z) (length all)) c' (subst (Q (vec_items b)) same h)
  more (x ∷ xs) left i s t u b w a e c l ys end c' h =
      let j = ys.0 in
      let st = ys.1 in
      let n = went steps v left (map_source s) (map_source j) st.0 a st.1 in
      let rest : drop i all ≡ v st.0 ∷ n.0 = sym e ∙ n.1 in
      let lt : i < length all = omega (arith, ap length rest, length-drop i all) in
      let both : v st.0 ∷ n.0 ≡ get_or all i (v st.0) ∷ drop (i + 1) all = sym rest ∙ drop_more all i (v st.0) lt in
      let call : Called g f (st.0, tt) (Ok c'.1.0) (map_callee j) =
      subst (λ r. Called g f (st.0, tt) r (map_callee j)) (sym c'.1.1) (subst (λ p. Called g p (st.0, tt) x (map_callee j)) c st.2) in
      let r = k i st.0 c'.1.0 (map_callee j) (vec_items b) lt (ap (first_or (v st.0)) both) call h in
      more xs n.0 (i + 1) j t u c'.0 w n.2 (ap others both) r.0 (omega (arith, lt)) ys.2 end c'.2 (subst (λ z. Q z (i + 1)) (sym c'.1.2.0) r.1)

  pub filled : (s : Map S F) (w : Vec Y Z) → YieldsList steps v (map_source s) all → map_callee s ≡ f → Q [] 0 → TryCollects (map_steps steps g) (λ x r. r ≡ x) (λ xs z. (vec_items z ≡ xs) × (vec_len z ≡ length xs)) extends s w → Q (vec_items w) (length all)
  filled s w a c h run =
      let d = run.2 in
      more run.0 all 0 s d.1.0 d.0 run.1 w a.runs refl c (omega arith) d.1.1 d.1.2 run.4 (subst (λ z. Q z 0) (sym run.3.0) h)
