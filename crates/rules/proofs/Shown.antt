-- The rows of ladder and bar as the code makes them.
use Rattle.std.proofs.Common.{◌≡◌, ℕ, zero, suc, ◌+◌, ◌<◌, ◌≤◌, Bool, true, cond, ltb, List, [], ◌∷◌, map, length, get_or, take, Some, None, Option, sym, refl, ap, ◌∙◌, subst, ⊎_elim, arith}
use denote.Param.Members.{Mut}
use Rattle.std.specs.Fn.{Called}
use Rattle.std.specs.Array.{IsFromFnResult, IsFromFnResultFrom}
use Rattle.std.specs.List.{range_with_len}
use Rattle.std.proofs.lemmas.List.FromFn.{fill_by_all}
use Rattle.std.proofs.lemmas.Bool.{cases_eq, not_from_false, ne_eqb, lt-ltb, cond-true}
use Rattle.tickets.specs.declared.forms.Forms.{Forms}
use Rattle.automata.specs.Automaton.{Production}
use Rattle.tickets.specs.Checked.{arities_of}
use Rattle.tickets.proofs.FormList.{forms_low}
use Rattle.rules.specs.Ruled.{aims, ruled}
use Rattle.rules.specs.Bar.{bar_has}
use Rattle.rules.proofs.Allowed.{row_is}

-- the elements that a closure made, each from its index, where a call of it leaves it as it was
module _ {F : Type 0} (g : Mut F (ℕ × Unit {0}) ℕ) (f : F) (to : ℕ → ℕ) (calls : (i y : ℕ) (q : F) → Called g f (i, tt) y q → (q ≡ f) × (y ≡ to i)) where
  made_from : (n i : ℕ) (p : F) (ys : List ℕ) → p ≡ f → IsFromFnResultFrom g p ys i n → (k : ℕ) → i ≤ k → k < i + n → get_or ys k 0 ≡ to k
  made_from zero i p ys e h k l m = absurd (omega arith)
  made_from (suc n) i p ys e h k l m =
      let x = calls i h.1 h.0 (subst (λ (p : F). Called g p (i, tt) h.1 h.0) e h.3) in
      ⊎_elim (λ (e : k ≡ i). ap (λ j. get_or ys j 0) e ∙ h.2.1 0 ∙ x.1 ∙ ap to (sym e)) (λ ne. made_from n (i + 1) h.0 ys x.0 h.4 k (omega arith) (omega arith)) (cases_eq k i)

  pub made : (n : ℕ) (ys : List ℕ) → IsFromFnResult g f ys n → ys ≡ map to (range_with_len 0 n)
  made n ys h = fill_by_all to ys n 0 h.long (λ k l. made_from n 0 f ys refl h.each k (omega arith) (omega arith))

-- four children cut to the arity
four : (to : ℕ → ℕ) (k : ℕ) → k ≤ 4 → take k (to 0 ∷ to 1 ∷ to 2 ∷ to 3 ∷ []) ≡ aims to 0 k
four to zero h = refl
four to (suc zero) h = refl
four to (suc (suc zero)) h = refl
four to (suc (suc (suc zero))) h = refl
four to (suc (suc (suc (suc zero)))) h = refl
four to (suc (suc (suc (suc (suc k))))) h = absurd (omega arith)

pub row_shown : (f : Forms) (n : ℕ) (has : ℕ → ℕ → Bool) (to : ℕ → ℕ → ℕ) (s k arity : ℕ) (cs : List ℕ) → arity ≡ get_or (arities_of f) k 0 → cs ≡ to k 0 ∷ to k 1 ∷ to k 2 ∷ to k 3 ∷ [] → s < n → k < length (arities_of f) → has s k ≡ true
    → ◌≡◌ {A = Option Production} (Some (record { form = k; points = 0; children = take arity cs })) ((ruled (arities_of f) n has to).row s k)
row_shown f n has to s k arity cs ea ec hs hk h =
    let a = arities_of f in
    ap (λ x. Some (record { form = k; points = 0; children = take x cs })) ea ∙ ap (λ (x : List ℕ). Some (record { form = k; points = 0; children = take (get_or a k 0) x })) ec
    ∙ ap (λ (x : List ℕ). Some (record { form = k; points = 0; children = x })) (four (to k) (get_or a k 0) (forms_low f k)) ∙ sym (row_is a n has to s k hs hk h)

pub bar_state_has : (inner s f : ℕ) → s < 2 → (s ≡ 1 → f ≡ inner → ⊥) → bar_has inner s f ≡ true
bar_state_has inner zero f l h = refl
bar_state_has inner (suc zero) f l h = not_from_false _ (ne_eqb f inner (h refl))
bar_state_has inner (suc (suc s)) f l h = absurd (omega arith)

-- the arity that a form list answers
pub arity_is : (f : Forms) (k arity : ℕ) (r : Option ℕ) → r ≡ cond (ltb k (length (arities_of f))) (Some (get_or (arities_of f) k 0)) None → r ≡ Some arity → k < length (arities_of f) → arity ≡ get_or (arities_of f) k 0
arity_is f k arity r e was l =
    let some : ◌≡◌ {A = Option ℕ} (cond (ltb k (length (arities_of f))) (Some (get_or (arities_of f) k 0)) None) (Some (get_or (arities_of f) k 0)) = cond-true _ _ _ (lt-ltb k (length (arities_of f)) l) in
    let same : ◌≡◌ {A = Option ℕ} (Some arity) (Some (get_or (arities_of f) k 0)) = sym was ∙ e ∙ some in
    cc
