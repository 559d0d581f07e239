-- What an answer that is no refusal says of its checks.
use Rattle.std.proofs.Common.{◌≡◌, ℕ, ◌<◌, ◌≤◌, Bool, true, false, cond, ◌&&◌, eqb, ltb, leb, List, length, get_or, take, is_ok, Some, None, Ok, Err, Result, sym, refl, ◌∙◌, ⊎_elim, arith}
use Rattle.std.specs.List.{slice_get}
use Rattle.std.proofs.lemmas.List.{get_or-take, length-take}
use Rattle.std.proofs.lemmas.Option.{slice_get_within, slice_get-get_or, get_or_from_slice_get}
use Rattle.std.proofs.lemmas.Bool.{cases_lt, true≢false, leb-false, ltb-false, lt-ltb, le-leb, eqb-true, and_from}
use Rattle.automata.specs.Automaton.{Production, all_below}
use Rattle.refusals.specs.declared.refusal.RegisterRefusal.{RegisterRefusal}
use Rattle.refusals.specs.declared.refusal.RegisterRefusal.TheVariants.{NoState, NoForm, HighPoints, ChildCount, NoChild, FullState}
use Rattle.ledger.specs.Ledger.{has_form, row_answer}
use Rattle.ledger.specs.Layout.{fits}

pub err_then : {X E : Type 0} (b : Bool) (n : X) (r : Result X E) (e : E) → Ok n ≡ cond b (Err e) r → (b ≡ false) × (Ok n ≡ r)
err_then true n r e h = absurd (let z : ◌≡◌ {A = ℕ} 0 1 = cc in omega arith)
err_then false n r e h = (refl, h)

pub err_else : {X E : Type 0} (b : Bool) (n : X) (r : Result X E) (e : E) → Ok n ≡ cond b r (Err e) → (b ≡ true) × (Ok n ≡ r)
err_else true n r e h = (refl, h)
err_else false n r e h = absurd (let z : ◌≡◌ {A = ℕ} 0 1 = cc in omega arith)

pub ok_then : {X E : Type 0} (b : Bool) (r : Result X E) (e : E) → is_ok (cond b r (Err e)) ≡ true → (b ≡ true) × (is_ok r ≡ true)
ok_then true r e h = (refl, h)
ok_then false r e h = absurd (true≢false (sym h))

pub ok_value : {X E : Type 0} (r : Result X E) → is_ok r ≡ true → (n : X) × (Ok n ≡ r)
ok_value (Ok n) h = (n, refl)
ok_value (Err e) h = absurd (true≢false (sym h))

ok_is : (n k : ℕ) → ◌≡◌ {A = Result ℕ RegisterRefusal} (Ok n) (Ok k) → n ≡ k
ok_is n k e = cc

-- what stands among the first n numbers, and what does not
pub found : (n : ℕ) (xs : List ℕ) (i x : ℕ) → slice_get (take n xs) i ≡ Some x → (i < n) × (get_or xs i 0 ≡ x)
found n xs i x e =
    let l = slice_get_within (take n xs) i x e in
    let m : i < n = omega (arith, length-take n xs) in
    (m, sym (get_or-take n xs i 0 m) ∙ get_or_from_slice_get (take n xs) i x 0 e)

pub missing : (n : ℕ) (xs : List ℕ) (i : ℕ) → n ≤ length xs → slice_get (take n xs) i ≡ None → n ≤ i
missing n xs i h e =
    ⊎_elim
    (λ (l : i < n). let w : i < length (take n xs) = omega (arith, length-take n xs) in let f = slice_get-get_or (take n xs) i 0 w in let z : ◌≡◌ {A = ℕ} 0 1 = cc in absurd (omega arith))
    (λ (l : n ≤ i). l) (cases_lt i n)

-- a row that passes its checks
pub record Taken (arities : List ℕ) (states used s : ℕ) (p : Production) (n : ℕ) : Type 0 where
  pub state : s < states
  pub form : p.form < length arities
  pub points : p.points ≤ 1000
  pub arity : length p.children ≡ get_or arities p.form 0
  pub children : all_below states p.children ≡ true
  pub room : used < 32
  pub place : n ≡ used
  pub fits_row : fits arities states p ≡ true

pub row_taken : (arities : List ℕ) (states used s : ℕ) (p : Production) (n : ℕ) → Ok n ≡ row_answer arities states used s p → Taken arities states used s p n
row_taken ars st u s p n h =
    let a = err_then (leb st s) n _ NoState h in
    let b = err_then (leb (length ars) p.form) n _ NoForm a.1 in
    let c = err_then (ltb 1000 p.points) n _ HighPoints b.1 in
    let d = err_else (eqb (length p.children) (get_or ars p.form 0)) n _ ChildCount c.1 in
    let e = err_else (all_below st p.children) n _ NoChild d.1 in
    let f = err_then (leb 32 u) n _ FullState e.1 in
    let form = leb-false (length ars) p.form b.0 in
    let low = ltb-false 1000 p.points c.0 in
    record {
      state = leb-false st s a.0;
      form = form;
      points = low;
      arity = eqb-true (length p.children) (get_or ars p.form 0) d.0;
      children = e.0;
      room = leb-false 32 u f.0;
      place = ok_is n u f.1;
      fits_row = and_from (has_form ars p) (leb p.points 1000 && all_below st p.children)
          (and_from (ltb p.form (length ars)) (eqb (length p.children) (get_or ars p.form 0)) (lt-ltb p.form (length ars) form) d.0)
          (and_from (leb p.points 1000) (all_below st p.children) (le-leb p.points 1000 low) e.0);
    }
