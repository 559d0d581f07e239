-- Every call keeps a ledger good.
use Rattle.std.proofs.Common.{◌≡◌, ℕ, zero, suc, ◌<◌, ◌≤◌, Bool, true, false, cond, ◌&&◌, eqb, ltb, leb, List, [], ◌∷◌, ◌++◌, length, get_or, take, drop, set, is_some, is_ok, Some, None, Ok, Err, Option, Result, sym, refl, ◌∙◌, subst, ⊎_elim, arith}
use Rattle.std.proofs.lemmas.List.{length-set, length-append, length_push, length-take, length-drop, get_or_append_left}
use Rattle.std.proofs.lemmas.Bool.{true≢false, leb-true, leb-false, ltb-true, ltb-false, lt-ltb, le-leb, eq-eqb, eqb-true, and_parts, and_from, cases_Bool}
use Rattle.std.specs.List.{remove}
use Rattle.automata.specs.Automaton.{Production, all_below}
use Rattle.tickets.specs.Forms.{each_at_most, forms_checked}
use Rattle.refusals.specs.declared.refusal.RegisterRefusal.{RegisterRefusal}
use Rattle.refusals.specs.declared.refusal.RegisterRefusal.TheVariants.{HighArity, FullForms, FullStates, NoState, NoRow}
use Rattle.ledger.specs.Ledger.{Ledger, blank_ledger, Entry, add_form, add_state, add_row, strike_row, name_root, Call, enter, settle, seal, reopen, every, rows_at, has_form, entry_answer, entered, entry_step, enter_all, settle_entries, root_named, accepted, step, steps, done, ledger}
use Rattle.ledger.specs.Layout.{fits, fair, rooted, Good}
use Rattle.ledger.specs.Soundness.{fair_at}
use Rattle.ledger.proofs.Taken.{err_then, ok_then, ok_value, row_taken}
use Rattle.ledger.proofs.Steps.{step_ok, step_no, accepted_open}

module _ {X : Type 0} where
  every_mono : (f g : X → Bool) → ((x : X) → f x ≡ true → g x ≡ true) → (xs : List X) → every f xs ≡ true → every g xs ≡ true
  every_mono f g m [] h = refl
  every_mono f g m (x ∷ xs) h = let p = and_parts (f x) (every f xs) h in and_from (g x) (every g xs) (m x p.0) (every_mono f g m xs p.1)

  every_append : (f : X → Bool) (xs ys : List X) → every f xs ≡ true → every f ys ≡ true → every f (xs ++ ys) ≡ true
  every_append f [] ys h k = k
  every_append f (x ∷ xs) ys h k = let p = and_parts (f x) (every f xs) h in and_from (f x) (every f (xs ++ ys)) p.0 (every_append f xs ys p.1 k)

  every_take : (f : X → Bool) (n : ℕ) (xs : List X) → every f xs ≡ true → every f (take n xs) ≡ true
  every_take f zero xs h = refl
  every_take f (suc n) [] h = refl
  every_take f (suc n) (x ∷ xs) h = let p = and_parts (f x) (every f xs) h in and_from (f x) (every f (take n xs)) p.0 (every_take f n xs p.1)

  every_drop : (f : X → Bool) (n : ℕ) (xs : List X) → every f xs ≡ true → every f (drop n xs) ≡ true
  every_drop f zero xs h = h
  every_drop f (suc n) [] h = refl
  every_drop f (suc n) (x ∷ xs) h = every_drop f n xs (and_parts (f x) (every f xs) h).1

  every_set : (f : X → Bool) (xs : List X) (i : ℕ) (y : X) → every f xs ≡ true → f y ≡ true → every f (set xs i y) ≡ true
  every_set f [] i y h k = refl
  every_set f (x ∷ xs) zero y h k = let p = and_parts (f x) (every f xs) h in and_from (f y) (every f xs) k p.1
  every_set f (x ∷ xs) (suc i) y h k = let p = and_parts (f x) (every f xs) h in and_from (f x) (every f (set xs i y)) p.0 (every_set f xs i y p.1 k)

below_more : (n m : ℕ) → n ≤ m → (cs : List ℕ) → all_below n cs ≡ true → all_below m cs ≡ true
below_more n m l [] h = refl
below_more n m l (c ∷ cs) h = let p = and_parts (ltb c n) (all_below n cs) h in and_from (ltb c m) (all_below m cs) (lt-ltb c m (omega (arith, ltb-true c n p.0))) (below_more n m l cs p.1)

form_more : (ars : List ℕ) (a : ℕ) (p : Production) → has_form ars p ≡ true → has_form (ars ++ a ∷ []) p ≡ true
form_more ars a p h =
    let x = and_parts (ltb p.form (length ars)) (eqb (length p.children) (get_or ars p.form 0)) h in
    let f = ltb-true p.form (length ars) x.0 in
    and_from (ltb p.form (length (ars ++ a ∷ []))) (eqb (length p.children) (get_or (ars ++ a ∷ []) p.form 0)) (lt-ltb p.form (length (ars ++ a ∷ [])) (omega (arith, length_push ars a)))
    (eq-eqb _ _ (eqb-true (length p.children) (get_or ars p.form 0) x.1 ∙ sym (get_or_append_left ars (a ∷ []) 0 p.form f)))

-- rows that fit still do with one more form, and with more states
fits_turn : (ars ars' : List ℕ) (n m : ℕ) → n ≤ m → ((p : Production) → has_form ars p ≡ true → has_form ars' p ≡ true) → (p : Production) → fits ars n p ≡ true → fits ars' m p ≡ true
fits_turn ars ars' n m l f p h =
    let x = and_parts (has_form ars p) (leb p.points 1000 && all_below n p.children) h in
    let y = and_parts (leb p.points 1000) (all_below n p.children) x.1 in
    and_from (has_form ars' p) (leb p.points 1000 && all_below m p.children) (f p x.0) (and_from (leb p.points 1000) (all_below m p.children) y.0 (below_more n m l p.children y.1))

fair_turn : (ars ars' : List ℕ) (n m : ℕ) → n ≤ m → ((p : Production) → has_form ars p ≡ true → has_form ars' p ≡ true) → (ps : List Production) → fair ars n ps ≡ true → fair ars' m ps ≡ true
fair_turn ars ars' n m l f ps h =
    let x = and_parts (leb (length ps) 32) (every (fits ars n) ps) h in
    and_from (leb (length ps) 32) (every (fits ars' m) ps) x.0 (every_mono (fits ars n) (fits ars' m) (fits_turn ars ars' n m l f) ps x.1)

rooted_more : (n m : ℕ) → n ≤ m → (r : Option ℕ) → rooted n r ≡ true → rooted m r ≡ true
rooted_more n m l None h = refl
rooted_more n m l (Some s) h = lt-ltb s m (omega (arith, ltb-true s n h))

-- a list of forms with one more of at most 4
most_push : (n : ℕ) (xs : List ℕ) (a : ℕ) → each_at_most n xs ≡ true → a ≤ n → each_at_most n (xs ++ a ∷ []) ≡ true
most_push n [] a h l = and_from (leb a n) true (le-leb a n l) refl
most_push n (x ∷ xs) a h l = let p = and_parts (leb x n) (each_at_most n xs) h in and_from (leb x n) (each_at_most n (xs ++ a ∷ [])) p.0 (most_push n xs a p.1 l)

checked_parts : (ars : List ℕ) → is_ok (forms_checked ars) ≡ true → each_at_most 4 ars ≡ true
checked_parts ars h = (ok_then (each_at_most 4 ars) _ HighArity h).0

pub forms_from : (ars : List ℕ) → each_at_most 4 ars ≡ true → length ars ≤ 64 → is_ok (forms_checked ars) ≡ true
forms_from ars h l = rw (h, le-leb (length ars) 64 l)

forms_push : (ars : List ℕ) (a : ℕ) → is_ok (forms_checked ars) ≡ true → a ≤ 4 → length ars < 64 → is_ok (forms_checked (ars ++ a ∷ [])) ≡ true
forms_push ars a h l k = forms_from (ars ++ a ∷ []) (most_push 4 ars a (checked_parts ars h) l) (omega (arith, length_push ars a))

-- the rows of one state are replaced by others that are fair
good_set : (l : Ledger) (s : ℕ) (ps : List Production) → Good l → fair l.arities (length l.rows) ps ≡ true → Good (record { arities = l.arities; rows = set l.rows s ps; root = l.root; sealed = l.sealed })
good_set l s ps g e =
    let long = length-set l.rows s ps in
    record {
      arities = g.arities;
      rows = subst (λ n. every (fair l.arities n) (set l.rows s ps) ≡ true) (sym long) (every_set (fair l.arities (length l.rows)) l.rows s ps g.rows e);
      few = omega (arith, g.few);
      root = subst (λ n. rooted n l.root ≡ true) (sym long) g.root;
      ready = g.ready;
    }

pub entered_good : (l : Ledger) (e : Entry) (n : ℕ) → Ok n ≡ entry_answer l e → Good l → Good (entered l e)
entered_good l (add_form a) n h g = record {
  arities = forms_push l.arities a g.arities (ltb-false 4 a (err_then (ltb 4 a) n _ HighArity h).0) (leb-false 64 (length l.arities) (err_then (leb 64 (length l.arities)) n _ FullForms (err_then (ltb 4 a) n _ HighArity h).1).0);
  rows = every_mono (fair l.arities (length l.rows)) (fair (l.arities ++ a ∷ []) (length l.rows)) (fair_turn l.arities (l.arities ++ a ∷ []) (length l.rows) (length l.rows) (omega arith) (form_more l.arities a)) l.rows g.rows;
  few = g.few;
  root = g.root;
  ready = g.ready;
}
entered_good l add_state n h g =
    let m : length l.rows ≤ length (l.rows ++ [] ∷ []) = omega (arith, length-append l.rows ([] ∷ [])) in
    let room = leb-false 64 (length l.rows) (err_then (leb 64 (length l.rows)) n _ FullStates h).0 in
    record {
      arities = g.arities;
      rows = every_append (fair l.arities (length (l.rows ++ [] ∷ []))) l.rows ([] ∷ [])
          (every_mono (fair l.arities (length l.rows)) (fair l.arities (length (l.rows ++ [] ∷ []))) (fair_turn l.arities l.arities (length l.rows) (length (l.rows ++ [] ∷ [])) m (λ p x. x)) l.rows g.rows)
          refl;
      few = omega (arith, length-append l.rows ([] ∷ []));
      root = rooted_more (length l.rows) (length (l.rows ++ [] ∷ [])) m l.root g.root;
      ready = g.ready;
    }
entered_good l (add_row s p) n h g =
    let w = row_taken l.arities (length l.rows) (length (rows_at l s)) s p n h in
    let f = fits l.arities (length l.rows) in
    let x = and_parts (leb (length (rows_at l s)) 32) (every f (rows_at l s)) (fair_at l g s) in
    good_set l s (rows_at l s ++ p ∷ []) g
    (and_from (leb (length (rows_at l s ++ p ∷ [])) 32) (every f (rows_at l s ++ p ∷ [])) (le-leb _ 32 (omega (arith, length-append (rows_at l s) (p ∷ []), w.room)))
    (every_append f (rows_at l s) (p ∷ []) x.1 (and_from (f p) true w.fits_row refl)))
entered_good l (strike_row s k) n h g =
    let f = fits l.arities (length l.rows) in
    let xs = rows_at l s in
    let x = and_parts (leb (length xs) 32) (every f xs) (fair_at l g s) in
    let room = leb-true (length xs) 32 x.0 in
    let a = err_then (leb (length l.rows) s) n _ NoState h in
    let lt = leb-false (length xs) k (err_then (leb (length xs) k) n _ NoRow a.1).0 in
    good_set l s (remove xs k) g
    (and_from (leb (length (remove xs k)) 32) (every f (remove xs k)) (le-leb _ 32 (omega (arith, length-append (take k xs) (drop (suc k) xs), length-take k xs, length-drop (suc k) xs)))
    (every_append f (take k xs) (drop (suc k) xs) (every_take f k xs x.1) (every_drop f (suc k) xs x.1)))
entered_good l (name_root s) n h g = record { arities = g.arities; rows = g.rows; few = g.few; root = lt-ltb s (length l.rows) (leb-false (length l.rows) s (err_then (leb (length l.rows) s) n _ NoState h).0); ready = λ _. refl }

pub entry_good : (l : Ledger) (e : Entry) → Good l → Good (entry_step l e)
entry_good l e g = go (entry_answer l e) refl
  where
    go : (r : Result ℕ RegisterRefusal) → r ≡ entry_answer l e → Good (cond (is_ok r) (entered l e) l)
    go (Ok n) h = entered_good l e n h g
    go (Err x) h = g

pub enter_all_good : (es : List Entry) (l : Ledger) → Good l → Good (enter_all l es)
enter_all_good [] l g = g
enter_all_good (e ∷ es) l g = enter_all_good es (entry_step l e) (entry_good l e g)

seal_named : (l : Ledger) → accepted l seal ≡ true → is_some l.root ≡ true
unfolding accepted
seal_named l h = go l.sealed l.root h
  where
    go : (b : Bool) (r : Option ℕ) → cond b false (is_ok (root_named r)) ≡ true → is_some r ≡ true
    go true r x = absurd (true≢false (sym x))
    go false None x = absurd (true≢false (sym x))
    go false (Some s) x = refl

done_good : (l : Ledger) (c : Call) → accepted l c ≡ true → Good l → Good (done l c)
done_good l (enter e) h g = let v = ok_value (entry_answer l e) (accepted_open l e h).1 in entered_good l e v.0 v.1 g
done_good l (settle m) h g = enter_all_good (settle_entries m) l g
done_good l seal h g = record { arities = g.arities; rows = g.rows; few = g.few; root = g.root; ready = λ _. seal_named l h }
done_good l reopen h g = record { arities = g.arities; rows = g.rows; few = g.few; root = g.root; ready = λ e. absurd (true≢false (sym e)) }

pub step_good : (l : Ledger) (c : Call) → Good l → Good (step l c)
step_good l c g = ⊎_elim (λ y. subst Good (sym (step_ok l c y)) (done_good l c y g)) (λ n. subst Good (sym (step_no l c n)) g) (cases_Bool (accepted l c))

steps_good : (h : List Call) (l : Ledger) → Good l → Good (steps l h)
steps_good [] l g = g
steps_good (c ∷ h) l g = steps_good h (step l c) (step_good l c g)

pub blank_good : Good blank_ledger
blank_good = record { arities = refl; rows = refl; few = omega arith; root = refl; ready = λ e. absurd (true≢false (sym e)) }

pub ledger_good : (h : List Call) → Good (ledger h)
ledger_good h = steps_good h blank_ledger blank_good
