-- What settle's entries leave: none is refused, and the ledger has the rows of the reached states, renumbered.
use Rattle.std.proofs.Common.{◌≡◌, ℕ, zero, suc, ◌+◌, ◌<◌, ◌≤◌, Bool, true, false, cond, ◌&&◌, eqb, ltb, leb, List, [], ◌∷◌, ◌++◌, map, length, get_or, set, replicate, is_ok, Some, Ok, Err, sym, refl, ap, ◌∙◌, subst, ap₂, ⊎_elim, append_assoc, append-nil, arith}
use mathlib.Core.List.{map-append}
use Rattle.std.specs.List.{AllByRecursion}
use Rattle.std.proofs.lemmas.List.{length-append, length-map, length-replicate, length-set, set-set, set-get_or, set_at, get_or_at, get_or-set_same}
use Rattle.std.proofs.lemmas.Bool.{true≢false, and_parts, and_from, cases_eq, cases_Bool, lt-leb, le-ltb, leb-true, ltb-true, lt-ltb, eqb-true, eq-eqb}
use Rattle.automata.specs.Automaton.{Meaning, Production, Sound, all_below}
use Rattle.automata.specs.Reading.{concat}
use Rattle.refusals.specs.declared.refusal.RegisterRefusal.TheVariants.{FullStates, NoState}
use Rattle.refusals.specs.declared.refusal.SettleRefusal.TheVariants.{HasState, ManyReached, ManyRows, ForeignForm, HighRow}
use Rattle.automata.specs.Rows.{renamed, rows_of}
use Rattle.ledger.specs.Reach.{reached, listed, reached_states, number}
use Rattle.ledger.specs.Ledger.{Ledger, Entry, add_state, add_row, name_root, every, rows_at, entry_answer, with_rows, entered, entry_step, enter_all, row_entries, settle_entries, none_yet, every_row, has_form, settle_answer}
use Rattle.history.specs.Settle.{settled_ledger, SettleEnters}
use Rattle.automata.proofs.RowLists.{all_rows}
use Rattle.history.proofs.Reached.{reached_root, reached_next, reached_below}
use Rattle.history.proofs.Listed.{listed_yes, listed_no, listed_before}
use Rattle.ledger.proofs.Taken.{ok_then}

pub enter_append : (l : Ledger) (xs ys : List Entry) → enter_all l (xs ++ ys) ≡ enter_all (enter_all l xs) ys
enter_append l [] ys = refl
enter_append l (x ∷ xs) ys = enter_append (entry_step l x) xs ys

not_refused : (l : Ledger) (e : Entry) (n : ℕ) → entry_answer l e ≡ Ok n → entry_step l e ≡ entered l e
not_refused l e n h = ap (λ r. cond (is_ok r) (entered l e) l) h

states_entered : (l : Ledger) (xs : List ℕ) → length l.rows + length xs ≤ 64 → enter_all l (map (λ _. add_state) xs) ≡ with_rows l (l.rows ++ replicate (length xs) [])
states_entered l [] h = ap (with_rows l) (sym (append-nil l.rows))
states_entered l (x ∷ xs) h =
    let e : entry_step l add_state ≡ with_rows l (l.rows ++ [] ∷ []) =
    not_refused l add_state (length l.rows) (ap (λ b. cond b (Err FullStates) (Ok (length l.rows))) (lt-leb 64 (length l.rows) (omega arith))) in
    ap (λ k. enter_all k (map (λ _. add_state) xs)) e
    ∙ states_entered (with_rows l (l.rows ++ [] ∷ [])) xs (omega (arith, length-append l.rows ([] ∷ [])))
    ∙ ap (with_rows l) (append_assoc l.rows ([] ∷ []) (replicate (length xs) []))

-- a row that an open ledger takes
pub record Fine (arities : List ℕ) (n : ℕ) (p : Production) : Type 0 where
  pub known : p.form < length arities
  pub arity : length p.children ≡ get_or arities p.form 0
  pub low : p.points ≤ 1000
  pub within : all_below n p.children ≡ true

row_entered : (l : Ledger) (s : ℕ) (p : Production) → s < length l.rows → length (rows_at l s) < 32 → Fine l.arities (length l.rows) p → entry_step l (add_row s p) ≡ with_rows l (set l.rows s (rows_at l s ++ p ∷ []))
row_entered l s p lt room h =
    not_refused l (add_row s p) (length (rows_at l s))
    (rw (lt-leb (length l.rows) s lt, lt-leb (length l.arities) p.form h.known, le-ltb 1000 p.points h.low, eq-eqb (length p.children) (get_or l.arities p.form 0) h.arity, h.within, lt-leb 32 (length (rows_at l s)) room))

rows_entered : (l : Ledger) (s : ℕ) (g : Production → Production) (ps : List Production) → s < length l.rows → length (rows_at l s) + length ps ≤ 32 → AllByRecursion (λ p. Fine l.arities (length l.rows) (g p)) ps
    → enter_all l (map (λ p. add_row s (g p)) ps) ≡ with_rows l (set l.rows s (rows_at l s ++ map g ps))
rows_entered l s g [] lt room h = ap (with_rows l) (sym (ap (set l.rows s) (append-nil (rows_at l s)) ∙ set-get_or l.rows s []))
rows_entered l s g (p ∷ ps) lt room h =
    let one = rows_at l s ++ g p ∷ [] in
    let l' = with_rows l (set l.rows s one) in
    let long : length (set l.rows s one) ≡ length l.rows = length-set l.rows s one in
    let at : rows_at l' s ≡ one = get_or-set_same l.rows s one [] lt in
    let more = length-append (rows_at l s) (g p ∷ []) in
    ap (λ k. enter_all k (map (λ p. add_row s (g p)) ps)) (row_entered l s (g p) lt (omega arith) h.0)
    ∙ rows_entered l' s g ps (omega arith) (omega (arith, ap length at)) (subst (λ n. AllByRecursion (λ p. Fine l.arities n (g p)) ps) (sym long) h.1)
    ∙ ap (with_rows l) (set-set l.rows s one (rows_at l' s ++ map g ps) ∙ ap (set l.rows s) (ap (λ x. x ++ map g ps) at ∙ append_assoc (rows_at l s) (g p ∷ []) (map g ps)))

root_entered : (l : Ledger) (s : ℕ) → s < length l.rows → entry_step l (name_root s) ≡ record { arities = l.arities; rows = l.rows; root = Some s; sealed = l.sealed }
root_entered l s lt = not_refused l (name_root s) 0 (ap (λ b. cond b (Err NoState) (Ok 0)) (lt-leb (length l.rows) s lt))

every_all : {X : Type 0} (f : X → Bool) (xs : List X) → every f xs ≡ true → AllByRecursion (λ x. f x ≡ true) xs
every_all f [] h = tt
every_all f (x ∷ xs) h = let p = and_parts (f x) (every f xs) h in (p.0, every_all f xs p.1)

every_append : {X : Type 0} (f : X → Bool) (xs ys : List X) → every f (xs ++ ys) ≡ true → (every f xs ≡ true) × (every f ys ≡ true)
every_append f [] ys h = (refl, h)
every_append f (x ∷ xs) ys h = let p = and_parts (f x) (every f (xs ++ ys)) h in let q = every_append f xs ys p.1 in (and_from (f x) (every f xs) p.0 q.0, q.1)

every_listed : (f g : ℕ → Bool) (n s : ℕ) → every g (listed f n) ≡ true → s < n → f s ≡ true → g s ≡ true
every_listed f g zero s h lt e = absurd (omega arith)
every_listed f g (suc n) s h lt e =
    let parts = every_append g (listed f n) (cond (f n) (n ∷ []) []) h in
    ⊎_elim
    (λ (q : s ≡ n). (and_parts (g s) true (ap (λ x. g x && true) q ∙ subst (λ b. every g (cond b (n ∷ []) []) ≡ true) (subst (λ x. f x ≡ true) q e) parts.1)).0)
    (λ ne. every_listed f g n s parts.0 (omega arith) e)
    (cases_eq s n)

-- what settle's checks say
pub record Passed (l : Ledger) (m : Meaning) : Type 0 where
  pub empty : l.rows ≡ []
  pub few : length (reached_states m) ≤ 64
  pub short : (s : ℕ) → s < m.states → reached m s ≡ true → length (rows_of m s) ≤ 32
  pub formed : (s : ℕ) → s < m.states → reached m s ≡ true → AllByRecursion (λ p. has_form l.arities p ≡ true) (rows_of m s)
  pub cheap : (s : ℕ) → s < m.states → reached m s ≡ true → AllByRecursion (λ p. leb p.points 1000 ≡ true) (rows_of m s)

empty_list : {X : Type 0} (xs : List X) → none_yet xs ≡ true → xs ≡ []
empty_list [] h = refl
empty_list (x ∷ xs) h = absurd (true≢false (sym h))

pub passed : (l : Ledger) (m : Meaning) → is_ok (settle_answer l m) ≡ true → Passed l m
passed l m h =
    let a = ok_then (none_yet l.rows) _ HasState h in
    let b = ok_then (leb (length (reached_states m)) 64) _ ManyReached a.1 in
    let c = ok_then (every (λ s. leb (length (rows_of m s)) 32) (reached_states m)) _ ManyRows b.1 in
    let d = ok_then (every_row (has_form l.arities) m) _ ForeignForm c.1 in
    let e = ok_then (every_row (λ p. leb p.points 1000) m) _ HighRow d.1 in
    record {
      empty = empty_list l.rows a.0;
      few = leb-true (length (reached_states m)) 64 b.0;
      short = λ s lt r. leb-true (length (rows_of m s)) 32 (every_listed (reached m) (λ s. leb (length (rows_of m s)) 32) m.states s c.0 lt r);
      formed = λ s lt r. every_all (has_form l.arities) (rows_of m s) (every_listed (reached m) (λ s. every (has_form l.arities) (rows_of m s)) m.states s d.0 lt r);
      cheap = λ s lt r. every_all (λ p. leb p.points 1000) (rows_of m s) (every_listed (reached m) (λ s. every (λ p. leb p.points 1000) (rows_of m s)) m.states s e.0 lt r);
    }

all_below_from : (n : ℕ) (g : ℕ → ℕ) (cs : List ℕ) → AllByRecursion (λ c. g c < n) cs → all_below n (map g cs) ≡ true
all_below_from n g [] h = refl
all_below_from n g (c ∷ cs) h = and_from (ltb (g c) n) (all_below n (map g cs)) (lt-ltb (g c) n h.0) (all_below_from n g cs h.1)

all_turn : {X : Type 0} (P Q : X → Type 0) → ((x : X) → P x → Q x) → (xs : List X) → AllByRecursion P xs → AllByRecursion Q xs
all_turn P Q h [] a = tt
all_turn P Q h (x ∷ xs) a = (h x a.0, all_turn P Q h xs a.1)

all_both : {X : Type 0} (P Q R S : X → Type 0) → ((x : X) → P x → Q x → R x → S x) → (xs : List X) → AllByRecursion P xs → AllByRecursion Q xs → AllByRecursion R xs → AllByRecursion S xs
all_both P Q R S h [] a b c = tt
all_both P Q R S h (x ∷ xs) a b c = (h x a.0 b.0 c.0, all_both P Q R S h xs a.1 b.1 c.1)

concat_append : {A : Type 0} (xs ys : List (List A)) → concat (xs ++ ys) ≡ concat xs ++ concat ys
concat_append [] ys = refl
concat_append (x ∷ xs) ys = ap (λ r. x ++ r) (concat_append xs ys) ∙ sym (append_assoc x (concat xs) (concat ys))

module _ (m : Meaning) (sm : Sound m) where
  abbrev total : ℕ
  total = length (reached_states m)

  -- the rows that stand for a reached state
  abbrev pub new_rows : ℕ → List Production
  new_rows s = map (renamed (number m)) (rows_of m s)

  abbrev ReachedRow : Production → Type 0
  ReachedRow p = AllByRecursion (λ c. reached m c ≡ true) p.children

  pub number_below : (s : ℕ) → reached m s ≡ true → number m s < total
  number_below s e = listed_before (reached m) s m.states (reached_below m sm s e) e

  pub rows_reached : (s : ℕ) → reached m s ≡ true → AllByRecursion ReachedRow (rows_of m s)
  rows_reached s e = all_rows ReachedRow m s (λ k p q. reached_next m sm s k p e q) m.places

  module _ (arities : List ℕ) where
    fine_row : (p : Production) → has_form arities p ≡ true → leb p.points 1000 ≡ true → ReachedRow p → Fine arities total (renamed (number m) p)
    fine_row p a b r =
        let x = and_parts (ltb p.form (length arities)) (eqb (length p.children) (get_or arities p.form 0)) a in
        record {
          known = ltb-true p.form (length arities) x.0;
          arity = length-map p.children (number m) ∙ eqb-true (length p.children) (get_or arities p.form 0) x.1;
          low = leb-true p.points 1000 b;
          within = all_below_from total (number m) p.children (all_turn (λ c. reached m c ≡ true) (λ c. number m c < total) number_below p.children r);
        }

  module _ (l : Ledger) (ok : Passed l m) where
    abbrev start : Ledger
    start = with_rows l (replicate total [])

    abbrev Phase : ℕ → ℕ → Type 0
    Phase n k = enter_all start (concat (map (row_entries m) (listed (reached m) n))) ≡ with_rows l (map new_rows (listed (reached m) n) ++ replicate k [])

    phase_more : (n k : ℕ) → n < m.states → reached m n ≡ true → length (listed (reached m) n) + suc k ≡ total → Phase n (suc k) → Phase (suc n) k
    phase_more n k lt f e ih =
        let old : List ℕ = listed (reached m) n in
        let blanks : List (List Production) = replicate k [] in
        let here : List (List Production) = map new_rows old ++ [] ∷ blanks in
        let long : length here ≡ total = length-append (map new_rows old) ([] ∷ blanks) ∙ ap₂ ◌+◌ (length-map old new_rows) (ap suc (length-replicate {A = List Production} k [])) ∙ e in
        let at : get_or here (number m n) [] ≡ [] = get_or_at (map new_rows old) [] blanks [] (length old) (length-map old new_rows) in
        let fine : AllByRecursion (λ p. Fine l.arities (length here) (renamed (number m) p)) (rows_of m n) =
        subst (λ x. AllByRecursion (λ p. Fine l.arities x (renamed (number m) p)) (rows_of m n)) (sym long)
        (all_both (λ p. has_form l.arities p ≡ true) (λ p. leb p.points 1000 ≡ true) ReachedRow (λ p. Fine l.arities total (renamed (number m) p)) (fine_row l.arities) (rows_of m n) (ok.formed n lt f) (ok.cheap n lt f) (rows_reached n f)) in
        let room : length (get_or here (number m n) []) + length (rows_of m n) ≤ 32 = omega (arith, ap length at, ok.short n lt f) in
        ap (λ xs. enter_all start (concat (map (row_entries m) xs))) (listed_yes (reached m) n f)
        ∙ ap (λ xs. enter_all start (concat xs)) (map-append (row_entries m) old (n ∷ []))
        ∙ ap (enter_all start) (concat_append (map (row_entries m) old) (row_entries m n ∷ []) ∙ ap (λ x. concat (map (row_entries m) old) ++ x) (append-nil (row_entries m n)))
        ∙ enter_append start (concat (map (row_entries m) old)) (row_entries m n)
        ∙ ap (λ x. enter_all x (row_entries m n)) ih
        ∙ rows_entered (with_rows l here) (number m n) (renamed (number m)) (rows_of m n) (subst (λ x. number m n < x) (sym long) (number_below n f)) room fine
        ∙ ap (with_rows l)
        (ap (λ x. set here (number m n) (x ++ new_rows n)) at
        ∙ set_at (map new_rows old) [] blanks (new_rows n) (length old) (length-map old new_rows)
        ∙ sym (append_assoc (map new_rows old) (new_rows n ∷ []) blanks)
        ∙ ap (λ x. x ++ blanks) (sym (map-append new_rows old (n ∷ []))))
        ∙ ap (λ xs. with_rows l (map new_rows xs ++ blanks)) (sym (listed_yes (reached m) n f))

    phase_same : (n k : ℕ) → reached m n ≡ false → Phase n k → Phase (suc n) k
    phase_same n k f ih = subst (λ xs. enter_all start (concat (map (row_entries m) xs)) ≡ with_rows l (map new_rows xs ++ replicate k [])) (sym (listed_no (reached m) n f)) ih

    -- after the rows of the reached states below n
    rows_phase : (n k : ℕ) → n ≤ m.states → length (listed (reached m) n) + k ≡ total → Phase n k
    rows_phase zero k le e = ap (λ x. with_rows l (replicate x [])) (omega arith)
    rows_phase (suc n) k le e =
        ⊎_elim
        (λ f. let more : length (listed (reached m) n) + suc k ≡ total = omega (arith, ap length (listed_yes (reached m) n f), length-append (listed (reached m) n) (n ∷ [])) in
        phase_more n k le f more (rows_phase n (suc k) (omega arith) more))
        (λ f. phase_same n k f (rows_phase n k (omega arith) (omega (arith, ap length (listed_no (reached m) n f)))))
        (cases_Bool (reached m n))

    all_entered : enter_all l (settle_entries m) ≡ settled_ledger l m
    all_entered =
        let states = map (λ _. add_state) (reached_states m) in
        let rows = concat (map (row_entries m) (reached_states m)) in
        let last = name_root (number m m.root) ∷ [] in
        let all : List (List Production) = map new_rows (reached_states m) in
        let long : length all ≡ total = length-map (reached_states m) new_rows in
        enter_append l states (rows ++ last)
        ∙ ap (λ x. enter_all x (rows ++ last)) (states_entered l (reached_states m) (omega (arith, ap length ok.empty, ok.few)) ∙ ap (λ x. with_rows l (x ++ replicate total [])) ok.empty)
        ∙ enter_append start rows last
        ∙ ap (λ x. enter_all x last) (rows_phase m.states 0 (omega arith) (omega arith) ∙ ap (with_rows l) (append-nil all))
        ∙ root_entered (with_rows l all) (number m m.root) (subst (λ x. number m m.root < x) (sym long) (number_below m.root (reached_root m sm)))

pub settle_enters : SettleEnters
settle_enters l m sm h = all_entered m sm l (passed l m h)
