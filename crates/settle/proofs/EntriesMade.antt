-- Entries that go on: one more state, one more row, the rows of one more state; and all of settle's.
use Rattle.std.proofs.Common.{◌≡◌, ℕ, ◌+◌, ◌<◌, Bool, true, false, List, [], ◌∷◌, ◌++◌, map, replicate, is_ok, Some, None, Ok, Err, sym, refl, ap, ◌∙◌, ap₂, arith}
use mathlib.Core.List.{map-append}
use Rattle.std.proofs.lemmas.List.{replicate_more}
use Rattle.std.specs.List.{AllByRecursion}
use Rattle.refusals.specs.declared.refusal.SettleRefusal.{SettleRefusal}
use Rattle.automata.specs.Automaton.{Meaning, Production, Sound}
use Rattle.automata.specs.Reading.{concat}
use Rattle.register.specs.declared.open.Open.{Open}
use Rattle.automata.specs.Rows.{renamed, rows_below, rows_of}
use Rattle.ledger.specs.Reach.{listed, reached_states, number}
use Rattle.ledger.specs.Ledger.{Ledger, Entry, enter, settle, add_state, add_row, name_root, entry_step, enter_all, row_entries, settle_answer, accepted, step}
use Rattle.ledger.specs.Layout.{laid_out}
use Rattle.register.specs.Held.{held}
use Rattle.automata.proofs.RowLists.{all_rows}
use Rattle.history.proofs.Reached.{row_closed}
use Rattle.history.proofs.Settled.{enter_append}
use Rattle.history.proofs.EntryRuns.{entry_call}
use Rattle.ledger.proofs.Steps.{step_ok, step_no}
use Rattle.settle.specs.Entries.{numbered_rows}
use Rattle.settle.proofs.Ascending.{listed_add, listed_skip, concat_snoc}
use Rattle.settle.proofs.Fitting.{rows_add, rows_skip}

pub held_open : (o : Open) → (held o).sealed ≡ false
unfolding laid_out
held_open o = refl

-- an entry by its call
pub entry_taken : (o o' : Open) (e : Entry) → held o' ≡ step (held o) (enter e) → held o' ≡ entry_step (held o) e
entry_taken o o' e h = h ∙ entry_call (held o) e (held_open o)

module _ (l : Ledger) where
  enter_snoc : (xs : List Entry) (x : Entry) → enter_all l (xs ++ x ∷ []) ≡ entry_step (enter_all l xs) x
  enter_snoc xs x = enter_append l xs (x ∷ [])

  -- one more of a list of entries
  enter_map : {X : Type 0} (g : X → Entry) (xs : List X) (x : X) (k k' : Ledger) → k ≡ enter_all l (map g xs) → k' ≡ entry_step k (g x) → k' ≡ enter_all l (map g (xs ++ x ∷ []))
  enter_map g xs x k k' h e = e ∙ ap (λ z. entry_step z (g x)) h ∙ sym (enter_snoc (map g xs) (g x)) ∙ sym (ap (enter_all l) (map-append g xs (x ∷ [])))

  -- one more state
  pub state_more : (n : ℕ) (k k' : Ledger) → k ≡ enter_all l (replicate n add_state) → k' ≡ entry_step k add_state → k' ≡ enter_all l (replicate (n + 1) add_state)
  state_more n k k' h e = e ∙ ap (λ z. entry_step z add_state) h ∙ sym (enter_snoc (replicate n add_state) add_state) ∙ ap (enter_all l) (replicate_more n add_state)

  module _ (f : ℕ → Bool) (n : ℕ) (k k' : Ledger) (g : ℕ → List Entry) (h : k ≡ enter_all l (concat (map g (listed f n)))) where
    pub states_more : f n ≡ true → k' ≡ enter_all k (g n) → k' ≡ enter_all l (concat (map g (listed f (n + 1))))
    states_more t e =
        e ∙ ap (λ z. enter_all z (g n)) h ∙ sym (enter_append l (concat (map g (listed f n))) (g n)) ∙ sym (ap (enter_all l) (concat_snoc g (listed f n) n)) ∙ sym (ap (λ xs. enter_all l (concat (map g xs))) (listed_add f n t))

    pub states_same : f n ≡ false → k' ≡ k → k' ≡ enter_all l (concat (map g (listed f (n + 1))))
    states_same t e = e ∙ h ∙ sym (ap (λ xs. enter_all l (concat (map g xs))) (listed_skip f n t))

  module _ (m : Meaning) (g : ℕ → ℕ) (s j : ℕ) (k k' : Ledger) (h : k ≡ enter_all l (numbered_rows g s (rows_below m s j))) where
    pub row_more : (p : Production) → m.row s j ≡ Some p → k' ≡ entry_step k (add_row (g s) (renamed g p)) → k' ≡ enter_all l (numbered_rows g s (rows_below m s (j + 1)))
    row_more p e q = enter_map (λ p. add_row (g s) (renamed g p)) (rows_below m s j) p k k' h q ∙ sym (ap (λ xs. enter_all l (numbered_rows g s xs)) (rows_add m s j p e))

    pub row_same : m.row s j ≡ None → k' ≡ k → k' ≡ enter_all l (numbered_rows g s (rows_below m s (j + 1)))
    row_same e q = q ∙ h ∙ sym (ap (λ xs. enter_all l (numbered_rows g s xs)) (rows_skip m s j e))

map_same : {X Y : Type 0} (g h : X → Y) (P : X → Type 0) → ((x : X) → P x → g x ≡ h x) → (xs : List X) → AllByRecursion P xs → map g xs ≡ map h xs
map_same g h P e [] a = refl
map_same g h P e (x ∷ xs) a = ap₂ (λ y ys. y ∷ ys) (e x a.0) (map_same g h P e xs a.1)

-- settle is accepted exactly where its checks are passed
settle_taken : (o : Open) (m : Meaning) → accepted (held o) (settle m) ≡ is_ok (settle_answer (held o) m)
unfolding accepted laid_out
settle_taken o m = refl

pub settle_refused : (o : Open) (m : Meaning) (x : SettleRefusal) → Err x ≡ settle_answer (held o) m → held o ≡ step (held o) (settle m)
settle_refused o m x e = sym (step_no (held o) (settle m) (settle_taken o m ∙ sym (ap is_ok e)))

module _ (m : Meaning) (sm : Sound m) (g : ℕ → ℕ) (numbers : (s : ℕ) → s < 1024 → g s ≡ number m s) where
  numbered : (s : ℕ) → s < m.states → g s ≡ number m s
  numbered s l = numbers s (omega (arith, sm.few_states))

  numbered_row : (s : ℕ) → s < m.states → (p : Production) → AllByRecursion (λ c. c < m.states) p.children → add_row (g s) (renamed g p) ≡ add_row (number m s) (renamed (number m) p)
  numbered_row s l p h = ap₂ (λ x cs. add_row x (record { form = p.form; points = p.points; children = cs })) (numbered s l) (map_same g (number m) (λ c. c < m.states) numbered p.children h)

  pub numbered_state : (s : ℕ) → s < m.states → numbered_rows g s (rows_of m s) ≡ row_entries m s
  numbered_state s l =
      map_same (λ p. add_row (g s) (renamed g p)) (λ p. add_row (number m s) (renamed (number m) p)) (λ p. AllByRecursion (λ c. c < m.states) p.children) (numbered_row s l) (rows_of m s)
      (all_rows (λ p. AllByRecursion (λ c. c < m.states) p.children) m s (λ k p e. row_closed m sm s k p e) m.places)

-- after the states, the rows and the root
pub settle_done : (m : Meaning) (o o₁ o₂ o₃ : Open) → Ok tt ≡ settle_answer (held o) m
    → held o₁ ≡ enter_all (held o) (map (λ _. add_state) (reached_states m))
    → held o₂ ≡ enter_all (held o₁) (concat (map (row_entries m) (reached_states m)))
    → held o₃ ≡ step (held o₂) (enter (name_root (number m m.root)))
    → held o₃ ≡ step (held o) (settle m)
settle_done m o o₁ o₂ o₃ ok h₁ h₂ h₃ =
    let states = map (λ _. add_state) (reached_states m) in
    let rows = concat (map (row_entries m) (reached_states m)) in
    let root = name_root (number m m.root) in
    entry_taken o₂ o₃ root h₃
    ∙ ap (λ k. entry_step k root) h₂
    ∙ ap (λ k. entry_step (enter_all k rows) root) h₁
    ∙ sym (enter_append (enter_all (held o) states) rows (root ∷ []))
    ∙ sym (enter_append (held o) states (rows ++ root ∷ []))
    ∙ sym (step_ok (held o) (settle m) (settle_taken o m ∙ sym (ap is_ok ok)))
