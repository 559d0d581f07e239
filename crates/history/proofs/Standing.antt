-- The ledger holds exactly the rows that stand.
use Rattle.std.proofs.Common.{◌≡◌, ℕ, zero, suc, ◌<◌, ◌≤◌, true, false, leb, ◌⊎◌, ◌↔◌, List, [], ◌∷◌, ◌++◌, map, length, get_or, set, Some, None, Ok, sym, refl, ap, ◌∙◌, subst, inl, inr, ⊎_elim, append_assoc, append-nil, arith}
use Rattle.std.specs.List.{remove}
use Rattle.std.proofs.ByRecursion.{All-get_or}
use Rattle.std.proofs.lemmas.List.{get_or-set_same, get_or-set_other, get_or-map, length-map}
use Rattle.std.proofs.lemmas.Bool.{true≢false, cases_eq, cases_lt, cases_Bool, leb-false}
use Rattle.automata.specs.Automaton.{Meaning, Production, Sound}
use Rattle.refusals.specs.declared.refusal.RegisterRefusal.TheVariants.{NoState}
use Rattle.automata.specs.Rows.{renamed, rows_of}
use Rattle.ledger.specs.Reach.{Reaches, reached, reached_states, number}
use Rattle.ledger.specs.Ledger.{Ledger, Entry, add_form, add_state, add_row, strike_row, name_root, Call, enter, settle, seal, reopen, rows_at, entry_answer, accepted, done, ledger, nth}
use Rattle.ledger.specs.Soundness.{get_d_beyond}
use Rattle.history.specs.Stands.{Stands, taken, settled, left, above, moved, Leaves, SoundCall, SoundCalls, HoldsStanding}
use Rattle.history.proofs.Reached.{reached_exact, reached_below}
use Rattle.history.proofs.Listed.{listed_at, all_listed, listed_number}
use Rattle.history.proofs.Settled.{new_rows, number_below}
use Rattle.history.proofs.SettledWorth.{settle_done, settle_passed}
use Rattle.ledger.proofs.Taken.{err_then, ok_value, Taken, row_taken}
use Rattle.ledger.proofs.Steps.{ledger_more, step_ok, step_no, accepted_open}

-- rows at places
none_some : (p : Production) {X : Type 0} → None ≡ Some p → X
none_some p e = absurd (let z : ◌≡◌ {A = ℕ} 0 1 = cc in omega arith)

nth_left : (xs ys : List Production) (k : ℕ) (p : Production) → nth xs k ≡ Some p → nth (xs ++ ys) k ≡ Some p
nth_left [] ys k p e = none_some p e
nth_left (x ∷ xs) ys zero p e = e
nth_left (x ∷ xs) ys (suc k) p e = nth_left xs ys k p e

nth_last : (xs : List Production) (p : Production) → nth (xs ++ p ∷ []) (length xs) ≡ Some p
nth_last [] p = refl
nth_last (x ∷ xs) p = nth_last xs p

nth_push : (xs : List Production) (q : Production) (k : ℕ) (p : Production) → nth (xs ++ q ∷ []) k ≡ Some p → (nth xs k ≡ Some p) ⊎ ((k ≡ length xs) × (q ≡ p))
nth_push [] q zero p e = inr (refl, cc)
nth_push [] q (suc k) p e = none_some p e
nth_push (x ∷ xs) q zero p e = inl e
nth_push (x ∷ xs) q (suc k) p e = ⊎_elim inl (λ h. inr (ap suc h.0, h.1)) (nth_push xs q k p e)

removed_below : (xs : List Production) (j k : ℕ) → k < j → nth (remove xs j) k ≡ nth xs k
removed_below xs zero k lt = absurd (omega arith)
removed_below [] (suc j) k lt = refl
removed_below (x ∷ xs) (suc j) zero lt = refl
removed_below (x ∷ xs) (suc j) (suc k) lt = removed_below xs j k (omega arith)

removed_above : (xs : List Production) (j k : ℕ) → j ≤ k → nth (remove xs j) k ≡ nth xs (suc k)
removed_above [] zero k le = refl
removed_above [] (suc j) k le = refl
removed_above (x ∷ xs) zero k le = refl
removed_above (x ∷ xs) (suc j) zero le = absurd (omega arith)
removed_above (x ∷ xs) (suc j) (suc k) le = removed_above xs j k (omega arith)

nth_map : (f : Production → Production) (xs : List Production) (k : ℕ) (p : Production) → nth xs k ≡ Some p → nth (map f xs) k ≡ Some (f p)
nth_map f [] k p e = none_some p e
nth_map f (x ∷ xs) zero p e = let same : x ≡ p = cc in ap (λ y. Some (f y)) same
nth_map f (x ∷ xs) (suc k) p e = nth_map f xs k p e

map_nth : (f : Production → Production) (xs : List Production) (k : ℕ) (q : Production) → nth (map f xs) k ≡ Some q → (p : Production) × (nth xs k ≡ Some p) × (f p ≡ q)
map_nth f [] k q e = none_some q e
map_nth f (x ∷ xs) zero q e = (x, refl, cc)
map_nth f (x ∷ xs) (suc k) q e = map_nth f xs k q e

push_at : (xss : List (List Production)) (s : ℕ) → get_or (xss ++ [] ∷ []) s [] ≡ get_or xss s []
push_at [] zero = refl
push_at [] (suc s) = refl
push_at (x ∷ xss) zero = refl
push_at (x ∷ xss) (suc s) = push_at xss s

entry_ok : (l : Ledger) (e : Entry) → accepted l (enter e) ≡ true → (n : ℕ) × (Ok n ≡ entry_answer l e)
entry_ok l e h = ok_value (entry_answer l e) (accepted_open l e h).1

row_ok : (l : Ledger) (s : ℕ) (p : Production) (n : ℕ) → Ok n ≡ entry_answer l (add_row s p) → Taken l.arities (length l.rows) (length (rows_at l s)) s p n
row_ok l s p n h = row_taken l.arities (length l.rows) (length (rows_at l s)) s p n h

strike_below : (l : Ledger) (s j n : ℕ) → Ok n ≡ entry_answer l (strike_row s j) → s < length l.rows
strike_below l s j n h = leb-false (length l.rows) s (err_then (leb (length l.rows) s) n _ NoState h).0

module _ (l : Ledger) where
  abbrev At : ℕ → ℕ → Production → Type 0
  At s k p = nth (rows_at l s) k ≡ Some p

  -- a row stays where no strike of its state is accepted
  stays : (c : Call) (s k : ℕ) (p : Production) → ((j : ℕ) → c ≡ enter (strike_row s j) → ⊥) → accepted l c ≡ true → At s k p → nth (rows_at (done l c) s) k ≡ Some p
  stays (enter (add_form a)) s k p not_so ok e = e
  stays (enter add_state) s k p not_so ok e = ap (λ ps. nth ps k) (push_at l.rows s) ∙ e
  stays (enter (add_row s' q)) s k p not_so ok e =
      let t = entry_ok l (add_row s' q) ok in
      let w = row_ok l s' q t.0 t.1 in
      ⊎_elim
      (λ (same : s ≡ s').
      ap (λ x. nth (get_or (set l.rows s' (rows_at l s' ++ q ∷ [])) x []) k) same ∙ ap (λ ps. nth ps k) (get_or-set_same l.rows s' (rows_at l s' ++ q ∷ []) [] w.state)
      ∙ nth_left (rows_at l s') (q ∷ []) k p (ap (λ x. nth (rows_at l x) k) (sym same) ∙ e))
      (λ other. ap (λ ps. nth ps k) (get_or-set_other l.rows s' s (rows_at l s' ++ q ∷ []) [] other) ∙ e)
      (cases_eq s s')
  stays (enter (strike_row s' j)) s k p not_so ok e =
      ⊎_elim
      (λ (same : s ≡ s'). absurd (not_so j (ap (λ x. enter (strike_row x j)) (sym same))))
      (λ other. ap (λ ps. nth ps k) (get_or-set_other l.rows s' s (remove (rows_at l s') j) [] other) ∙ e)
      (cases_eq s s')
  stays (enter (name_root s')) s k p not_so ok e = e
  stays (settle m) s k p not_so ok e = none_some p (sym (ap (λ rs. nth (get_or rs s []) k) (settle_passed l m ok).empty) ∙ e)
  stays seal s k p not_so ok e = e
  stays reopen s k p not_so ok e = e

  struck : (s j : ℕ) → accepted l (enter (strike_row s j)) ≡ true → rows_at (done l (enter (strike_row s j))) s ≡ remove (rows_at l s) j
  struck s j ok = let t = entry_ok l (strike_row s j) ok in get_or-set_same l.rows s (remove (rows_at l s) j) [] (strike_below l s j t.0 t.1)

  taken_at : (s : ℕ) (p : Production) (n : ℕ) → Ok n ≡ entry_answer l (add_row s p) → rows_at (done l (enter (add_row s p))) s ≡ rows_at l s ++ p ∷ []
  taken_at s p n h = get_or-set_same l.rows s (rows_at l s ++ p ∷ []) [] (row_ok l s p n h).state

  settled_at : (m : Meaning) (sm : Sound m) → accepted l (settle m) ≡ true → (s : ℕ) → s < length (reached_states m) → rows_at (done l (settle m)) s ≡ new_rows m sm (get_or (reached_states m) s 0)
  settled_at m sm ok s lt = ap (λ x. rows_at x s) (settle_done l m sm ok) ∙ get_or-map (new_rows m sm) (reached_states m) s 0 [] lt

  settled_beyond : (m : Meaning) (sm : Sound m) → accepted l (settle m) ≡ true → (s : ℕ) → length (reached_states m) ≤ s → rows_at (done l (settle m)) s ≡ []
  settled_beyond m sm ok s le = ap (λ x. rows_at x s) (settle_done l m sm ok) ∙ get_d_beyond (map (new_rows m sm) (reached_states m)) s [] (omega (arith, length-map (reached_states m) (new_rows m sm)))

-- a row that stands is held
module _ (h : List Call) (c : Call) where
  abbrev Later : ℕ → ℕ → Production → Type 0
  Later s k p = nth (rows_at (ledger (h ++ c ∷ [])) s) k ≡ Some p

  later_ok : accepted (ledger h) c ≡ true → (s k : ℕ) (p : Production) → nth (rows_at (done (ledger h) c) s) k ≡ Some p → Later s k p
  later_ok ok s k p e = ap (λ x. nth (rows_at x s) k) (ledger_more h (c ∷ []) ∙ step_ok (ledger h) c ok) ∙ e

  later_no : accepted (ledger h) c ≡ false → (s k : ℕ) (p : Production) → nth (rows_at (ledger h) s) k ≡ Some p → Later s k p
  later_no not_so s k p e = ap (λ x. nth (rows_at x s) k) (ledger_more h (c ∷ []) ∙ step_no (ledger h) c not_so) ∙ e

held_left : (h : List Call) (c : Call) (s k : ℕ) (p : Production) → Leaves h c s → nth (rows_at (ledger h) s) k ≡ Some p → Later h c s k p
held_left h c s k p lv e =
    ⊎_elim
    (λ ok. later_ok h c ok s k p (stays (ledger h) c s k p (λ j is. true≢false (sym ok ∙ lv j is)) ok e))
    (λ not_so. later_no h c not_so s k p e)
    (cases_Bool (accepted (ledger h) c))

held_above : (h : List Call) (s j k : ℕ) (p : Production) → k < j → nth (rows_at (ledger h) s) k ≡ Some p → Later h (enter (strike_row s j)) s k p
held_above h s j k p lt e =
    ⊎_elim
    (λ ok. later_ok h (enter (strike_row s j)) ok s k p (ap (λ ps. nth ps k) (struck (ledger h) s j ok) ∙ removed_below (rows_at (ledger h) s) j k lt ∙ e))
    (λ not_so. later_no h (enter (strike_row s j)) not_so s k p e)
    (cases_Bool (accepted (ledger h) (enter (strike_row s j))))

held_taken : (h : List Call) (s k : ℕ) (p : Production) → accepted (ledger h) (enter (add_row s p)) ≡ true → entry_answer (ledger h) (add_row s p) ≡ Ok k → Later h (enter (add_row s p)) s k p
held_taken h s k p ok a =
    let w = row_ok (ledger h) s p k (sym a) in
    later_ok h (enter (add_row s p)) ok s k p
    (ap (λ ps. nth ps k) (taken_at (ledger h) s p k (sym a)) ∙ ap (nth (rows_at (ledger h) s ++ p ∷ [])) w.place ∙ nth_last (rows_at (ledger h) s) p)

held_settled : (h : List Call) (m : Meaning) (s k : ℕ) (p : Production) → (sm : Sound m) → accepted (ledger h) (settle m) ≡ true → Reaches m s → nth (rows_of m s) k ≡ Some p → Later h (settle m) (number m s) k (renamed (number m) p)
held_settled h m s k p sm ok r e =
    let f = (reached_exact m sm s).1 r in
    later_ok h (settle m) ok (number m s) k (renamed (number m) p)
    (ap (λ ps. nth ps k) (settled_at (ledger h) m sm ok (number m s) (number_below m sm s f) ∙ ap (new_rows m sm) (listed_at (reached m) s m.states (reached_below m sm s f) f))
    ∙ nth_map (renamed (number m)) (rows_of m s) k p e)

pub stands_held : {h : List Call} {s k : ℕ} {p : Production} → Stands h s k p → nth (rows_at (ledger h) s) k ≡ Some p
stands_held (taken h s k p ok a) = held_taken h s k p ok a
stands_held (settled h m s k p sm ok r e) = held_settled h m s k p sm ok r e
stands_held (left h c s k p st lv) = held_left h c s k p lv (stands_held st)
stands_held (above h s j k p st lt) = held_above h s j k p lt (stands_held st)
stands_held (moved h s j k p ok st le) =
    later_ok h (enter (strike_row s j)) ok s k p (ap (λ ps. nth ps k) (struck (ledger h) s j ok) ∙ removed_above (rows_at (ledger h) s) j k le ∙ stands_held st)

-- a row that is held stands
abbrev Known : List Call → Type 0
Known h = (s k : ℕ) (p : Production) → nth (rows_at (ledger h) s) k ≡ Some p → Stands h s k p

not_strike : (h : List Call) (c : Call) → ((s j : ℕ) → c ≡ enter (strike_row s j) → ⊥) → (s : ℕ) → Leaves h c s
not_strike h c not_so s j e = absurd (not_so s j e)

module _ (h : List Call) (known : Known h) where
  keep : (c : Call) (s k : ℕ) (p : Production) → ((s j : ℕ) → c ≡ enter (strike_row s j) → ⊥) → nth (rows_at (ledger h) s) k ≡ Some p → Stands (h ++ c ∷ []) s k p
  keep c s k p not_so e = left h c s k p (known s k p e) (not_strike h c not_so s)

  done_stands : (c : Call) → SoundCall c → accepted (ledger h) c ≡ true → (s k : ℕ) (p : Production) → nth (rows_at (done (ledger h) c) s) k ≡ Some p → Stands (h ++ c ∷ []) s k p
  done_stands (enter (add_form a)) sc ok s k p e = keep (enter (add_form a)) s k p (λ s j q. let z : ◌≡◌ {A = ℕ} 0 1 = cc in omega arith) e
  done_stands (enter add_state) sc ok s k p e = keep (enter add_state) s k p (λ s j q. let z : ◌≡◌ {A = ℕ} 0 1 = cc in omega arith) (ap (λ ps. nth ps k) (sym (push_at (ledger h).rows s)) ∙ e)
  done_stands (enter (add_row s' q)) sc ok s k p e =
      let t = entry_ok (ledger h) (add_row s' q) ok in
      let w = row_ok (ledger h) s' q t.0 t.1 in
      let other_call : (s j : ℕ) → enter (add_row s' q) ≡ enter (strike_row s j) → ⊥ = λ s j x. let z : ◌≡◌ {A = ℕ} 0 1 = cc in omega arith in
      ⊎_elim
      (λ (same : s ≡ s').
      ⊎_elim
      (λ old. keep (enter (add_row s' q)) s k p other_call (ap (λ x. nth (rows_at (ledger h) x) k) same ∙ old))
      (λ new. stand_at s' s q p t.0 k (sym same) new.1 (w.place ∙ sym new.0) (taken h s' t.0 q ok (sym t.1)))
      (nth_push (rows_at (ledger h) s') q k p (sym (ap (λ x. nth (rows_at (done (ledger h) (enter (add_row s' q))) x) k) same ∙ ap (λ ps. nth ps k) (taken_at (ledger h) s' q t.0 t.1)) ∙ e)))
      (λ apart. keep (enter (add_row s' q)) s k p other_call (sym (ap (λ ps. nth ps k) (get_or-set_other (ledger h).rows s' s (rows_at (ledger h) s' ++ q ∷ []) [] apart)) ∙ e))
      (cases_eq s s')
    where
      stand_at : (s s₁ : ℕ) (p p₁ : Production) (k k₁ : ℕ) → s ≡ s₁ → p ≡ p₁ → k ≡ k₁ → Stands (h ++ enter (add_row s' q) ∷ []) s k p → Stands (h ++ enter (add_row s' q) ∷ []) s₁ k₁ p₁
      stand_at s s₁ p p₁ k k₁ a b c x = subst (λ z. Stands (h ++ enter (add_row s' q) ∷ []) z k₁ p₁) a (subst (λ z. Stands (h ++ enter (add_row s' q) ∷ []) s z p₁) c (subst (λ z. Stands (h ++ enter (add_row s' q) ∷ []) s k z) b x))
  done_stands (enter (strike_row s' j)) sc ok s k p e =
      ⊎_elim
      (λ (same : s ≡ s').
      let here : nth (remove (rows_at (ledger h) s') j) k ≡ Some p = sym (ap (λ x. nth (rows_at (done (ledger h) (enter (strike_row s' j))) x) k) same ∙ ap (λ ps. nth ps k) (struck (ledger h) s' j ok)) ∙ e in
      subst (λ x. Stands (h ++ enter (strike_row s' j) ∷ []) x k p) (sym same)
      (⊎_elim
      (λ lt. above h s' j k p (known s' k p (sym (removed_below (rows_at (ledger h) s') j k lt) ∙ here)) lt)
      (λ le. moved h s' j k p ok (known s' (suc k) p (sym (removed_above (rows_at (ledger h) s') j k le) ∙ here)) le)
      (cases_lt k j)))
      (λ apart.
      left h (enter (strike_row s' j)) s k p (known s k p (sym (ap (λ ps. nth ps k) (get_or-set_other (ledger h).rows s' s (remove (rows_at (ledger h) s') j) [] apart)) ∙ e))
      (λ i x. absurd (apart (let eq : s' ≡ s = cc in sym eq))))
      (cases_eq s s')
  done_stands (enter (name_root s')) sc ok s k p e = keep (enter (name_root s')) s k p (λ s j q. let z : ◌≡◌ {A = ℕ} 0 1 = cc in omega arith) e
  done_stands (settle m) sc ok s k p e =
      ⊎_elim
      (λ lt.
      let s₀ = get_or (reached_states m) s 0 in
      let f : reached m s₀ ≡ true = All-get_or (λ x. reached m x ≡ true) (reached_states m) s 0 lt (all_listed (reached m) m.states) in
      let found = map_nth (renamed (number m)) (rows_of m s₀) k p (sym (ap (λ ps. nth ps k) (settled_at (ledger h) m sc ok s lt)) ∙ e) in
      subst (λ x. Stands (h ++ settle m ∷ []) x k p) (listed_number (reached m) m.states s lt)
      (subst (λ x. Stands (h ++ settle m ∷ []) (number m s₀) k x) found.2 (settled h m s₀ k found.0 sc ok ((reached_exact m sc s₀).0 f) found.1)))
      (λ le. none_some p (sym (ap (λ ps. nth ps k) (settled_beyond (ledger h) m sc ok s le)) ∙ e))
      (cases_lt s (length (reached_states m)))
  done_stands seal sc ok s k p e = keep seal s k p (λ s j q. let z : ◌≡◌ {A = ℕ} 0 1 = cc in omega arith) e
  done_stands reopen sc ok s k p e = keep reopen s k p (λ s j q. let z : ◌≡◌ {A = ℕ} 0 1 = cc in omega arith) e

  more_known : (c : Call) → SoundCall c → Known (h ++ c ∷ [])
  more_known c sc s k p e =
      ⊎_elim
      (λ ok. done_stands c sc ok s k p (sym (ap (λ x. nth (rows_at x s) k) (ledger_more h (c ∷ []) ∙ step_ok (ledger h) c ok)) ∙ e))
      (λ not_so. left h c s k p (known s k p (sym (ap (λ x. nth (rows_at x s) k) (ledger_more h (c ∷ []) ∙ step_no (ledger h) c not_so)) ∙ e)) (λ j x. not_so))
      (cases_Bool (accepted (ledger h) c))

all_known : (g h : List Call) → SoundCalls g → Known h → Known (h ++ g)
all_known [] h sc known = subst Known (sym (append-nil h)) known
all_known (c ∷ g) h sc known = subst Known (append_assoc h (c ∷ []) g) (all_known g (h ++ c ∷ []) sc.1 (more_known h known c sc.0))

pub standing : (h : List Call) → SoundCalls h → (s k : ℕ) (p : Production) → nth (rows_at (ledger h) s) k ≡ Some p ↔ Stands h s k p
standing h sc s k p = (all_known h [] sc (λ s k p e. none_some p e) s k p, stands_held)

pub holds_standing : (l : Ledger) → HoldsStanding l
holds_standing l h sc e s k p =
    let x = standing h sc s k p in
    (λ q. x.0 (ap (λ y. nth (rows_at y s) k) e ∙ q), λ st. ap (λ y. nth (rows_at y s) k) (sym e) ∙ x.1 st)
