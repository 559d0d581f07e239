-- The step of a call by whether it is accepted, and histories with a call added.
use Rattle.std.proofs.Common.{◌≡◌, ℕ, Bool, true, false, cond, List, [], ◌∷◌, ◌++◌, is_ok, Ok, Err, Result, sym, refl, ap, ◌∙◌}
use Rattle.std.proofs.lemmas.Bool.{true≢false}
use Rattle.refusals.specs.declared.refusal.RegisterRefusal.{RegisterRefusal}
use Rattle.ledger.specs.Ledger.{Ledger, blank_ledger, Entry, Call, enter, seal, reopen, entry_answer, seal_answer, entered, with_seal, accepted, done, step, steps, ledger, Follows}

steps_append : (h g : List Call) (l : Ledger) → steps l (h ++ g) ≡ steps (steps l h) g
steps_append [] g l = refl
steps_append (c ∷ h) g l = steps_append h g (step l c)

pub ledger_more : (h g : List Call) → ledger (h ++ g) ≡ steps (ledger h) g
ledger_more h g = steps_append h g blank_ledger

pub follows : (l l' : Ledger) (c : Call) → l' ≡ step l c → Follows l c l'
follows l l' c e h q = e ∙ ap (λ x. step x c) (sym q) ∙ sym (ledger_more h (c ∷ []))

pub step_ok : (l : Ledger) (c : Call) → accepted l c ≡ true → step l c ≡ done l c
unfolding step
step_ok l c h = ap (λ b. cond b (done l c) l) h

pub step_no : (l : Ledger) (c : Call) → accepted l c ≡ false → step l c ≡ l
unfolding step
step_no l c h = ap (λ b. cond b (done l c) l) h

-- a call on an open ledger
accepted_entry : (l : Ledger) (e : Entry) (r : Result ℕ RegisterRefusal) → l.sealed ≡ false → r ≡ entry_answer l e → accepted l (enter e) ≡ is_ok r
unfolding accepted
accepted_entry l e r o h = ap (λ b. cond b false (is_ok (entry_answer l e))) o ∙ ap is_ok (sym h)

pub entry_ok : (l : Ledger) (e : Entry) (n : ℕ) → l.sealed ≡ false → Ok n ≡ entry_answer l e → step l (enter e) ≡ entered l e
entry_ok l e n o h = step_ok l (enter e) (accepted_entry l e (Ok n) o h)

pub entry_err : (l : Ledger) (e : Entry) (x : RegisterRefusal) → l.sealed ≡ false → Err x ≡ entry_answer l e → step l (enter e) ≡ l
entry_err l e x o h = step_no l (enter e) (accepted_entry l e (Err x) o h)

pub accepted_seal : (l : Ledger) → l.sealed ≡ false → is_ok (seal_answer l) ≡ true → accepted l seal ≡ true
unfolding accepted
accepted_seal l o h = ap (λ b. cond b false (is_ok (seal_answer l))) o ∙ h

refused_seal : (l : Ledger) → l.sealed ≡ false → is_ok (seal_answer l) ≡ false → accepted l seal ≡ false
unfolding accepted
refused_seal l o h = ap (λ b. cond b false (is_ok (seal_answer l))) o ∙ h

accepted_reopen : (l : Ledger) → l.sealed ≡ true → accepted l reopen ≡ true
unfolding accepted
accepted_reopen l o = ap (λ b. cond b true false) o

pub seal_step : (l : Ledger) → l.sealed ≡ false → is_ok (seal_answer l) ≡ true → step l seal ≡ with_seal l true
seal_step l o h = step_ok l seal (accepted_seal l o h)

pub unsealed_step : (l : Ledger) → l.sealed ≡ false → is_ok (seal_answer l) ≡ false → l ≡ step l seal
unsealed_step l o h = sym (step_no l seal (refused_seal l o h))

pub reopen_step : (l : Ledger) → l.sealed ≡ true → step l reopen ≡ with_seal l false
reopen_step l o = step_ok l reopen (accepted_reopen l o)

-- an accepted entry is on an open ledger, and not refused
pub accepted_open : (l : Ledger) (e : Entry) → accepted l (enter e) ≡ true → (l.sealed ≡ false) × (is_ok (entry_answer l e) ≡ true)
unfolding accepted
accepted_open l e h = go l.sealed refl h
  where
    go : (b : Bool) → l.sealed ≡ b → cond b false (is_ok (entry_answer l e)) ≡ true → (l.sealed ≡ false) × (is_ok (entry_answer l e) ≡ true)
    go true q x = absurd (true≢false (sym x))
    go false q x = (q, x)
