-- Entries one after the other are the steps of their calls, and so settle is the run of its entries.
use Rattle.std.proofs.Common.{◌≡◌, Bool, true, false, cond, List, [], ◌∷◌, map, is_ok, sym, refl, ap, ◌∙◌}
use Rattle.ledger.specs.Ledger.{Ledger, Entry, add_form, add_state, add_row, strike_row, name_root, enter, settle_entries, entry_answer, entered, entry_step, enter_all, accepted, step, steps}
use Rattle.history.specs.Settle.{SettleAsCalls}
use Rattle.ledger.proofs.Steps.{step_ok}
use Rattle.history.proofs.SettledWorth.{settle_open}

-- the step of an entry on an open ledger, which stays open
pub entry_call : (l : Ledger) (e : Entry) → l.sealed ≡ false → step l (enter e) ≡ entry_step l e
unfolding step accepted
entry_call l e o = ap (λ b. cond (cond b false (is_ok (entry_answer l e))) (entered l e) l) o

entered_seal : (l : Ledger) (e : Entry) → (entered l e).sealed ≡ l.sealed
entered_seal l (add_form a) = refl
entered_seal l add_state = refl
entered_seal l (add_row s p) = refl
entered_seal l (strike_row s k) = refl
entered_seal l (name_root s) = refl

pub entry_seal : (l : Ledger) (e : Entry) → (entry_step l e).sealed ≡ l.sealed
entry_seal l e = go (is_ok (entry_answer l e))
  where
    go : (b : Bool) → (cond b (entered l e) l).sealed ≡ l.sealed
    go true = entered_seal l e
    go false = refl

pub entry_calls : (es : List Entry) (l : Ledger) → l.sealed ≡ false → enter_all l es ≡ steps l (map enter es)
entry_calls [] l o = refl
entry_calls (e ∷ es) l o = entry_calls es (entry_step l e) (entry_seal l e ∙ o) ∙ ap (λ x. steps x (map enter es)) (sym (entry_call l e o))

pub settle_as_calls : SettleAsCalls
settle_as_calls l m h = step_ok l _ h ∙ entry_calls (settle_entries m) l (settle_open l m h).0
