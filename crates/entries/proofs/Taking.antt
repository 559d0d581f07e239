-- What an entry from a line makes of the ledger.
use Rattle.std.proofs.Common.{◌≡◌, ℕ, ◌+◌, ◌<◌, List, [], length, IfSome, MatchResult, IsErrAnd, Ok, Err, Result, sym, ap, ◌∙◌, add-zero, arith}
use Rattle.std.proofs.lemmas.List.{length_push, length-set}
use Rattle.refusals.specs.declared.refusal.Refusal.TheVariants.{Register}
use Rattle.refusals.specs.declared.refusal.RegisterRefusal.{RegisterRefusal}
use Rattle.refusals.specs.declared.refusal.TicketRefusal.{TicketRefusal}
use Rattle.refusals.specs.declared.refusal.TicketRefusal.TheVariants.{Empty, Long, Unknown, Few, Many}
use Rattle.refusals.specs.Refusal.{ticket_node}
use Rattle.tickets.specs.Check.{ticket_checked}
use Rattle.tickets.proofs.CheckExact.{check_exact}
use Rattle.register.specs.declared.open.Open.{Open}
use Rattle.register.specs.Held.{held}
use Rattle.ledger.specs.Ledger.{Ledger, Entry, enter, add_form, add_state, add_row, name_root, strike_row, entry_answer, unnumbered, entered, step}
use Rattle.ledger.proofs.LaidOut.{taken_held, refused_held}
use Rattle.fields.specs.declared.fault.Fault.{Fault}
use Rattle.fields.specs.Fault.{of_refusal, bind}
use Rattle.entries.specs.AtLine.{at_register, entering}
use Rattle.entries.specs.Taken.{Takes, Grows}

abbrev more_forms : Entry → ℕ
more_forms (add_form a) = 1
more_forms add_state = 0
more_forms (add_row s p) = 0
more_forms (strike_row s k) = 0
more_forms (name_root s) = 0

abbrev more_states : Entry → ℕ
more_states (add_form a) = 0
more_states add_state = 1
more_states (add_row s p) = 0
more_states (strike_row s k) = 0
more_states (name_root s) = 0

entered_sizes : (l : Ledger) (e : Entry) → (length (entered l e).arities ≡ length l.arities + more_forms e) × (length (entered l e).rows ≡ length l.rows + more_states e)
entered_sizes l (add_form a) = (length_push l.arities a, sym (add-zero _))
entered_sizes l add_state = (sym (add-zero _), length_push l.rows [])
entered_sizes l (add_row s p) = (sym (add-zero _), length-set l.rows s _ ∙ sym (add-zero _))
entered_sizes l (strike_row s k) = (sym (add-zero _), length-set l.rows s _ ∙ sym (add-zero _))
entered_sizes l (name_root s) = (sym (add-zero _), sym (add-zero _))

-- a taken entry
taken : (o : Open) (after : Ledger) (l : ℕ) (e : Entry) (n : ℕ) → entry_answer (held o) e ≡ Ok n → after ≡ step (held o) (enter e)
    → Takes (entering l (held o) e) (held o) (Ok tt) after × Grows (more_forms e) (more_states e) (held o) (Ok tt) after
taken o after l e n h s =
    let done : after ≡ entered (held o) e = s ∙ sym (taken_held o.rows.now o.table e n (sym h)) in
    let sizes = entered_sizes (held o) e in (
      ap (λ r. bind (at_register l r) (λ _. Ok (step (held o) (enter e)))) h ∙ ap Ok (sym s),
      (ap (λ (x : Ledger). length x.arities) done ∙ sizes.0, ap (λ (x : Ledger). length x.rows) done ∙ sizes.1),
    )

-- a refused one
refused : (o : Open) (after : Ledger) (l : ℕ) (e : Entry) (x : RegisterRefusal) (f : Fault) → entry_answer (held o) e ≡ Err x → after ≡ step (held o) (enter e) → f ≡ of_refusal (Register x) l
    → Takes (entering l (held o) e) (held o) (Err f) after × Grows (more_forms e) (more_states e) (held o) (Err f) after
refused o after l e x f h s ef =
    let same : after ≡ held o = s ∙ sym (refused_held o.rows.now o.table e x (sym h)) in (
      (ap (λ r. bind (at_register l r) (λ _. Ok (step (held o) (enter e)))) h ∙ ap Err (sym ef), same),
      (ap (λ (y : Ledger). length y.arities) same, ap (λ (y : Ledger). length y.rows) same),
    )

-- r is a call's answer a without its number, and with line l where it is a refusal
abbrev pub AtLine : {X : Type 0} → ℕ → Result (Unit {0}) Fault → Result X RegisterRefusal → Type 0
AtLine l r a = MatchResult a (λ _. r ≡ Ok tt) (λ x. IsErrAnd r (λ f. (f.refusal ≡ Register x) × (f ≡ of_refusal f.refusal l)))

-- an entry at a line, as its call answers it
pub entered_at : (o : Open) (after : Ledger) (l : ℕ) (e : Entry) (r : Result (Unit {0}) Fault) (a : Result ℕ RegisterRefusal) → a ≡ entry_answer (held o) e → after ≡ step (held o) (enter e) → AtLine l r a
    → Takes (entering l (held o) e) (held o) r after × Grows (more_forms e) (more_states e) (held o) r after
entered_at o after l e (Ok u) (Ok n) h s told = taken o after l e n (sym h) s
entered_at o after l e (Err f) (Ok n) h s told = absurd (let z : ◌≡◌ {A = ℕ} 0 1 = cc in omega arith)
entered_at o after l e (Ok u) (Err x) h s told = absurd told
entered_at o after l e (Err f) (Err x) h s told = refused o after l e x f (sym h) s (told.1 ∙ ap (λ y. of_refusal y l) told.0)

-- an entry that returns no number
pub numbered_at : (l : ℕ) (r : Result (Unit {0}) Fault) (a : Result ℕ RegisterRefusal) → AtLine l r (unnumbered a) → AtLine l r a
numbered_at l r (Ok n) told = told
numbered_at l r (Err x) told = told

-- a refused node is one of the first 256
pub node_low : (a ns : List ℕ) (r : TicketRefusal) → ticket_checked a ns ≡ Err r → IfSome (ticket_node r) (λ p. p < 256)
node_low a ns Empty e = tt
node_low a ns Long e = tt
node_low a ns (Unknown p) e = let h = ((check_exact a ns).unknown p).0 e in let x = h.0 in let y = h.1 in omega arith
node_low a ns (Few p) e = let h = ((check_exact a ns).few p).0 e in let x = h.0 in let y = h.1 in omega arith
node_low a ns Many e = tt
