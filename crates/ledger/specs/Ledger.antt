-- The ledger: what a register holds, from its history of calls alone.
use Rattle.std.specs.Prelude.{◌≡◌, ℕ, zero, suc, Bool, true, false, cond, ◌&&◌, leb, List, [], ◌∷◌, ◌++◌, map, length, is_ok, Some, None, Ok, Err, Option, Result, ◌==◌, nat_le, nat_lt, slice_index, slice_index_or, slice_set}
use Rattle.std.specs.List.{remove}
use Rattle.automata.specs.Automaton.{Meaning, Production, all_below}
use Rattle.automata.specs.Reading.{concat}
use Rattle.refusals.specs.declared.refusal.RegisterRefusal.{RegisterRefusal}
use Rattle.refusals.specs.declared.refusal.RegisterRefusal.TheVariants.{ShortList, HighArity, FullForms, FullStates, NoState, NoForm, HighPoints, ChildCount, NoChild, FullState, NoRow, NoRoot}
use Rattle.refusals.specs.declared.refusal.SettleRefusal.{SettleRefusal}
use Rattle.refusals.specs.declared.refusal.SettleRefusal.TheVariants.{HasState, ManyReached, ManyRows, ForeignForm, HighRow}
use Rattle.automata.specs.Rows.{renamed, rows_of}
use Rattle.ledger.specs.Reach.{reached_states, number}

-- the arity of each form, the rows of each state in order, the root or none, and whether it is sealed
pub record Ledger : Type 0 where
  pub arities : List ℕ
  pub rows : List (List Production)
  pub root : Option ℕ
  pub sealed : Bool

abbrev pub blank_ledger : Ledger
blank_ledger = record { arities = []; rows = []; root = None; sealed = false }

-- what an open register takes: a form with its arity, a state, a row of a state, a strike of a state's row at a place, a root
pub data Entry : Type 0 where
  add_form : ℕ → Entry
  add_state : Entry
  add_row : ℕ → Production → Entry
  strike_row : ℕ → ℕ → Entry
  name_root : ℕ → Entry

-- the calls on a register; settle's argument is the meaning of the automaton that it writes
pub data Call : Type 0 where
  enter : Entry → Call
  settle : Meaning → Call
  seal : Call
  reopen : Call

-- a row of the arguments of a call
abbrev pub as_row : ℕ → ℕ → List ℕ → Production
as_row f p cs = record { form = f; points = p; children = cs }

abbrev pub every : {X : Type 0} → (X → Bool) → List X → Bool
every f [] = true
every f (x ∷ xs) = f x && every f xs

abbrev pub rows_at : Ledger → ℕ → List Production
rows_at l s = slice_index_or l.rows s []

-- the check of a list of rows to lend
abbrev pub lent_answer : ℕ → Result (Unit {0}) RegisterRefusal
lent_answer n = cond (nat_lt n 2048) (Err ShortList) (Ok tt)

-- the checks of a row, by the arities, the number of states and the number of rows that the state has
abbrev pub row_answer : List ℕ → ℕ → ℕ → ℕ → Production → Result ℕ RegisterRefusal
row_answer arities states used s p =
    cond (nat_le states s) (Err NoState)
    (cond (nat_le (length arities) p.form) (Err NoForm)
    (cond (nat_lt 1000 p.points) (Err HighPoints)
    (cond (length p.children == slice_index arities p.form)
    (cond (all_below states p.children) (cond (nat_le 32 used) (Err FullState) (Ok used)) (Err NoChild))
    (Err ChildCount))))

-- an entry's checks on an open ledger, and the number that it returns; a strike and a root have none, and 0 stands for it
abbrev pub entry_answer : Ledger → Entry → Result ℕ RegisterRefusal
entry_answer l (add_form a) = cond (nat_lt 4 a) (Err HighArity) (cond (nat_le 64 (length l.arities)) (Err FullForms) (Ok (length l.arities)))
entry_answer l add_state = cond (nat_le 64 (length l.rows)) (Err FullStates) (Ok (length l.rows))
entry_answer l (add_row s p) = row_answer l.arities (length l.rows) (length (rows_at l s)) s p
entry_answer l (strike_row s k) = cond (nat_le (length l.rows) s) (Err NoState) (cond (nat_le (length (rows_at l s)) k) (Err NoRow) (Ok 0))
entry_answer l (name_root s) = cond (nat_le (length l.rows) s) (Err NoState) (Ok 0)

-- the answer of an entry that returns no number
abbrev pub unnumbered : Result ℕ RegisterRefusal → Result (Unit {0}) RegisterRefusal
unnumbered (Ok n) = Ok tt
unnumbered (Err e) = Err e

abbrev pub with_rows : Ledger → List (List Production) → Ledger
with_rows l rs = record { arities = l.arities; rows = rs; root = l.root; sealed = l.sealed }

abbrev pub with_seal : Ledger → Bool → Ledger
with_seal l b = record { arities = l.arities; rows = l.rows; root = l.root; sealed = b }

-- what an entry that is not refused makes of the ledger
abbrev pub entered : Ledger → Entry → Ledger
entered l (add_form a) = record { arities = l.arities ++ a ∷ []; rows = l.rows; root = l.root; sealed = l.sealed }
entered l add_state = with_rows l (l.rows ++ [] ∷ [])
entered l (add_row s p) = with_rows l (slice_set l.rows s (rows_at l s ++ p ∷ []))
entered l (strike_row s k) = with_rows l (slice_set l.rows s (remove (rows_at l s) k))
entered l (name_root s) = record { arities = l.arities; rows = l.rows; root = Some s; sealed = l.sealed }

-- entries one after the other; a refused one changes nothing
abbrev pub entry_step : Ledger → Entry → Ledger
entry_step l e = cond (is_ok (entry_answer l e)) (entered l e) l

abbrev pub enter_all : Ledger → List Entry → Ledger
enter_all l [] = l
enter_all l (e ∷ es) = enter_all (entry_step l e) es

-- what settle enters: the reached states, then their rows in the order of places, then the root
abbrev pub row_entries : Meaning → ℕ → List Entry
row_entries m s = map (λ p. add_row (number m s) (renamed (number m) p)) (rows_of m s)

abbrev pub settle_entries : Meaning → List Entry
settle_entries m = map (λ _. add_state) (reached_states m) ++ (concat (map (row_entries m) (reached_states m)) ++ (name_root (number m m.root) ∷ []))

abbrev pub none_yet : {X : Type 0} → List X → Bool
none_yet [] = true
none_yet (x ∷ xs) = false

-- every row of every reached state
abbrev pub every_row : (Production → Bool) → Meaning → Bool
every_row f m = every (λ s. every f (rows_of m s)) (reached_states m)

-- a row's form is in the list with the row's arity
abbrev pub has_form : List ℕ → Production → Bool
has_form arities p = nat_lt p.form (length arities) && length p.children == slice_index arities p.form

-- settle's checks, each over all reached states and their rows before the next
abbrev pub settle_answer : Ledger → Meaning → Result (Unit {0}) SettleRefusal
settle_answer l m =
    cond (none_yet l.rows)
    (cond (nat_le (length (reached_states m)) 64)
    (cond (every (λ s. leb (length (rows_of m s)) 32) (reached_states m))
    (cond (every_row (has_form l.arities) m)
    (cond (every_row (λ p. leb p.points 1000) m) (Ok tt) (Err HighRow))
    (Err ForeignForm))
    (Err ManyRows))
    (Err ManyReached))
    (Err HasState)

abbrev pub root_named : Option ℕ → Result (Unit {0}) RegisterRefusal
root_named None = Err NoRoot
root_named (Some s) = Ok tt

abbrev pub seal_answer : Ledger → Result (Unit {0}) RegisterRefusal
seal_answer l = root_named l.root

-- whether a call is made and not refused: an open register meets all but reopen, a sealed one only that
abbrev pub open_accepts : Ledger → Call → Bool
open_accepts l (enter e) = is_ok (entry_answer l e)
open_accepts l (settle m) = is_ok (settle_answer l m)
open_accepts l seal = is_ok (seal_answer l)
open_accepts l reopen = false

abbrev pub sealed_accepts : Call → Bool
sealed_accepts (enter e) = false
sealed_accepts (settle m) = false
sealed_accepts seal = false
sealed_accepts reopen = true

unfoldable pub accepted : Ledger → Call → Bool
accepted l c = cond l.sealed (sealed_accepts c) (open_accepts l c)

-- what an accepted call makes of the ledger
abbrev pub done : Ledger → Call → Ledger
done l (enter e) = entered l e
done l (settle m) = enter_all l (settle_entries m)
done l seal = with_seal l true
done l reopen = with_seal l false

-- a call that is not accepted changes nothing
unfoldable pub step : Ledger → Call → Ledger
step l c = cond (accepted l c) (done l c) l

abbrev pub steps : Ledger → List Call → Ledger
steps l [] = l
steps l (c ∷ h) = steps (step l c) h

-- the ledger after a history, from a blank one
abbrev pub ledger : List Call → Ledger
ledger h = steps blank_ledger h

-- every history that leads to the one ledger leads with this call to the other
abbrev pub Follows : Ledger → Call → Ledger → Type 0
Follows before c after = (h : List Call) → ledger h ≡ before → after ≡ ledger (h ++ c ∷ [])

abbrev pub nth : {X : Type 0} → List X → ℕ → Option X
nth [] k = None
nth (x ∷ xs) zero = Some x
nth (x ∷ xs) (suc k) = nth xs k

abbrev pub or_zero : Option ℕ → ℕ
or_zero None = 0
or_zero (Some s) = s

-- the book over a ledger: 32 places, and place k of a state is that state's row k
abbrev pub book : Ledger → Meaning
book l = record { states = length l.rows; places = 32; root = or_zero l.root; row = λ s k. nth (rows_at l s) k }
