-- The rows accepted and not struck since, the readings by them, and what the ledger and the worth over a book say of them.
use Rattle.std.specs.Prelude.{◌≡◌, ℕ, suc, ◌<◌, ◌≤◌, true, false, ◌↔◌, List, [], ◌∷◌, ◌++◌, Some, Ok, Result}
use Rattle.std.specs.List.{AllByRecursion}
use Rattle.tickets.specs.Ticket.{Ticket, Tickets, node, nil, cons}
use Rattle.automata.specs.Automaton.{Meaning, Production, Sound}
use Rattle.automata.specs.Reading.{Reading, Readings, by, rnil, rcons, ListsOnce}
use Rattle.automata.specs.Measure.{Ops}
use Rattle.automata.specs.Worth.{sum, reading_worth, worth}
use Rattle.refusals.specs.declared.refusal.WorthRefusal.{WorthRefusal}
use Rattle.automata.specs.Rows.{renamed, rows_of}
use Rattle.ledger.specs.Reach.{Reaches, number}
use Rattle.ledger.specs.Ledger.{Ledger, Call, enter, add_row, strike_row, settle, seal, reopen, entry_answer, accepted, ledger, rows_at, nth, book}

-- settle's argument is the meaning of an automaton, which is sound
abbrev pub SoundCall : Call → Type 0
SoundCall (enter e) = Unit {0}
SoundCall (settle m) = Sound m
SoundCall seal = Unit {0}
SoundCall reopen = Unit {0}

abbrev pub SoundCalls : List Call → Type 0
SoundCalls h = AllByRecursion SoundCall h

-- a call that is no accepted strike of a row of that state
abbrev pub Leaves : List Call → Call → ℕ → Type 0
Leaves h c s = (j : ℕ) → c ≡ enter (strike_row s j) → accepted (ledger h) c ≡ false

-- after the history, the row stands at that place of that state
pub data Stands : List Call → ℕ → ℕ → Production → Type 0 where
  -- accepted by the last call
  taken : (h : List Call) (s k : ℕ) (p : Production) → accepted (ledger h) (enter (add_row s p)) ≡ true → entry_answer (ledger h) (add_row s p) ≡ Ok k → Stands (h ++ enter (add_row s p) ∷ []) s k p
  -- written by a settle
  settled : (h : List Call) (m : Meaning) (s k : ℕ) (p : Production) → Sound m → accepted (ledger h) (settle m) ≡ true → Reaches m s → nth (rows_of m s) k ≡ Some p
      → Stands (h ++ settle m ∷ []) (number m s) k (renamed (number m) p)
  -- left alone by the last call
  left : (h : List Call) (c : Call) (s k : ℕ) (p : Production) → Stands h s k p → Leaves h c s → Stands (h ++ c ∷ []) s k p
  -- before the place of a strike
  above : (h : List Call) (s j k : ℕ) (p : Production) → Stands h s k p → k < j → Stands (h ++ enter (strike_row s j) ∷ []) s k p
  -- moved down by a strike
  moved : (h : List Call) (s j k : ℕ) (p : Production) → accepted (ledger h) (enter (strike_row s j)) ≡ true → Stands h s (suc k) p → j ≤ k → Stands (h ++ enter (strike_row s j) ∷ []) s k p

-- a reading by given rows: at each node a row at a place of the node's state, with its form, and a reading of each child from the row's state for it
abbrev mutual
  pub ReadsBy : Ticket → (ℕ → ℕ → Production → Type 0) → ℕ → Reading → Type 0
  ReadsBy (node f ts) At q (by k p rs) = At q k p × (p.form ≡ f) × ReadsByAll ts At p.children rs

  pub ReadsByAll : Tickets → (ℕ → ℕ → Production → Type 0) → List ℕ → Readings → Type 0
  ReadsByAll nil At [] rnil = Unit {0}
  ReadsByAll nil At [] (rcons r rs) = ⊥
  ReadsByAll nil At (c ∷ cs) rs = ⊥
  ReadsByAll (cons t ts) At [] rs = ⊥
  ReadsByAll (cons t ts) At (c ∷ cs) rnil = ⊥
  ReadsByAll (cons t ts) At (c ∷ cs) (rcons r rs) = ReadsBy t At c r × ReadsByAll ts At cs rs

-- a list that has each reading from the state by rows that stand once, and nothing else
abbrev pub ListsStanding : List Call → Ticket → ℕ → List Reading → Type 0
ListsStanding h t q rs = ListsOnce (ReadsBy t (Stands h) q) rs

-- after every history of this ledger, it holds exactly the rows that stand
abbrev pub HoldsStanding : Ledger → Type 0
HoldsStanding l = (h : List Call) → SoundCalls h → ledger h ≡ l → (s k : ℕ) (p : Production) → nth (rows_at l s) k ≡ Some p ↔ Stands h s k p

-- after every history of this ledger, the worth over its book of every ticket from every state is the sum over the readings by exactly the rows that stand
abbrev pub SumsStanding : {M : Type 0} → Ops M → Ledger → Type 0
SumsStanding o l =
    (h : List Call) → SoundCalls h → ledger h ≡ l → (t : Ticket) (q : ℕ)
    → ((rs : List Reading) × ListsStanding h t q rs)
    × ((rs : List Reading) → ListsStanding h t q rs → worth o (book l) q t ≡ sum o (reading_worth o) rs)

-- an answer that is no refusal is that sum
abbrev pub AnswersStanding : {M : Type 0} → Ops M → Ledger → Ticket → ℕ → Result M WorthRefusal → Type 0
AnswersStanding {M} o l t q r = (w : M) → r ≡ Ok w → (h : List Call) → SoundCalls h → ledger h ≡ l → (rs : List Reading) → ListsStanding h t q rs → w ≡ sum o (reading_worth o) rs
