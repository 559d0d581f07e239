-- The bytes of a listing: of what a sealed register holds, and of tickets read by its book. Tabs (9) part the fields, and LF (10) ends each line.
use Rattle.std.specs.Prelude.{◌≡◌, ℕ, ◌+◌, List, [], ◌∷◌, ◌++◌, length, Ok, Err, vec_items, Result, Vec}
use Rattle.std.specs.declared.alloc.Global.{Global}
use Rattle.automata.specs.Automaton.{Production}
use Rattle.ledger.specs.Ledger.{Ledger, or_zero}
use Rattle.fields.specs.declared.fault.Fault.{Fault}
use Rattle.fields.specs.declared.fault.Stop.{Stop}
use Rattle.fields.specs.Fault.{bind}
use Rattle.text.specs.Text.{figure, row_text}
use Rattle.verdicts.specs.Verdicts.{tickets_text, tickets_pass, Stops}

-- the rows of state s, by place
abbrev pub state_text : List (List ℕ) → ℕ → List Production → List ℕ
state_text names s [] = []
state_text names s (p ∷ ps) = row_text names s p ++ state_text names s ps

-- the rows of all states, the first of which is s
abbrev pub rows_text : List (List ℕ) → ℕ → List (List Production) → List ℕ
rows_text names s [] = []
rows_text names s (ps ∷ rest) = state_text names s ps ++ rows_text names (s + 1) rest

abbrev pub row_count : List (List Production) → ℕ
row_count [] = 0
row_count (ps ∷ rest) = length ps + row_count rest

-- N (78), number of states, number of rows
abbrev pub counts_text : Ledger → List ℕ
counts_text l = 78 ∷ (figure (length l.rows) ++ (figure (row_count l.rows) ++ 10 ∷ []))

-- G (71), root
abbrev pub root_text : Ledger → List ℕ
root_text l = 71 ∷ (figure (or_zero l.root) ++ 10 ∷ [])

-- form names, ledger, nodes of the tickets
abbrev pub listing_text : List (List ℕ) → Ledger → List (List ℕ) → List ℕ
listing_text names l tickets = counts_text l ++ (root_text l ++ (rows_text names 0 l.rows ++ tickets_text l 1 tickets))

-- what a listing answers: its bytes, or the fault of the first refused ticket
abbrev pub listing_answer : List (List ℕ) → Ledger → List (List ℕ) → Result (List ℕ) Fault
listing_answer names l tickets = bind (tickets_pass l.arities tickets) (λ _. Ok (listing_text names l tickets))

-- a call returns the bytes of an answer, or stops
abbrev pub Answers : Result (List ℕ) Fault → Result (Vec ℕ Global) Stop → Type 0
Answers a (Ok v) = a ≡ Ok (vec_items v)
Answers a (Err e) = Stops a e
