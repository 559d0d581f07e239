-- What the lines of a sheet have entered so far: names, levels, bars and tickets, and the register's ledger.
use Rattle.std.specs.Prelude.{ℕ, List, [], ◌∷◌, ◌++◌, slice_set}
use Rattle.ledger.specs.Ledger.{Ledger, blank_ledger}

-- the outer form, the position and the inner form of a bar
pub record Barred : Type 0 where
  pub outer : ℕ
  pub position : ℕ
  pub inner : ℕ

pub record Entered : Type 0 where
  -- the names of the forms and of the states, by number
  pub forms : List (List ℕ)
  pub states : List (List ℕ)
  -- the level of each form
  pub levels : List ℕ
  pub bars : List Barred
  -- the form numbers of each ticket
  pub tickets : List (List ℕ)
  pub ledger : Ledger

abbrev pub nothing_entered : Entered
nothing_entered = record { forms = []; states = []; levels = []; bars = []; tickets = []; ledger = blank_ledger }

-- a form of level 0 more
abbrev pub with_form : Entered → List ℕ → Ledger → Entered
with_form e n g = record { forms = e.forms ++ n ∷ []; states = e.states; levels = e.levels ++ 0 ∷ []; bars = e.bars; tickets = e.tickets; ledger = g }

abbrev pub with_state : Entered → List ℕ → Ledger → Entered
with_state e n g = record { forms = e.forms; states = e.states ++ n ∷ []; levels = e.levels; bars = e.bars; tickets = e.tickets; ledger = g }

abbrev pub with_ledger : Entered → Ledger → Entered
with_ledger e g = record { forms = e.forms; states = e.states; levels = e.levels; bars = e.bars; tickets = e.tickets; ledger = g }

abbrev pub with_level : Entered → ℕ → ℕ → Entered
with_level e f n = record { forms = e.forms; states = e.states; levels = slice_set e.levels f n; bars = e.bars; tickets = e.tickets; ledger = e.ledger }

abbrev pub with_bar : Entered → Barred → Entered
with_bar e b = record { forms = e.forms; states = e.states; levels = e.levels; bars = e.bars ++ b ∷ []; tickets = e.tickets; ledger = e.ledger }

abbrev pub with_ticket : Entered → List ℕ → Entered
with_ticket e ns = record { forms = e.forms; states = e.states; levels = e.levels; bars = e.bars; tickets = e.tickets ++ ns ∷ []; ledger = e.ledger }
