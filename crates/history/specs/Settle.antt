-- What settle leaves of worth, and of the ledger.
use Rattle.std.specs.Prelude.{◌≡◌, true, map, is_ok, Some}
use Rattle.tickets.specs.Ticket.{Ticket}
use Rattle.automata.specs.Automaton.{Meaning, Sound}
use Rattle.automata.specs.Measure.{Ops}
use Rattle.automata.specs.Worth.{worth}
use Rattle.automata.specs.Rows.{renamed, rows_of}
use Rattle.ledger.specs.Reach.{reached_states, number}
use Rattle.ledger.specs.Ledger.{Ledger, enter, settle, seal, settle_answer, settle_entries, enter_all, accepted, step, steps, book}

-- the ledger after settle: the reached states with their rows, renumbered, and the root
abbrev pub settled_ledger : Ledger → Meaning → Ledger
settled_ledger l m = record { arities = l.arities; rows = map (λ s. map (renamed (number m)) (rows_of m s)) (reached_states m); root = Some (number m m.root); sealed = l.sealed }

-- none of settle's entries is refused after its checks
abbrev pub SettleEnters : Type 0
SettleEnters = (l : Ledger) (m : Meaning) → Sound m → is_ok (settle_answer l m) ≡ true → enter_all l (settle_entries m) ≡ settled_ledger l m

-- a settle not refused is the run of its entries, each by its own call
abbrev pub SettleAsCalls : Type 0
SettleAsCalls = (l : Ledger) (m : Meaning) → accepted l (settle m) ≡ true → step l (settle m) ≡ steps l (map enter (settle_entries m))

-- after a settle not refused and a seal, the worth of every ticket from the target's root is that from the automaton's root
abbrev pub SettlePreserves : {M : Type 0} → Ops M → Type 0
SettlePreserves o =
    (l : Ledger) (m : Meaning) → Sound m → accepted l (settle m) ≡ true → (t : Ticket)
    → worth o (book (step (step l (settle m)) seal)) (book (step (step l (settle m)) seal)).root t ≡ worth o m m.root t
