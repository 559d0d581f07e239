-- What narrowing a pile answers, and what it leaves of the target's ledger.
use Rattle.std.specs.Prelude.{◌≡◌, Bool, true, ◌↔◌, length, Ok, Err, Result, ◌≢◌}
use Rattle.refusals.specs.declared.refusal.Refusal.TheVariants.{Settle}
use Rattle.refusals.specs.declared.refusal.SettleRefusal.{SettleRefusal}
use Rattle.tickets.specs.Ticket.{Ticket}
use Rattle.automata.specs.Automaton.{Meaning}
use Rattle.automata.specs.Measures.{yes_no}
use Rattle.automata.specs.Worth.{worth}
use Rattle.ledger.specs.Reach.{reached_states}
use Rattle.ledger.specs.Ledger.{Ledger, settle, settle_answer, step}
use Rattle.fields.specs.declared.fault.Fault.{Fault}
use Rattle.fields.specs.declared.fault.Stop.{Stop}
use Rattle.fields.specs.declared.fault.Stop.TheVariants.{Refused, Memory}
use Rattle.fields.specs.Fault.{of_refusal}
use Rattle.settle.specs.declared.sizes.Size.{Size}
use Rattle.settle.specs.Sizes.{row_total}
use Rattle.narrowing.specs.declared.narrowed.Narrowed.{Narrowed}
use Rattle.narrowing.specs.Reduced.{Reduced}

-- true exactly where no ticket of any size is accepted from the root
abbrev pub BarrenTold : Meaning → Bool → Type 0
BarrenTold m b = b ≡ true ↔ ((t : Ticket) → (worth yes_no m m.root t).yes ≢ true)

-- how many states rows reach from the root, and how many rows those have
abbrev pub Sized : Size → Meaning → Type 0
Sized z m = (z.states ≡ length (reached_states m)) × (z.rows ≡ row_total m (reached_states m))

-- settle's refusal is of no line and no field
abbrev pub at_settle : Result (Unit {0}) SettleRefusal → Result (Unit {0}) Fault
at_settle (Ok _) = Ok tt
at_settle (Err e) = Err (of_refusal (Settle e) 0)

-- the pile is settled, or refused and the ledger left
abbrev pub Settles : Meaning → Ledger → Result (Unit {0}) Stop → Ledger → Type 0
Settles p was (Ok _) is = (settle_answer was p ≡ Ok tt) × (is ≡ step was (settle p))
Settles p was (Err (Refused f)) is = (at_settle (settle_answer was p) ≡ Err f) × (is ≡ was)
Settles p was (Err Memory) is = ⊥

-- what is told of a pile and of what trim and merge leave of it
pub record TellsSizes (m p : Meaning) (w : Reduced m p) (n : Narrowed) : Type 0 where
  pub whole : Sized n.whole m
  pub trimmed : Sized n.trimmed w.kept
  pub merged : Sized n.merged p
  pub barren : BarrenTold m n.barren

-- the pile, trimmed and merged, is settled; or it is refused, or memory is wanting, and the ledger is left
abbrev pub Narrows : Meaning → Ledger → Result Narrowed Stop → Ledger → Type 0
Narrows m was (Ok n) is = (p : Meaning) × (w : Reduced m p) × TellsSizes m p w n × (settle_answer was p ≡ Ok tt) × (is ≡ step was (settle p))
Narrows m was (Err (Refused f)) is = (p : Meaning) × Reduced m p × (at_settle (settle_answer was p) ≡ Err f) × (is ≡ was)
Narrows m was (Err Memory) is = is ≡ was
