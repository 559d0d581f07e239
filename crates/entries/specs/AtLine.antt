-- What a line's entries in the register and its checks answer: a refusal gets that line.
use Rattle.std.specs.Prelude.{ℕ, ◌+◌, Some, None, Ok, Err, Option, Result}
use Rattle.refusals.specs.declared.refusal.Refusal.TheVariants.{Register, Pile, Ticket}
use Rattle.refusals.specs.declared.refusal.RegisterRefusal.{RegisterRefusal}
use Rattle.refusals.specs.declared.refusal.PileRefusal.{PileRefusal}
use Rattle.refusals.specs.declared.refusal.TicketRefusal.{TicketRefusal}
use Rattle.refusals.specs.Refusal.{ticket_node}
use Rattle.ledger.specs.Ledger.{Ledger, Entry, enter, entry_answer, step}
use Rattle.fields.specs.declared.fault.Fault.{Fault}
use Rattle.fields.specs.Fault.{of_refusal, bind}

-- the register's refusal gets line l, and field 0
abbrev pub at_register : {X : Type 0} → ℕ → Result X RegisterRefusal → Result X Fault
at_register l (Ok x) = Ok x
at_register l (Err r) = Err (of_refusal (Register r) l)

-- an entry in the register, at line l
abbrev pub entering : ℕ → Ledger → Entry → Result Ledger Fault
entering l g e = bind (at_register l (entry_answer g e)) (λ _. Ok (step g (enter e)))

-- the bar's refusal gets line l, and field 0
abbrev pub at_bar : ℕ → Result (Unit {0}) PileRefusal → Result (Unit {0}) Fault
at_bar l (Ok x) = Ok x
at_bar l (Err r) = Err (of_refusal (Pile r) l)

-- the node at place p is field p + 2, after the kind
abbrev pub field_of_node : Option ℕ → ℕ
field_of_node None = 0
field_of_node (Some p) = p + 2

-- the ticket's refusal gets line l, and the field of its node, if it is of one
abbrev pub at_ticket : ℕ → Result (Unit {0}) TicketRefusal → Result (Unit {0}) Fault
at_ticket l (Ok x) = Ok x
at_ticket l (Err r) = Err (record { refusal = Ticket r; line = l; field = field_of_node (ticket_node r) })
