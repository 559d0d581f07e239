-- What the checked values stand for.
use Rattle.std.specs.Prelude.{ℕ, List}
use Rattle.tickets.specs.declared.forms.Forms.{Forms}
use Rattle.tickets.specs.declared.checked.CheckedTicket.{CheckedTicket}
use Rattle.tickets.specs.Ticket.{Ticket}
use Rattle.tickets.specs.Check.{tree}

-- the arity of each form of a list of forms
abbrev pub arities_of : Forms → List ℕ
arities_of f = f.arities.now

-- the node forms of a checked ticket, and the ticket
abbrev pub nodes_of : CheckedTicket → List ℕ
nodes_of t = t.nodes.now

abbrev pub ticket_of : CheckedTicket → Ticket
ticket_of t = tree (arities_of t.forms) (nodes_of t)
