-- The bytes of the lines of tickets, read by the book over a sealed register.
use Rattle.std.specs.Prelude.{◌≡◌, ℕ, ◌+◌, Bool, cond, List, [], ◌∷◌, ◌++◌, Ok, Err, codes, Result}
use Rattle.refusals.specs.declared.refusal.TicketRefusal.{TicketRefusal}
use Rattle.refusals.specs.declared.refusal.Refusal.TheVariants.{Ticket as OfTicket}
use Rattle.tickets.specs.Ticket.{Ticket}
use Rattle.tickets.specs.Check.{ticket_checked, tree}
use Rattle.automata.specs.declared.yes_no.YesNo.{YesNo}
use Rattle.automata.specs.declared.reading_count.ReadingCount.{ReadingCount}
use Rattle.automata.specs.declared.fewest_points.FewestPoints.{FewestPoints}
use Rattle.automata.specs.Measures.{yes_no, reading_count, fewest_points}
use Rattle.automata.specs.Worth.{worth}
use Rattle.ledger.specs.Ledger.{Ledger, or_zero, book}
use Rattle.fields.specs.declared.fault.Fault.{Fault}
use Rattle.fields.specs.declared.fault.Stop.{Stop}
use Rattle.fields.specs.declared.fault.Stop.TheVariants.{Refused, Memory}
use Rattle.fields.specs.Fault.{of_refusal, bind}
use Rattle.text.specs.Text.{figure}

abbrev pub yes_word : Bool → List ℕ
yes_word b = cond b (codes "yes") (codes "no")

-- T (84), ticket number, yes or no, number of readings, fewest points
abbrev pub verdict_text : ℕ → YesNo → ReadingCount → FewestPoints → List ℕ
verdict_text k y c p = 84 ∷ (figure k ++ (9 ∷ yes_word y.yes ++ (figure c.count ++ (figure p.points ++ 10 ∷ []))))

-- the line of the k-th ticket, read at the root of the book
unfoldable pub ticket_text : Ledger → ℕ → Ticket → List ℕ
ticket_text l k t = verdict_text k (worth yes_no (book l) (or_zero l.root) t) (worth reading_count (book l) (or_zero l.root) t) (worth fewest_points (book l) (or_zero l.root) t)

-- the lines of tickets given by their nodes, the first of which is the k-th
abbrev pub tickets_text : Ledger → ℕ → List (List ℕ) → List ℕ
tickets_text l k [] = []
tickets_text l k (ns ∷ rest) = ticket_text l k (tree l.arities ns) ++ tickets_text l (k + 1) rest

-- a ticket that the forms refuse is a fault of no line and no field
abbrev pub no_fault : Result (Unit {0}) TicketRefusal → Result (Unit {0}) Fault
no_fault (Ok _) = Ok tt
no_fault (Err e) = Err (of_refusal (OfTicket e) 0)

abbrev pub ticket_passes : List ℕ → List ℕ → Result (Unit {0}) Fault
ticket_passes arities ns = no_fault (ticket_checked arities ns)

-- all tickets pass, or the first fault
abbrev pub tickets_pass : List ℕ → List (List ℕ) → Result (Unit {0}) Fault
tickets_pass arities [] = Ok tt
tickets_pass arities (ns ∷ rest) = bind (ticket_passes arities ns) (λ _. tickets_pass arities rest)

-- a call that stops: with the fault of an answer, or for want of memory, of which nothing is said
abbrev pub Stops : {X : Type 0} → Result X Fault → Stop → Type 0
Stops a (Refused f) = a ≡ Err f
Stops a Memory = Unit {0}

-- a call appends the text where the check passes, or stops
abbrev pub Puts : Result (Unit {0}) Fault → List ℕ → List ℕ → Result (Unit {0}) Stop → List ℕ → Type 0
Puts check text was (Ok _) is = (check ≡ Ok tt) × (is ≡ was ++ text)
Puts check text was (Err e) is = Stops check e
