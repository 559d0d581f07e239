-- One restriction of a sealed register's grammar, settled into another register.
use Rattle.std.specs.Prelude.{◌≡◌, List, Ok, Err, Result}
use Rattle.refusals.specs.declared.refusal.Refusal.TheVariants.{Pile}
use Rattle.refusals.specs.declared.refusal.PileRefusal.{PileRefusal}
use Rattle.tickets.specs.Ticket.{Ticket}
use Rattle.automata.specs.Automaton.{Meaning}
use Rattle.automata.specs.Reading.{Reading}
use Rattle.automata.specs.Measure.{Ops}
use Rattle.automata.specs.Worth.{sum, reading_worth, worth}
use Rattle.ledger.specs.Ledger.{Ledger, Call, seal, step, ledger, book}
use Rattle.history.specs.Stands.{SoundCalls, ListsStanding}
use Rattle.product.specs.Product.{product, product_checked}
use Rattle.fields.specs.declared.fault.Stop.{Stop}
use Rattle.fields.specs.declared.fault.Stop.TheVariants.{Refused}
use Rattle.fields.specs.Fault.{of_refusal}
use Rattle.narrowing.specs.declared.narrowed.Narrowed.{Narrowed}
use Rattle.narrowing.specs.Narrows.{Narrows}

abbrev pub by_check : Result (Unit {0}) PileRefusal → Meaning → Ledger → Result Narrowed Stop → Ledger → Type 0
by_check (Ok _) m was r is = Narrows m was r is
by_check (Err e) m was r is = (r ≡ Err (Refused (of_refusal (Pile e) 0))) × (is ≡ was)

-- the book of the first ledger times the rule is narrowed into the target, unless the product is too large
abbrev pub Restricts : Ledger → Meaning → Ledger → Result Narrowed Stop → Ledger → Type 0
Restricts l rule was r is = by_check (product_checked (book l) rule) (product (book l) rule) was r is

-- after a restriction that is not refused, and a seal, every ticket's worth from the target's root is the sum over its readings by exactly the rows that stand in the first register, from its root, times its worth from the rule's root
abbrev pub RestrictsWorth : {M : Type 0} → Ops M → Ledger → Meaning → Result Narrowed Stop → Ledger → Type 0
RestrictsWorth o l rule (Err e) is = Unit {0}
RestrictsWorth o l rule (Ok n) is =
    (h : List Call) → SoundCalls h → ledger h ≡ l → (t : Ticket) (rs : List Reading) → ListsStanding h t (book l).root rs
    → worth o (book (step is seal)) (book (step is seal)).root t ≡ o.times (sum o (reading_worth o) rs) (worth o rule rule.root t)
