-- What a sheet answers: the listing of the grammar that it enters, or its fault.
use Rattle.std.specs.Prelude.{ℕ, List, Result}
use Rattle.ledger.specs.Ledger.{lent_answer, seal_answer, seal, step}
use Rattle.fields.specs.declared.fault.Fault.{Fault}
use Rattle.fields.specs.declared.fault.Stop.{Stop}
use Rattle.fields.specs.Fault.{bind}
use Rattle.sheet.specs.Entered.{Entered, nothing_entered}
use Rattle.entries.specs.AtLine.{at_register}
use Rattle.sheet.specs.Lines.{sheet_entered}
use Rattle.listing.specs.Listing.{listing_answer, Answers}
use Rattle.reports.specs.declared.house.House.{House}
use Rattle.reports.specs.House.{listing_in}

-- the grammar that is entered is sealed, at line 0, and listed
abbrev pub entered_answer : Entered → Result (List ℕ) Fault
entered_answer e = bind (at_register 0 (seal_answer e.ledger)) (λ _. listing_answer e.forms (step e.ledger seal) e.tickets)

-- a list of n rows is lent, the sheet is read, and what it enters is answered
abbrev pub house_answer : ℕ → List ℕ → Result (List ℕ) Fault
house_answer n sheet = bind (at_register 0 (lent_answer n)) (λ _. bind (sheet_entered nothing_entered sheet) entered_answer)

-- the call returns these bytes, or stops with this fault, or for want of memory
abbrev pub Told : Result (List ℕ) Fault → Result House Stop → Type 0
Told a r = Answers a (listing_in r)
