-- The answer to a sheet, from what is read of it.
use Rattle.std.proofs.Common.{◌≡◌, ℕ, List, Ok, Err, Result, sym, refl, ap, ◌∙◌}
use Rattle.ledger.specs.Ledger.{lent_answer, seal_answer, seal, step}
use Rattle.register.specs.Held.{held_sealed}
use Rattle.fields.specs.declared.fault.Fault.{Fault}
use Rattle.fields.specs.declared.fault.Stop.{Stop}
use Rattle.fields.specs.declared.fault.Stop.TheVariants.{Refused, Memory}
use Rattle.fields.specs.Fault.{bind}
use Rattle.sheet.specs.Entered.{Entered, nothing_entered}
use Rattle.entries.specs.AtLine.{at_register}
use Rattle.sheet.specs.Held.{lists}
use Rattle.sheet.specs.Lines.{sheet_entered}
use Rattle.verdicts.specs.Verdicts.{Stops}
use Rattle.listing.specs.Listing.{listing_answer}
use Rattle.reports.specs.declared.grammar.Grammar.{Grammar}
use Rattle.reports.specs.Grammar.{house_read, Reads}
use Rattle.house.specs.House.{entered_answer, house_answer}

abbrev list_of : Entered → Result (List ℕ) Fault
list_of e = listing_answer e.forms (step e.ledger seal) e.tickets

sealed_first : (e : Entered) (r : Result (Unit {0}) Fault) → bind r (λ _. list_of e) ≡ bind (bind r (λ _. Ok e)) list_of
sealed_first e (Ok _) = refl
sealed_first e (Err f) = refl

read_first : (r : Result Entered Fault) → bind r entered_answer ≡ bind (bind r (λ e. bind (at_register 0 (seal_answer e.ledger)) (λ _. Ok e))) list_of
read_first (Ok e) = sealed_first e (at_register 0 (seal_answer e.ledger))
read_first (Err f) = refl

lent_first : (a : Result (Unit {0}) Fault) (r : Result Entered Fault) → bind a (λ _. bind r entered_answer) ≡ bind (bind a (λ _. bind r (λ e. bind (at_register 0 (seal_answer e.ledger)) (λ _. Ok e)))) list_of
lent_first (Ok _) r = read_first r
lent_first (Err f) r = refl

module _ (n : ℕ) (sheet : List ℕ) where
  answers : house_answer n sheet ≡ bind (house_read n sheet) list_of
  answers = lent_first (at_register 0 (lent_answer n)) (sheet_entered nothing_entered sheet)

  pub not_read : (e : Stop) → Stops (house_read n sheet) e → Stops (house_answer n sheet) e
  not_read (Refused f) h = answers ∙ ap (λ r. bind r list_of) h
  not_read Memory h = tt

  pub when_read : (g : Grammar) → Reads (house_read n sheet) (Ok g) → house_answer n sheet ≡ listing_answer (lists g.notes.forms) (held_sealed g.sealed) (lists g.notes.tickets)
  when_read g h = answers ∙ ap (λ r. bind r list_of) h.1 ∙ ap (λ l. listing_answer (lists g.notes.forms) l (lists g.notes.tickets)) (sym h.2)
