-- What a sheet enters into a register that is sealed.
use Rattle.std.specs.Prelude.{◌≡◌, ℕ, List, map, vec_items, Ok, Err, Result}
use Rattle.ledger.specs.Ledger.{Ledger, lent_answer, seal_answer, seal, step}
use Rattle.register.specs.Held.{held_sealed}
use Rattle.fields.specs.declared.fault.Fault.{Fault}
use Rattle.fields.specs.declared.fault.Stop.{Stop}
use Rattle.fields.specs.Fault.{bind}
use Rattle.entries.specs.AtLine.{at_register}
use Rattle.sheet.specs.declared.notes.Notes.{Notes}
use Rattle.sheet.specs.Entered.{Entered, nothing_entered}
use Rattle.sheet.specs.Held.{lists, barred}
use Rattle.sheet.specs.Lines.{sheet_entered}
use Rattle.verdicts.specs.Verdicts.{Stops}
use Rattle.reports.specs.declared.grammar.Grammar.{Grammar}

-- a list of n rows is lent and the sheet is read, and then it is sealed, at line 0
abbrev pub house_read : ℕ → List ℕ → Result Entered Fault
house_read n sheet =
    bind (at_register 0 (lent_answer n)) (λ _.
    bind (sheet_entered nothing_entered sheet) (λ e.
    bind (at_register 0 (seal_answer e.ledger)) (λ _. Ok e)))

-- the notes beside a ledger
abbrev pub noted : Notes → Ledger → Entered
noted n l = record {
  forms = lists n.forms;
  states = lists n.states;
  levels = vec_items n.levels;
  bars = map barred (vec_items n.bars);
  tickets = lists n.tickets;
  ledger = l;
}

-- the grammar has what was entered, with the ledger sealed, or the call stops
abbrev pub Reads : Result Entered Fault → Result Grammar Stop → Type 0
Reads a (Ok g) = (l : Ledger) × (a ≡ Ok (noted g.notes l)) × (held_sealed g.sealed ≡ step l seal)
Reads a (Err e) = Stops a e
