-- What a register and the notes beside it hold of a sheet.
use Rattle.std.specs.Prelude.{ℕ, List, map, vec_items, Vec}
use Rattle.std.specs.declared.alloc.Global.{Global}
use Rattle.register.specs.Held.{held}
use Rattle.rules.specs.declared.bar.Nesting.{Nesting}
use Rattle.sheet.specs.declared.notes.Notes.{Notes}
use Rattle.sheet.specs.declared.reader.Reader.{Reader}
use Rattle.register.specs.declared.open.Open.{Open}
use Rattle.sheet.specs.Entered.{Entered, Barred}

abbrev pub lists : Vec (Vec ℕ Global) Global → List (List ℕ)
lists v = map vec_items (vec_items v)

abbrev pub barred : Nesting → Barred
barred b = record { outer = b.outer; position = b.position; inner = b.inner }

abbrev pub entered_by : Notes → Open → Entered
entered_by n o = record {
  forms = lists n.forms;
  states = lists n.states;
  levels = vec_items n.levels;
  bars = map barred (vec_items n.bars);
  tickets = lists n.tickets;
  ledger = held o;
}

abbrev pub entered : Reader → Entered
entered r = entered_by r.notes r.register
