-- One rule's step in terms of what the target held and holds.
use Rattle.std.specs.Prelude.{◌≡◌, Ok, Err, Result}
use Rattle.automata.specs.Automaton.{Meaning}
use Rattle.ledger.specs.Ledger.{Ledger}
use Rattle.fields.specs.declared.fault.Fault.{Fault}
use Rattle.fields.specs.declared.fault.Stop.{Stop}
use Rattle.fields.specs.declared.fault.Stop.TheVariants.{Refused}
use Rattle.narrowing.specs.declared.narrowed.Narrowed.{Narrowed}
use Rattle.narrowing.specs.Narrows.{Narrows}

-- the pile is narrowed into the target, or there is none and the target is left
abbrev pub Stepped : Result Meaning Fault → Ledger → Result Narrowed Stop → Ledger → Type 0
Stepped (Ok m) was r is = Narrows m was r is
Stepped (Err f) was r is = (r ≡ Err (Refused f)) × (is ≡ was)
