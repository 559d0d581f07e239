-- What a call on the register from a line says of its ledger.
use Rattle.std.specs.Prelude.{◌≡◌, ℕ, ◌+◌, length, Ok, Err, Result}
use Rattle.ledger.specs.Ledger.{Ledger}
use Rattle.fields.specs.declared.fault.Fault.{Fault}

-- the entry is taken as s says, or refused as s says and leaves the ledger
abbrev pub Takes : Result Ledger Fault → Ledger → Result (Unit {0}) Fault → Ledger → Type 0
Takes s was (Ok _) is = s ≡ Ok is
Takes s was (Err f) is = (s ≡ Err f) × (is ≡ was)

-- the ledger has so many forms and states more, or as many where the entry is refused
abbrev pub Grows : ℕ → ℕ → Ledger → Result (Unit {0}) Fault → Ledger → Type 0
Grows f s was (Ok _) is = (length is.arities ≡ length was.arities + f) × (length is.rows ≡ length was.rows + s)
Grows f s was (Err e) is = (length is.arities ≡ length was.arities) × (length is.rows ≡ length was.rows)
