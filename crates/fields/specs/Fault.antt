-- Faults, and what a call that may stop says of the meaning of what it read.
use Rattle.std.specs.Prelude.{◌≡◌, ℕ, List, Ok, Err, vec_items, Result, Vec}
use Rattle.std.specs.Borrow.{Bor}
use Rattle.std.specs.declared.alloc.Global.{Global}
use Rattle.refusals.specs.declared.refusal.Refusal.{Refusal}
use Rattle.refusals.specs.declared.refusal.Refusal.TheVariants.{Sheet}
use Rattle.refusals.specs.declared.refusal.SheetRefusal.{SheetRefusal}
use Rattle.fields.specs.declared.fault.Fault.{Fault}
use Rattle.fields.specs.declared.fault.Stop.{Stop}
use Rattle.fields.specs.declared.fault.Stop.TheVariants.{Refused, Memory}

-- a refusal at a line, of no field
abbrev pub of_refusal : Refusal → ℕ → Fault
of_refusal r l = record { refusal = r; line = l; field = 0 }

-- the sheet's own refusal at line l and field k
abbrev pub of_field : SheetRefusal → ℕ → ℕ → Fault
of_field r l k = record { refusal = Sheet r; line = l; field = k }

-- a check, and what follows where it passes
abbrev pub bind : {X Y E : Type 0} → Result X E → (X → Result Y E) → Result Y E
bind (Ok x) f = f x
bind (Err e) f = Err e

-- the bytes that a returned reference points to
abbrev pub pointed : {E : Type 0} → Result (Bor (List ℕ)) E → Result (List ℕ) E
pointed (Ok x) = Ok x.now
pointed (Err e) = Err e

-- where s is what a call means, and `was` and `is` what it found and left: it leaves what s says, or is refused as s says and leaves what it found, as it does where memory is wanting
abbrev pub Steps : {K : Type 0} → Result K Fault → K → Result (Unit {0}) Stop → K → Type 0
Steps s was (Ok _) is = s ≡ Ok is
Steps s was (Err (Refused f)) is = (s ≡ Err f) × (is ≡ was)
Steps s was (Err Memory) is = is ≡ was

-- the same of a call over many lines, which keeps the entries of the lines before the one that stops it
abbrev pub Reaches : {K : Type 0} → Result K Fault → Result (Unit {0}) Stop → K → Type 0
Reaches s (Ok _) is = s ≡ Ok is
Reaches s (Err (Refused f)) is = s ≡ Err f
Reaches s (Err Memory) is = Unit {0}

-- a list is collected as s says, or the call is refused as s says
abbrev pub Collects : Result (List ℕ) Fault → Result (Vec ℕ Global) Stop → Type 0
Collects s (Ok v) = s ≡ Ok (vec_items v)
Collects s (Err (Refused f)) = s ≡ Err f
Collects s (Err Memory) = Unit {0}
