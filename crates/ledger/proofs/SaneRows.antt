-- The facts of the rows and the table are one proposition.
use Rattle.std.proofs.Common.{List}
use mathlib.Core.Logic.{∥∥₁_elim}
use mathlib.Core.HLevel.{Π_prop}
use native.Mathlib.Nat.{ℕ_set}
use native.Mathlib.Bridge.{le_prop}
use Rattle.automata.specs.declared.row.Row.{Row}
use Rattle.ledger.specs.declared.table.Table.{Table}
use Rattle.ledger.specs.Layout.{Sane}

sane_prop : (rs : List Row) (t : Table) → IsProp (Sane rs t)
sane_prop rs t x y = λ i. record {
  long = le_prop x.long y.long i;
  arities_long = ℕ_set _ _ x.arities_long y.arities_long i;
  counts_long = ℕ_set _ _ x.counts_long y.counts_long i;
  forms = le_prop x.forms y.forms i;
  states = le_prop x.states y.states i;
  arities = Π_prop (λ k. Π_prop (λ h. le_prop)) x.arities y.arities i;
  counts = Π_prop (λ k. Π_prop (λ h. le_prop)) x.counts y.counts i;
}

pub sane_from : (rs : List Row) (t : Table) → ∥ Sane rs t ∥₁ → Sane rs t
sane_from rs t h = ∥∥₁_elim h (sane_prop rs t) (λ x. x)
