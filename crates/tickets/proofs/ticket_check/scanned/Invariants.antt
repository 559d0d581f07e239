use Rattle.std.proofs.Common.{◌≡◌, ◌≤◌, drop}
use Rattle.tickets.specs.Check.{scan}
use Rattle.tickets.proofs.ticket_check.scanned.Given as goal

abbrev pub invariant-loop-place : goal.invariant-loop-place
invariant-loop-place l = (scan l.arities l.place l.trees (drop l.place l.nodes) ≡ scan l.arities 0 0 l.nodes) × (l.trees ≤ l.place)
