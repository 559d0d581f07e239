use Rattle.std.proofs.Common.{◌≡◌, ◌++◌, map, drop, vec_items}
use Rattle.register.specs.Held.{held_sealed}
use Rattle.listing.specs.Listing.{rows_text}
use Rattle.listing.proofs.rows.put_rows.Given as goal

abbrev pub invariant-loop-state : goal.invariant-loop-state
invariant-loop-state l = vec_items l.out ++ rows_text (map vec_items l.names) l.state (drop l.state (held_sealed l.sealed).rows) ≡ vec_items l.initial.out ++ rows_text (map vec_items l.names) 0 (held_sealed l.sealed).rows
