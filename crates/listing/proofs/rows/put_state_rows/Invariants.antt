use Rattle.std.proofs.Common.{◌≡◌, ◌++◌, map, drop, vec_items}
use Rattle.ledger.specs.Ledger.{rows_at}
use Rattle.register.specs.Held.{held_sealed}
use Rattle.listing.specs.Listing.{state_text}
use Rattle.listing.proofs.rows.put_state_rows.Given as goal

abbrev pub invariant-loop-place : goal.invariant-loop-place
invariant-loop-place l = vec_items l.out ++ state_text (map vec_items l.names) l.state (drop l.place (rows_at (held_sealed l.sealed) l.state)) ≡ vec_items l.initial.out ++ state_text (map vec_items l.names) l.state (rows_at (held_sealed l.sealed) l.state)
