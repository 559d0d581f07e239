use Rattle.std.proofs.Common.{◌≡◌, ◌+◌, ◌++◌, map, drop, vec_items}
use Rattle.register.specs.Held.{held_sealed}
use Rattle.verdicts.specs.Verdicts.{tickets_pass, tickets_text}
use Rattle.verdicts.proofs.ticket_lines.put_tickets.Given as goal

abbrev pub invariant-loop-i : goal.invariant-loop-i
invariant-loop-i l =
    (tickets_pass (held_sealed l.sealed).arities (map vec_items l.tickets) ≡ tickets_pass (held_sealed l.sealed).arities (drop l.i (map vec_items l.tickets)))
    × (vec_items l.out ++ tickets_text (held_sealed l.sealed) (l.i + 1) (drop l.i (map vec_items l.tickets)) ≡ vec_items l.initial.out ++ tickets_text (held_sealed l.sealed) 1 (map vec_items l.tickets))
