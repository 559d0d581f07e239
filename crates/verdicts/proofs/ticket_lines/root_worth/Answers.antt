use Rattle.std.proofs.Common.{◌≡◌, ◌*◌, length, is_ok, ap, ◌∙◌, arith}
use Rattle.tickets.specs.Ticket.{postfix}
use Rattle.tickets.specs.Checked.{ticket_of}
use Rattle.ledger.specs.Ledger.{book}
use Rattle.register.specs.Held.{held_sealed}
use Rattle.verdicts.proofs.Read.{worth_given, few_nodes, few_states, root_within, few_cells}
use Rattle.verdicts.proofs.ticket_lines.root_worth.Goals as goal

pub overflow_mul-cells : goal.overflow_mul-cells
overflow_mul-cells g c =
    let t = c.args.ticket.now in
    let v = c.args.sealed.now in
    omega (arith, few_cells c.size.result c.states.result (omega (arith, few_nodes t, c.size.ensures)) (omega (arith, few_states v, c.states.ensures)))

pub unwrap-requires : goal.unwrap-requires
unwrap-requires g c =
    let v = c.args.sealed.now in
    let t = c.args.ticket.now in
    let cells : c.size.result * c.states.result ≡ length (postfix (ticket_of t)) * length (held_sealed v).rows = ap (λ n. n * c.states.result) c.size.ensures ∙ ap (λ n. length (postfix (ticket_of t)) * n) c.states.ensures in
    let room : length c.deref_mut.result.now ≡ c.size.result * c.states.result = c.deref_mut.ensures.len ∙ c.in_ok-scratch.ensures.len in
    ap is_ok (c.worth-answer.ensures.answers ∙ worth_given g.M.Measure.ops (book (held_sealed v)) (ticket_of c.args.ticket.now) _ _ (omega (arith, root_within v, c.root.ensures)) (omega (arith, cells, room)))
