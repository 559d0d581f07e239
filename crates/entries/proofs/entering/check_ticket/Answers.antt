use Rattle.std.proofs.Common.{◌≡◌, ◌<◌, IfSome, Err, sym, ◌∙◌}
use Rattle.std.proofs.iter.Serving.{serving}
use Rattle.refusals.specs.declared.refusal.TicketRefusal.{TicketRefusal}
use Rattle.refusals.specs.Refusal.{ticket_node}
use Rattle.entries.proofs.Taking.{node_low}
use Rattle.entries.proofs.entering.check_ticket.Goals as goal

pub map_err-requires : goal.map_err-requires
map_err-requires c =
    let low : (e : TicketRefusal) → c.check.result ≡ Err e → IfSome (ticket_node e) (λ p. p < 256) = λ e is. node_low _ c.args.nodes.now e (sym c.check.ensures.answers ∙ is) in
    grind (serving, low)
