use Rattle.std.proofs.Common.{length, sym, ap}
use Rattle.tickets.proofs.Checks.{check_tree, ok_from}
use Rattle.tickets.proofs.checked.CheckedTicket.size.Goals as goal

pub returns : goal.returns
returns c =
    let t = c.args.self.now in
    sym (ap length (check_tree t.forms.arities.now t.nodes.now (ok_from _ t.whole)).1)
