use Rattle.std.proofs.Common.{refl}
use Rattle.tickets.proofs.Checks.{check_tree, ok_from}
use Rattle.tickets.proofs.checked.CheckedTicket.new.Goals as goal

pub returns : goal.returns
returns c =
    let t = check_tree c.args.forms.arities.now c.args.nodes.now (ok_from _ c.requires) in
    record { forms = refl; nodes = refl; formed = t.0; spelled = t.1 }
