use Rattle.std.proofs.Common.{◌≡◌, ◌++◌, List, ℕ, OnOk, vec_items, subst}
use Rattle.tickets.specs.Checked.{ticket_of}
use Rattle.register.specs.Held.{held_sealed}
use Rattle.verdicts.proofs.Read.{told}
use Rattle.verdicts.proofs.ticket_lines.put_checked.Goals as goal

pub returns : goal.returns
returns c =
    subst (λ (x : List ℕ). OnOk c.put_verdict.result (vec_items c.put_verdict.new.out ≡ vec_items c.args.out.now ++ x))
    (told (held_sealed c.args.sealed.now) c.args.number (ticket_of c.args.ticket.now) _ _ _ c.in_ok-yes.ensures c.in_ok-count.ensures c.in_ok-fewest.ensures)
    c.put_verdict.ensures
