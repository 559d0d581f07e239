use Rattle.std.proofs.Common.{map, vec_items}
use Rattle.std.proofs.lemmas.Result.{err_from_is_err_and}
use Rattle.register.specs.Held.{held_sealed}
use Rattle.listing.proofs.Read.{listed, not_listed}
use Rattle.listing.proofs.whole.listing.Goals as goal

pub returns-in_err-put_tickets : goal.returns-in_err-put_tickets
returns-in_err-put_tickets c =
    let p = err_from_is_err_and c.from_residual-in_err-put_tickets.result c.from_residual-in_err-put_tickets.ensures.1 in
    record { answers = rw (p.1, p.2) (not_listed (map vec_items c.args.names.now) (held_sealed c.args.sealed.now) (map vec_items c.args.tickets.now) _ c.in_err-put_tickets.ensures) }

pub returns : goal.returns
returns c =
    let put = c.in_ok-put_tickets.ensures in
    record { answers = listed (map vec_items c.args.names.now) (held_sealed c.args.sealed.now) (map vec_items c.args.tickets.now) _ _ _ _ _ c.new-out.ensures.items c.in_ok-put_counts.ensures c.in_ok-put_root.ensures c.in_ok-put_rows.ensures put.0 put.1 }
