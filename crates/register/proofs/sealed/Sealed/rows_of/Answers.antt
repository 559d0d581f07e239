use Rattle.std.proofs.Common.{ap, ◌∙◌}
use Rattle.std.specs.Option.{unwrap_or}
use Rattle.ledger.specs.Layout.{laid_out}
use Rattle.ledger.proofs.SaneRows.{sane_from}
use Rattle.register.proofs.Entering.{rows_counted}
use Rattle.register.proofs.sealed.Sealed.rows_of.Goals as goal

pub returns : goal.returns
unfolding laid_out
returns c =
    let v = c.args.self.now in
    c.unwrap_or.ensures ∙ ap (λ o. unwrap_or o 0) c.used.ensures ∙ rows_counted v.rows.now v.table c.args.state (sane_from v.rows.now v.table v.sane)
