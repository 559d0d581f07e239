use Rattle.std.proofs.Common.{sym}
use Rattle.ledger.specs.Layout.{laid_out}
use Rattle.ledger.proofs.SaneRows.{sane_from}
use Rattle.ledger.proofs.LaidOut.{states_held}
use Rattle.register.proofs.open.Open.states.Goals as goal

pub returns : goal.returns
unfolding laid_out
returns c = let v = c.args.self.now in sym (states_held v.rows.now v.table (sane_from v.rows.now v.table v.sane))
