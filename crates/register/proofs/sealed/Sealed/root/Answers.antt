use Rattle.std.proofs.Common.{◌∙◌}
use Rattle.ledger.specs.Layout.{laid_out}
use Rattle.register.proofs.Entering.{or_zero_is}
use Rattle.register.proofs.sealed.Sealed.root.Goals as goal

pub returns : goal.returns
unfolding laid_out
returns c = let v = c.args.self.now in c.unwrap_or.ensures ∙ or_zero_is v.table.root
