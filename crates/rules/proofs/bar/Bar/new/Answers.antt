use Rattle.std.proofs.Common.{refl}
use Rattle.tickets.specs.Checked.{arities_of}
use Rattle.rules.proofs.Accepted.{bar_exact}
use Rattle.rules.proofs.bar.Bar.new.Goals as goal

pub returns : goal.returns
returns c = record { meaning = refl; accepts = bar_exact (arities_of c.args.forms) c.args.nesting.outer c.args.nesting.position c.args.nesting.inner }
