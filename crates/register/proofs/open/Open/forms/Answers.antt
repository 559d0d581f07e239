use Rattle.std.proofs.Common.{false}
use Rattle.ledger.specs.Layout.{laid_out}
use Rattle.ledger.specs.Soundness.{good_from}
use Rattle.register.proofs.open.Open.forms.Goals as goal

pub form_list-requires-clause-checked : goal.form_list-requires-clause-checked
unfolding laid_out
form_list-requires-clause-checked c = let v = c.args.self.now in (good_from (laid_out v.rows.now v.table false) v.good).arities

pub returns : goal.returns
unfolding laid_out
returns c = c.form_list.ensures
