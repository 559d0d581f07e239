use Rattle.std.proofs.Common.{false, sym, subst}
use Rattle.ledger.specs.Ledger.{enter, add_row, as_row}
use Rattle.ledger.specs.Layout.{laid_out, Good}
use Rattle.ledger.specs.Soundness.{good_from}
use Rattle.ledger.proofs.SaneRows.{sane_from}
use Rattle.ledger.proofs.Steps.{follows}
use Rattle.ledger.proofs.GoodLedgers.{step_good}
use Rattle.register.proofs.open.Open.row.Goals as goal

pub enter_row-requires : goal.enter_row-requires
enter_row-requires c = let v = c.args.self.now in sane_from v.rows.now v.table v.sane

pub invariant_of-self : goal.invariant_of-self
invariant_of-self c =
    let v = c.args.self.now in
    let l = laid_out v.rows.now v.table false in
    let d = c.enter_row.ensures.steps in
    record { sane = ∣ c.enter_row.ensures.sane ∣₁; good = ∣ subst Good (sym d) (step_good l (enter (add_row c.args.state (as_row c.args.form c.args.points c.args.children.now))) (good_from l v.good)) ∣₁ }

pub returns : goal.returns
returns c =
    let v = c.args.self.now in
    let l = laid_out v.rows.now v.table false in
    let d = c.enter_row.ensures.steps in
    record { answers = c.enter_row.ensures.answers; steps = d; history = follows l _ (enter (add_row c.args.state (as_row c.args.form c.args.points c.args.children.now))) d; same = c.enter_row.ensures.same }
