use Rattle.std.proofs.Common.{false, sym, subst}
use Rattle.ledger.specs.Ledger.{enter, strike_row}
use Rattle.ledger.specs.Layout.{laid_out, Good}
use Rattle.ledger.specs.Soundness.{good_from}
use Rattle.ledger.proofs.SaneRows.{sane_from}
use Rattle.ledger.proofs.Steps.{follows}
use Rattle.ledger.proofs.GoodLedgers.{step_good}
use Rattle.register.proofs.open.Open.strike.Goals as goal

pub take_row-requires : goal.take_row-requires
take_row-requires c = let v = c.args.self.now in sane_from v.rows.now v.table v.sane

pub invariant_of-self : goal.invariant_of-self
invariant_of-self c =
    let v = c.args.self.now in
    let l = laid_out v.rows.now v.table false in
    let d = c.take_row.ensures.steps in
    record { sane = ∣ c.take_row.ensures.sane ∣₁; good = ∣ subst Good (sym d) (step_good l (enter (strike_row c.args.state c.args.place)) (good_from l v.good)) ∣₁ }

pub returns : goal.returns
returns c =
    let v = c.args.self.now in
    let l = laid_out v.rows.now v.table false in
    let d = c.take_row.ensures.steps in
    record { answers = c.take_row.ensures.answers; steps = d; history = follows l _ (enter (strike_row c.args.state c.args.place)) d; same = c.take_row.ensures.same }
