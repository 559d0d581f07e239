use Rattle.std.proofs.Common.{length, sym, subst}
use Rattle.ledger.specs.Layout.{Good}
use Rattle.ledger.proofs.GoodLedgers.{blank_good}
use Rattle.register.proofs.Entering.{blank_held, blank_sane, long_enough}
use Rattle.register.proofs.open.Open.blank.Goals as goal

pub invariant_of-result : goal.invariant_of-result
invariant_of-result c =
    let t = c.default.result in
    let e = c.default.ensures in
    let rs = c.args.rows.now in
    record { sane = ∣ blank_sane rs t (long_enough (length rs) c.requires) e.0 e.1.0 e.1.1.0 e.1.1.1.0 ∣₁; good = ∣ subst Good (sym (blank_held rs t e.0 e.1.1.0 e.1.1.1.1)) blank_good ∣₁ }

pub returns-clause-value : goal.returns-clause-value
returns-clause-value c = let e = c.default.ensures in blank_held c.args.rows.now c.default.result e.0 e.1.1.0 e.1.1.1.1
