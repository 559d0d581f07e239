use Rattle.std.proofs.Common.{true, sym, refl, subst}
use Rattle.ledger.specs.Ledger.{reopen}
use Rattle.ledger.specs.Layout.{laid_out, Good}
use Rattle.ledger.specs.Soundness.{good_from}
use Rattle.ledger.proofs.Steps.{follows}
use Rattle.ledger.proofs.GoodLedgers.{step_good}
use Rattle.register.proofs.Entering.{reopen_steps}
use Rattle.register.proofs.sealed.Sealed.reopen.Goals as goal

pub invariant_of-result : goal.invariant_of-result
invariant_of-result c =
    let v = c.args.self in
    let l = laid_out v.rows.now v.table true in
    record { sane = v.sane; good = ∣ subst Good (sym (reopen_steps v.rows.now v.table)) (step_good l reopen (good_from l v.good)) ∣₁ }

pub returns : goal.returns
returns c =
    let v = c.args.self in
    let d = reopen_steps v.rows.now v.table in
    record { steps = d; history = follows (laid_out v.rows.now v.table true) _ reopen d; same = refl }
