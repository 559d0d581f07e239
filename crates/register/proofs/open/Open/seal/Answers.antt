use Rattle.std.proofs.Common.{false, sym, refl, subst}
use Rattle.ledger.specs.Ledger.{seal}
use Rattle.ledger.specs.Layout.{laid_out, Good}
use Rattle.ledger.specs.Soundness.{good_from}
use Rattle.ledger.proofs.Steps.{follows}
use Rattle.ledger.proofs.GoodLedgers.{step_good}
use Rattle.register.proofs.Entering.{seal_steps}
use Rattle.register.proofs.open.Open.seal.Goals as goal

pub invariant_of-result : goal.invariant_of-result
invariant_of-result c =
    let v = c.args.self in
    let l = laid_out v.rows.now v.table false in
    record { sane = v.sane; good = ∣ subst Good (sym (seal_steps v.rows.now v.table c.requires)) (step_good l seal (good_from l v.good)) ∣₁ }

pub returns : goal.returns
returns c =
    let v = c.args.self in
    let d = seal_steps v.rows.now v.table c.requires in
    record { steps = d; history = follows (laid_out v.rows.now v.table false) _ seal d; same = refl }
