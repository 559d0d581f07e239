use Rattle.std.proofs.Common.{◌≡◌, false, is_ok, sym, refl, ap, ◌∙◌}
use Rattle.ledger.specs.Ledger.{root_named, seal}
use Rattle.ledger.specs.Layout.{laid_out}
use Rattle.ledger.proofs.Steps.{follows, unsealed_step}
use Rattle.register.proofs.Entering.{named}
use Rattle.register.proofs.open.Open.can_seal.Goals as goal

pub returns : goal.returns
unfolding laid_out
returns c =
    let v = c.args.self.now in
    let l = laid_out v.rows.now v.table false in
    let a : c.ok_or.result ≡ root_named v.table.root = c.ok_or.ensures.value ∙ named v.table.root c.map.result c.map.ensures.variant in
    record { answers = a; history = λ x. follows l l seal (unsealed_step l refl (ap is_ok (sym a) ∙ x)) }
