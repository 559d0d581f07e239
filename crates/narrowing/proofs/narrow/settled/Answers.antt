use Rattle.std.proofs.Common.{◌≡◌, Err, sym, ap, ◌∙◌, subst, rules}
use Rattle.std.proofs.lemmas.Result.{err_from_is_err_and}
use Rattle.register.specs.Held.{held}
use Rattle.narrowing.specs.Narrows.{Settles, at_settle}
use Rattle.narrowing.proofs.Reductions.{settle_stopped}
use Rattle.narrowing.proofs.narrow.settled.Goals as goal

pub returns-in_err-map_err-clause-settles : goal.returns-in_err-map_err-clause-settles
returns-in_err-map_err-clause-settles g c =
    let m = g.A.Automaton.meaning c.args.pile.now in
    let is = held c.settle.new.target in
    let told : at_settle c.settle.result ≡ Err c.in_err-map_err.field-0.0 = search rules in
    let e = err_from_is_err_and c.from_residual.result c.from_residual.ensures.1 in
    subst (λ r. Settles m (held c.args.target.now) r is) (sym (e.1 ∙ ap Err e.2)) (settle_stopped c.args.target.now m is c.settle.result c.in_err-map_err.field-0.0 c.settle.ensures.answers told c.settle.ensures.steps)
