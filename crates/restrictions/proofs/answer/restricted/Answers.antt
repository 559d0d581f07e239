use Rattle.std.proofs.Common.{◌≡◌, map, Ok, Err, vec_items, ap, ◌∙◌, subst, ap₂}
use Rattle.std.proofs.lemmas.Result.{err_from_is_err_and}
use Rattle.register.specs.Held.{held_sealed}
use Rattle.sheet.specs.Held.{lists, barred}
use Rattle.restrictions.specs.Chain.{rules_of}
use Rattle.restrictions.specs.House.{Lists, Only}
use Rattle.restrictions.proofs.Chaining.{restricted_stops}
use Rattle.restrictions.proofs.answer.restricted.Goals as goal

pub returns-in_err-listing : goal.returns-in_err-listing
returns-in_err-listing c =
    let e = err_from_is_err_and c.from_residual-in_err-listing.result c.from_residual-in_err-listing.ensures.1 in
    let n = c.args.grammar.now.notes in
    let rules : c.deref-3.result.now ≡ rules_of (vec_items n.levels) (map barred (vec_items n.bars)) = c.deref-3.ensures.value ∙ c.in_ok-rules.ensures ∙ ap₂ (λ x y. rules_of x (map barred y)) c.deref.ensures.value c.deref-2.ensures.value in
    restricted_stops (vec_items n.levels) (held_sealed c.args.grammar.now.sealed) (map barred (vec_items n.bars)) (lists n.forms) (lists n.tickets) c.deref-3.result.now c.in_err-listing.field-0.0 c.from_residual-in_err-listing.result rules (e.1 ∙ ap Err e.2) c.in_err-listing.ensures

pub returns : goal.returns
returns c =
    let n = c.args.grammar.now.notes in
    let rules : c.deref-3.result.now ≡ rules_of (vec_items n.levels) (map barred (vec_items n.bars)) = c.deref-3.ensures.value ∙ c.in_ok-rules.ensures ∙ ap₂ (λ x y. rules_of x (map barred y)) c.deref.ensures.value c.deref-2.ensures.value in
    subst (λ z. Only (Lists (vec_items n.levels) (held_sealed c.args.grammar.now.sealed) z (lists n.forms) (lists n.tickets)) (Ok (vec_items c.in_ok-listing.listing))) rules c.in_ok-listing.ensures
