use Rattle.std.proofs.Common.{◌≡◌, ℕ, true, List, [], map, Err, vec_items, sym, refl, ap, ◌∙◌, subst}
use Rattle.std.proofs.lemmas.Result.{err_from_is_err_and}
use Rattle.register.specs.declared.sealed.Sealed.{Sealed}
use Rattle.ledger.specs.Ledger.{Ledger, add_form, enter_all, blank_ledger}
use Rattle.ledger.specs.Layout.{laid_out, Good}
use Rattle.ledger.specs.Soundness.{good_from}
use Rattle.register.specs.Held.{held, held_sealed}
use Rattle.sheet.specs.Held.{lists}
use Rattle.restrictions.specs.Chain.{formed}
use Rattle.restrictions.specs.House.{Lists, Only, Returns}
use Rattle.restrictions.proofs.Chaining.{formed_from, pile_sound_of, no_rule_left, first_stops, first_goes_on, steps_seal}
use Rattle.restrictions.proofs.chain.+onward.Goals as goal

good_held : (v : Sealed) → Good (held_sealed v)
good_held v = good_from (held_sealed v) v.good

is_sealed : (v : Sealed) → (held_sealed v).sealed ≡ true
unfolding laid_out
is_sealed v = refl

-- the target has the forms of the current register, and nothing else
target_formed : (v : Sealed) (xs : List ℕ) (was blank : Ledger) → blank ≡ blank_ledger → xs ≡ (held_sealed v).arities → was ≡ enter_all blank (map add_form xs) → was ≡ formed (held_sealed v).arities
target_formed v xs was blank eb ex ew = ew ∙ ap (λ z. enter_all z (map add_form xs)) eb ∙ ap (λ z. enter_all blank_ledger (map add_form z)) ex ∙ formed_from (held_sealed v) (good_held v)

pub returns-in_default : goal.returns-in_default
returns-in_default t c =
    let n = c.args.notes.now in
    no_rule_left (vec_items n.levels) [] (lists n.forms) (lists n.tickets) (held_sealed c.args.current.now) c.args.rules.now _ _ c.listing.result
    c.in_default.ensures.cases (ap (map vec_items) c.deref.ensures.value) (ap (map vec_items) c.deref-in_default.ensures.value) c.listing.ensures.answers

pub returns-in_err-narrowed : goal.returns-in_err-narrowed
returns-in_err-narrowed t c =
    let e = err_from_is_err_and c.from_residual-in_err-narrowed.result c.from_residual-in_err-narrowed.ensures.1 in
    let n = c.args.notes.now in
    let v = c.args.current.now in
    let rules = c.args.rules.now in
    first_stops (vec_items n.levels) c.deref-2.result.now (lists n.forms) (lists n.tickets) (held_sealed v) rules (good_held v) (is_sealed v) c.in-Some.rule.now c.in-Some.rest.now c.in-Some.ensures.cases.0 c.deref-2.ensures.value
    (held c.enter_forms.new.target) (held c.by_rule.new.target) (target_formed v _ (held c.enter_forms.new.target) (held c.blank-target.result) c.blank-target.ensures.value c.forms.ensures c.enter_forms.ensures)
    c.in_err-narrowed.field-0.0 c.from_residual-in_err-narrowed.result (e.1 ∙ ap Err e.2) c.in_err-narrowed.ensures

pub returns-in_err-push : goal.returns-in_err-push
returns-in_err-push t c =
    let e = err_from_is_err_and c.from_residual-in_err-push.result c.from_residual-in_err-push.ensures.1 in
    let n = c.args.notes.now in
    subst (Returns (Only (Lists (vec_items n.levels) (held_sealed c.args.current.now) c.args.rules.now (lists n.forms) (lists n.tickets)))) (sym (e.1 ∙ ap Err e.2)) tt

pub seal-next-requires : goal.seal-next-requires
seal-next-requires t c =
    let v = c.args.current.now in
    steps_seal _ (held_sealed v) c.in_ok-narrowed.narrowed (held c.enter_forms.new.target) (held c.by_rule.new.target) (target_formed v _ (held c.enter_forms.new.target) (held c.blank-target.result) c.blank-target.ensures.value c.forms.ensures c.enter_forms.ensures)
    (pile_sound_of (held_sealed v) (good_held v) (is_sealed v) c.deref-2.result.now _) c.in_ok-narrowed.ensures

pub returns : goal.returns
returns t c =
    let n = c.args.notes.now in
    let v = c.args.current.now in
    let rules = c.args.rules.now in
    first_goes_on (vec_items n.levels) c.deref-2.result.now (lists n.forms) (lists n.tickets) (held_sealed v) rules (good_held v) (is_sealed v) c.in-Some.rule.now c.in-Some.rest.now c.in-Some.ensures.cases.0 c.deref-2.ensures.value
    (held c.enter_forms.new.target) (held c.by_rule.new.target) (target_formed v _ (held c.enter_forms.new.target) (held c.blank-target.result) c.blank-target.ensures.value c.forms.ensures c.enter_forms.ensures)
    c.in_ok-narrowed.narrowed (held_sealed c.seal-next.result) c.onward.result c.in_ok-narrowed.ensures c.seal-next.ensures.steps
    c.onward.ensures
