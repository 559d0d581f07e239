use Rattle.std.proofs.Common.{get_or}
use Rattle.ledger.specs.Ledger.{add_form}
use Rattle.register.specs.Held.{held}
use Rattle.settle.proofs.EntriesMade.{entry_taken}
use Rattle.restrictions.proofs.Ruling.{forms_more, forms_end}
use Rattle.restrictions.proofs.rule_steps.enter_forms.Goals as goal

pub loop-arity-preserved : goal.loop-arity-preserved
loop-arity-preserved c =
    let xs = c.args.forms.now.arities.now in
    let i = c.loop-arity.arity-index in
    forms_more (held c.args.target.now) (held c.loop-arity.target) _ xs i c.loop-arity-test.true c.loop-arity.invariant
    (entry_taken c.loop-arity.target c.form.new.self (add_form (get_or xs i 0)) c.form.ensures.steps)

pub returns : goal.returns
returns c = forms_end (held c.args.target.now) (held c.loop-arity.target) c.args.forms.now.arities.now c.loop-arity.arity-index c.loop-arity-test.false c.loop-arity.invariant
