use Rattle.ledger.specs.Ledger.{add_form}
use Rattle.entries.proofs.Taking.{entered_at}
use Rattle.entries.proofs.entering.enter_form.Goals as goal

pub returns : goal.returns
returns c =
    let t = entered_at c.args.register.now _ c.args.line (add_form c.args.arity) c.at_line.result c.form.result c.form.ensures.answers c.form.ensures.steps c.at_line.ensures in
    record { takes = t.0; grows = t.1 }
