use Rattle.ledger.specs.Ledger.{add_row, as_row}
use Rattle.entries.proofs.Taking.{entered_at}
use Rattle.entries.proofs.entering.enter_row.Goals as goal

pub returns : goal.returns
returns c =
    let t = entered_at c.args.register.now _ c.args.line (add_row c.args.state (as_row c.args.form c.args.points c.args.children.now)) c.at_line.result c.row.result c.row.ensures.answers c.row.ensures.steps c.at_line.ensures in
    record { takes = t.0; grows = t.1 }
