use Rattle.ledger.specs.Ledger.{add_state}
use Rattle.entries.proofs.Taking.{entered_at}
use Rattle.entries.proofs.entering.enter_state.Goals as goal

pub returns : goal.returns
returns c =
    let t = entered_at c.args.register.now _ c.args.line add_state c.at_line.result c.state.result c.state.ensures.answers c.state.ensures.steps c.at_line.ensures in
    record { takes = t.0; grows = t.1 }
