use Rattle.std.proofs.Common.{refl, subst}
use Rattle.ledger.specs.Ledger.{name_root, entry_answer}
use Rattle.register.specs.Held.{held}
use Rattle.entries.proofs.Taking.{AtLine, entered_at, numbered_at}
use Rattle.entries.proofs.entering.enter_root.Goals as goal

pub returns : goal.returns
returns c =
    let answer = entry_answer (held c.args.register.now) (name_root c.args.state) in
    let told = numbered_at c.args.line c.at_line.result answer (subst (AtLine c.args.line c.at_line.result) c.root.ensures.answers c.at_line.ensures) in
    let t = entered_at c.args.register.now _ c.args.line (name_root c.args.state) c.at_line.result answer refl c.root.ensures.steps told in
    record { takes = t.0; grows = t.1 }
