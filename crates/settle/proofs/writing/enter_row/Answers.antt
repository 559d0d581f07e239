use Rattle.std.proofs.Common.{ap, ◌∙◌}
use Rattle.automata.specs.Automaton.{production}
use Rattle.register.specs.Held.{held}
use Rattle.ledger.specs.Ledger.{add_row, as_row, enter, step}
use Rattle.settle.proofs.EntriesMade.{entry_taken}
use Rattle.settle.proofs.writing.enter_row.Goals as goal

pub returns : goal.returns
returns c =
    let r = c.args.row in
    entry_taken c.args.target.now c.row.new.self (add_row c.args.state (production r))
    (c.row.ensures.steps ∙ ap (λ cs. step (held c.args.target.now) (enter (add_row c.args.state (as_row r.form r.points cs)))) c.children.ensures.value)
