use Rattle.std.proofs.Common.{sym, ap, ◌∙◌, arith}
use Rattle.automata.specs.Automaton.{shown}
use Rattle.ledger.specs.Layout.{laid_out}
use Rattle.ledger.proofs.SaneRows.{sane_from}
use Rattle.ledger.proofs.Taken.{missing}
use Rattle.ledger.proofs.LaidOut.{row_at_held, no_row_held}
use Rattle.register.proofs.Entering.{used_found}
use Rattle.register.proofs.reading.BookAutomaton.row.Goals as goal

pub returns-in_err-used : goal.returns-in_err-used
unfolding laid_out
returns-in_err-used c =
    let v = c.args.self.now in
    let h = sane_from v.rows.now v.table v.sane in
    let m = missing v.table.states v.table.counts c.args.state (omega (arith, h.states, h.counts_long)) (sym c.used.ensures ∙ c.in_err-used.was) in
    ap shown c.from_residual.ensures ∙ no_row_held v.rows.now v.table c.args.state c.args.place h (λ l. omega arith)

pub returns-then-place-used : goal.returns-then-place-used
unfolding laid_out
returns-then-place-used c =
    let v = c.args.self.now in
    let f = used_found v.rows.now v.table c.args.state _ (sane_from v.rows.now v.table v.sane) (sym c.used.ensures ∙ c.in_ok-used.was) in
    no_row_held v.rows.now v.table c.args.state c.args.place (sane_from v.rows.now v.table v.sane) (λ l. omega arith)

pub overflow_mul-result : goal.overflow_mul-result
overflow_mul-result c =
    let v = c.args.self.now in
    let f = used_found v.rows.now v.table c.args.state _ (sane_from v.rows.now v.table v.sane) (sym c.used.ensures ∙ c.in_ok-used.was) in
    omega arith

pub overflow_add-result : goal.overflow_add-result
overflow_add-result c =
    let v = c.args.self.now in
    let f = used_found v.rows.now v.table c.args.state _ (sane_from v.rows.now v.table v.sane) (sym c.used.ensures ∙ c.in_ok-used.was) in
    omega arith

pub offset_bounds-self-state : goal.offset_bounds-self-state
offset_bounds-self-state c =
    let v = c.args.self.now in
    let f = used_found v.rows.now v.table c.args.state _ (sane_from v.rows.now v.table v.sane) (sym c.used.ensures ∙ c.in_ok-used.was) in
    omega arith

pub bounds-self-state : goal.bounds-self-state
bounds-self-state c =
    let v = c.args.self.now in
    let f = used_found v.rows.now v.table c.args.state _ (sane_from v.rows.now v.table v.sane) (sym c.used.ensures ∙ c.in_ok-used.was) in
    omega arith

pub returns : goal.returns
unfolding laid_out
returns c =
    let v = c.args.self.now in
    let f = used_found v.rows.now v.table c.args.state _ (sane_from v.rows.now v.table v.sane) (sym c.used.ensures ∙ c.in_ok-used.was) in
    row_at_held v.rows.now v.table c.args.state c.args.place _ (sane_from v.rows.now v.table v.sane) f.0 (omega arith)
