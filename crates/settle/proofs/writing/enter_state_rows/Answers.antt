use Rattle.std.proofs.Common.{ℕ, get_or, sym, ap, ◌∙◌}
use Rattle.automata.specs.Automaton.{production}
use Rattle.register.specs.Held.{held}
use Rattle.ledger.specs.Ledger.{add_row, entry_step}
use Rattle.settle.proofs.EntriesMade.{row_more, row_same}
use Rattle.settle.proofs.writing.enter_state_rows.Goals as goal
use Rattle.settle.proofs.writing.enter_state_rows.Goals.{in-Some, in_default}

pub loop-place-preserved : goal.loop-place-preserved
loop-place-preserved g c =
    let m = g.A.Automaton.meaning c.args.pile.now in
    let n : ℕ → ℕ = λ x. get_or c.args.numbers.now x 0 in
    let old = held c.args.target.now in
    elim c.match-row.branch [
      | in-Some w ↦ row_more old m n c.args.state c.loop-place.place (held c.loop-place.target) _ c.loop-place.invariant (production w.in-Some.row) (sym w.in-Some.ensures)
          (ap held w.target-is ∙ w.enter_row.ensures ∙ ap (λ p. entry_step (held c.loop-place.target) (add_row (n c.args.state) p)) w.renamed.ensures)
      | in_default w ↦ row_same old m n c.args.state c.loop-place.place (held c.loop-place.target) _ c.loop-place.invariant (sym w.in_default.ensures) (ap held w.target-is)
    ]
