use Rattle.std.proofs.Common.{◌≡◌, get_or, sym, ap, ◌∙◌, arith}
use Rattle.register.specs.Held.{held}
use Rattle.ledger.specs.Reach.{reached}
use Rattle.ledger.specs.Ledger.{enter_all, row_entries}
use Rattle.settle.proofs.EntriesMade.{states_more, states_same, numbered_state}
use Rattle.settle.proofs.reached.Reached.enter_rows.Goals as goal
use Rattle.settle.proofs.reached.Reached.enter_rows.Goals.{then-has, else-has}

pub loop-state-preserved : goal.loop-state-preserved
loop-state-preserved g c =
    let m = g.A.Automaton.meaning c.args.self.now.pile.now in
    let sm = g.A.Automaton.sound c.args.self.now.pile.now in
    let old = held c.args.target.now in
    let s = c.loop-state.state in
    let k = held c.loop-state.target in
    let f = reached m in
    let marked : c.has.result ≡ f s = c.has.ensures ∙ c.args.self.now.exact s in
    elim c.if-has.branch [
      | then-has w ↦ states_more old f s k _ (row_entries m) c.loop-state.invariant (sym marked ∙ w.if-has.true)
          (ap held w.target-is ∙ w.enter_state_rows.ensures ∙ ap (enter_all k) (numbered_state m sm (λ x. get_or c.numbers-numbers.result x 0) c.numbers-numbers.ensures s (omega (arith, c.states-state-end.ensures, c.loop-state-test.true))))
      | else-has w ↦ states_same old f s k _ (row_entries m) c.loop-state.invariant (sym marked ∙ w.if-has.false) (ap held w.target-is)
    ]
