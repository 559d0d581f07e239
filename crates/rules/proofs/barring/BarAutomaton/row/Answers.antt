use Rattle.std.proofs.Common.{◌≡◌, ◌<◌, length, arith, rules}
use Rattle.tickets.specs.Checked.{arities_of}
use Rattle.rules.specs.Bar.{bar_has, bar_to}
use Rattle.rules.proofs.Shown.{made, row_shown, arity_is, bar_state_has}
use Rattle.rules.proofs.barring.BarAutomaton.row.Goals as goal
use Rattle.rules.proofs.barring.BarAutomaton.row.Goals.{else-state-eq1-via-then-state-eq1+else-place-self, else-state-eq1-via-else-state-eq1}

pub returns : goal.returns
returns c =
    let v = c.args.self.now in
    let k = c.args.place in
    let s = c.args.state in
    let inside : k < length (arities_of v.forms) = omega (arith, c.count.ensures) in
    let free : s ≡ 1 → k ≡ v.nesting.inner → ⊥ = elim c.else-state-eq1.branch [
      | else-state-eq1-via-then-state-eq1+else-place-self w ↦ λ e f. w.if-place-self.false f
      | else-state-eq1-via-else-state-eq1 w ↦ λ e f. w.if-state-eq1.false e
    ] in
    row_shown v.forms 2 (bar_has v.nesting.inner) (bar_to v.nesting.outer v.nesting.position) s k _ _
    (arity_is v.forms k _ c.arity.result c.arity.ensures c.in_ok-arity.was inside)
    (made _ _ (bar_to v.nesting.outer v.nesting.position k) (λ i y q h. search rules) 4 _ c.from_fn.ensures.items)
    c.if-state-ge2.false inside (bar_state_has v.nesting.inner s k c.if-state-ge2.false free)
