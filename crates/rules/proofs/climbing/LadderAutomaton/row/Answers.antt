use Rattle.std.proofs.Common.{ℕ, ◌<◌, ◌≤◌, [], ◌∷◌, length, ap, arith}
use Rattle.tickets.specs.Checked.{arities_of}
use Rattle.rules.specs.Ladder.{level, ladder_has, ladder_to}
use Rattle.rules.proofs.Accepted.{level_has}
use Rattle.rules.proofs.Shown.{row_shown, arity_is}
use Rattle.rules.proofs.climbing.LadderAutomaton.row.Goals as goal
use Rattle.rules.proofs.climbing.LadderAutomaton.row.Goals.{else-level-gt0-via-then-level-gt0+else-level-state, else-level-gt0-via-else-level-gt0}

pub returns : goal.returns
returns c =
    let v = c.args.self.now in
    let k = c.args.place in
    let s = c.args.state in
    let inside : k < length (arities_of v.forms) = omega (arith, c.count.ensures) in
    let l = level v.levels.now k in
    let high : 1 ≤ l → s < l = elim c.else-level-gt0.branch [
      | else-level-gt0-via-then-level-gt0+else-level-state w ↦ λ h. w.if-level-state.false
      | else-level-gt0-via-else-level-gt0 w ↦ λ h. let z = w.if-level-gt0.false in omega arith
    ] in
    row_shown v.forms v.count (ladder_has v.levels.now) (ladder_to v.levels.now) s k _ _
    (arity_is v.forms k _ c.arity.result c.arity.ensures c.in_ok-arity.was inside)
    (ap (λ (x : ℕ). x ∷ x ∷ x ∷ x ∷ []) c.saturating_sub-child.ensures) c.if-state-self.false inside (level_has l s high)
