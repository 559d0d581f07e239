use Rattle.std.proofs.Common.{◌≡◌, ℕ, ◌<◌, ◌≤◌, length, get_or}
use Rattle.ledger.specs.Reach.{number}
use Rattle.settle.proofs.reached.Reached.numbers.Given as goal

abbrev pub invariant-loop-state : goal.invariant-loop-state
invariant-loop-state g l =
    let m = g.A.Automaton.meaning l.self.pile.now in
    (l.count ≡ number m l.state)
    × (l.count ≤ l.state)
    × (length l.number-items ≡ 1024)
    × ((s : ℕ) → s < l.state → get_or l.number-items s 0 ≡ number m s)
