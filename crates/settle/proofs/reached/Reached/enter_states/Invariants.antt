use Rattle.std.proofs.Common.{◌≡◌, replicate}
use Rattle.ledger.specs.Ledger.{add_state, enter_all}
use Rattle.register.specs.Held.{held}
use Rattle.settle.proofs.reached.Reached.enter_states.Given as goal

abbrev pub invariant-loop : goal.invariant-loop
invariant-loop g l = held l.target ≡ enter_all (held l.initial.target) (replicate l.counter add_state)
