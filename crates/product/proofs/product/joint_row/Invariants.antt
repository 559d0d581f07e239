use Rattle.std.proofs.Common.{◌≡◌, length}
use Rattle.automata.specs.Automaton.{production}
use Rattle.product.proofs.Pairs.{Paired}
use Rattle.product.proofs.product.joint_row.Given as goal

abbrev pub invariant-loop-i : goal.invariant-loop-i
invariant-loop-i l = Paired l.sizes.width l.sizes.states (production l.fn.first).children (production l.fn.second).children l.children (length l.yielded) × (length l.children ≡ 4)
