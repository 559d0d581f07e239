use Rattle.std.proofs.Common.{◌≡◌, ◌-◌, ◌⊎◌, [], length}
use Rattle.layers.specs.Marks.{mark}
use Rattle.search.specs.Search.{Leaf}
use Rattle.search.specs.Sweep.{Listed}
use Rattle.search.proofs.search.search.Given as goal

abbrev pub invariant-loop-place : goal.invariant-loop-place
invariant-loop-place g l =
    Listed (g.A.Automaton.meaning l.automaton) l.start (mark l.marks) l.order.items
    × ((l.order.items ≡ []) ⊎ (Leaf (g.A.Automaton.meaning l.automaton) l.start → ⊥))
    × (l.lines ≡ l.initial.lines)

abbrev pub decreases-loop-place : goal.decreases-loop-place
decreases-loop-place g l = (g.A.Automaton.meaning l.automaton).states - length l.order.items
