use Rattle.std.proofs.Common.{◌≡◌}
use Rattle.layers.specs.Marks.{mark}
use Rattle.search.proofs.Searches.{Swept}
use Rattle.search.proofs.search.sweep.Given as goal

abbrev pub invariant-loop-state : goal.invariant-loop-state
invariant-loop-state g l =
    Swept (g.A.Automaton.meaning l.automaton) l.start l.before (mark l.marks) l.order.items l.state
    × (l.state-end ≡ (g.A.Automaton.meaning l.automaton).states)
