use Rattle.std.proofs.Common.{◌-◌}
use Rattle.layers.specs.Marks.{mark, marked}
use Rattle.settle.proofs.Spreading.{Reaching}
use Rattle.settle.proofs.Totals.{Tallied}
use Rattle.settle.proofs.reached.Reached.of.Given as goal

abbrev pub invariant-loop-state : goal.invariant-loop-state
invariant-loop-state g l =
    Tallied (g.A.Automaton.meaning l.pile) (g.A.Automaton.sound l.pile) (mark l.marks) (mark l.asked) l.rows
    × Reaching (g.A.Automaton.meaning l.pile) (g.A.Automaton.sound l.pile) (mark l.marks) (mark l.asked)

abbrev pub decreases-loop-state : goal.decreases-loop-state
decreases-loop-state g l = 1024 - marked (mark l.asked) 1024
