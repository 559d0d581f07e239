use Rattle.automata.specs.Automaton.{production}
use Rattle.layers.specs.Marks.{mark}
use Rattle.layers.proofs.Growing.{Keeping}
use Rattle.layers.proofs.marks.Marks.add_children.Given as goal

abbrev pub invariant-loop-child : goal.invariant-loop-child
invariant-loop-child l = Keeping (mark l.initial.self) (mark l.self) l.added (production l.fn.row).children l.child-index
