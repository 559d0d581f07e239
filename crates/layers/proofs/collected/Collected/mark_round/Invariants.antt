use Rattle.layers.specs.Marks.{mark}
use Rattle.layers.proofs.Growing.{Round}
use Rattle.layers.proofs.collected.Collected.mark_round.Given as goal

abbrev pub invariant-loop-state : goal.invariant-loop-state
invariant-loop-state g l = Round (g.A.Automaton.meaning l.self.below.now) (g.A.Automaton.sound l.self.below.now) (mark l.initial.marks) (mark l.marks) l.added l.state
