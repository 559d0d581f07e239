use Rattle.layers.specs.Marks.{mark}
use Rattle.layers.proofs.Growing.{KeepRound}
use Rattle.layers.proofs.collected.Collected.keep_round.Given as goal

abbrev pub invariant-loop-state : goal.invariant-loop-state
invariant-loop-state g l = KeepRound (g.A.Automaton.meaning l.self.below.now) (g.A.Automaton.sound l.self.below.now) (mark l.productive) (mark l.initial.marks) (mark l.marks) l.added l.state
