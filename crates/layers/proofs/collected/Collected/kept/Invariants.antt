use Rattle.std.proofs.Common.{◌≡◌, ◌-◌, true}
use Rattle.layers.specs.Marks.{mark, marked}
use Rattle.layers.specs.Growth.{AllKept}
use Rattle.layers.proofs.collected.Collected.kept.Given as goal

abbrev pub invariant-loop : goal.invariant-loop
invariant-loop g l =
    AllKept (g.A.Automaton.meaning l.self.below.now) (mark l.marks)
    × (mark l.productive (g.A.Automaton.meaning l.self.below.now).root ≡ true → mark l.marks (g.A.Automaton.meaning l.self.below.now).root ≡ true)

abbrev pub decreases-loop : goal.decreases-loop
decreases-loop g l = 1024 - marked (mark l.marks) 1024
