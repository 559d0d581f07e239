use Rattle.std.proofs.Common.{◌-◌}
use Rattle.layers.specs.Marks.{mark, marked}
use Rattle.layers.specs.Growth.{AllProductive}
use Rattle.layers.proofs.collected.Collected.productive.Given as goal

abbrev pub invariant-loop : goal.invariant-loop
invariant-loop g l = AllProductive (g.A.Automaton.meaning l.self.below.now) (mark l.marks)

abbrev pub decreases-loop : goal.decreases-loop
decreases-loop g l = 1024 - marked (mark l.marks) 1024
