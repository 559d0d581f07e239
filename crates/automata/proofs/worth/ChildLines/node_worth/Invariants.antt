use Rattle.std.proofs.Common.{◌≡◌}
use Rattle.automata.specs.Reading.{upto}
use Rattle.automata.specs.Worth.{sum}
use Rattle.automata.specs.Table.{cells_row}
use Rattle.automata.proofs.worth.ChildLines.node_worth.Given as goal

abbrev pub invariant-loop-place : goal.invariant-loop-place
invariant-loop-place g l =
    (l.sum ≡ sum g.M.Measure.ops (λ k. cells_row g.M.Measure.ops l.self.scratch.now (g.A.Automaton.meaning l.automaton).states l.self.places.now l.form ((g.A.Automaton.meaning l.automaton).row l.state k)) (upto l.place))
    × (l.place-end ≡ (g.A.Automaton.meaning l.automaton).places)
