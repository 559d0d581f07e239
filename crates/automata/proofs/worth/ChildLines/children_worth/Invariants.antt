use Rattle.std.specs.Slice.Iter.{iter_rest}
use Rattle.std.specs.Iterator.Adapters.{zip_first, zip_second}
use Rattle.automata.specs.Table.{cells_worth}
use Rattle.automata.proofs.Cells.{Left}
use Rattle.automata.proofs.worth.ChildLines.children_worth.Given as goal

abbrev pub invariant-loop-place : goal.invariant-loop-place
invariant-loop-place g l =
    (goal.iterator-loop-place g).can_next l.place-iterator
    × (goal.iterator-loop-place g).is_finite l.place-iterator
    × Left g.met.M.Measure.lawful l.self.scratch.now l.self.states l.product (iter_rest (zip_first l.place-iterator)) (iter_rest (zip_second l.place-iterator)) (cells_worth g.M.Measure.ops l.self.scratch.now l.self.states l.self.places.now l.children)
