use Rattle.std.proofs.Common.{◌∙◌}
use Rattle.automata.specs.Automaton.{production}
use Rattle.automata.proofs.Cells.{node_some, node_none}
use Rattle.automata.proofs.worth.ChildLines.node_worth.Goals as goal
use Rattle.automata.proofs.worth.ChildLines.node_worth.Goals.{in-Some, in_default}

pub loop-place-preserved : goal.loop-place-preserved
loop-place-preserved g c =
    let m = g.A.Automaton.meaning c.args.automaton.now in
    let l = g.met.M.Measure.lawful in
    let t = c.args.self.now in
    elim c.match-row.branch [
      | in-Some w ↦ (node_some l m t.scratch.now t.places.now c.args.form c.args.state c.loop-place.place t.states (production w.in-Some.row) c.loop-place.sum c.match-row.sum w.row_worth.result c.loop-place.invariant.0 w.in-Some.ensures c.requires w.row_worth.ensures (w.sum-is ∙ w.plus-sum.ensures), c.loop-place.invariant.1)
      | in_default w ↦ (node_none l m t.scratch.now t.places.now c.args.form c.args.state c.loop-place.place c.loop-place.sum c.match-row.sum c.loop-place.invariant.0 w.in_default.ensures w.sum-is, c.loop-place.invariant.1)
    ]
