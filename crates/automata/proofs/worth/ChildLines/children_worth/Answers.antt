use Rattle.std.proofs.Common.{ap, ◌∙◌, arith}
use Rattle.std.proofs.lemmas.List.{get_or_read}
use Rattle.automata.proofs.Cells.{left_cell, left_more}
use Rattle.automata.proofs.worth.ChildLines.children_worth.Goals as goal

pub offset_bounds-scratch-place : goal.offset_bounds-scratch-place
offset_bounds-scratch-place g c =
    let z = c.in-Some.ensures.steps in
    omega (arith, left_cell g.met.M.Measure.lawful _ _ _ _ _ _ _ _ _ _ z.0 z.1 c.loop-place.invariant.2)

pub bounds-scratch-place : goal.bounds-scratch-place
bounds-scratch-place g c =
    let z = c.in-Some.ensures.steps in
    left_cell g.met.M.Measure.lawful _ _ _ _ _ _ _ _ _ _ z.0 z.1 c.loop-place.invariant.2

pub loop-place-preserved : goal.loop-place-preserved
loop-place-preserved g c =
    let o = g.M.Measure.ops in
    let z = c.in-Some.ensures.steps in
    let h = c.loop-place.invariant.2 in
    let b = left_cell g.met.M.Measure.lawful _ _ _ _ _ _ _ _ _ _ z.0 z.1 h in
    let r = get_or_read _ _ c.index-scratch-place.result b c.index-scratch-place.is o.none in
    ((tt, tt), tt, left_more g.met.M.Measure.lawful _ _ _ _ _ _ _ _ _ _ _ z.0 z.1 h (c.times-product.ensures ∙ ap (o.times c.loop-place.product) r))
