use Rattle.std.proofs.Common.{◌≡◌, ◌<◌, ◌∷◌, [], ◌++◌, length, take, sym, ap, ◌∙◌, subst, arith}
use Rattle.tickets.specs.Ticket.{Ticket, nil}
use Rattle.tickets.specs.Check.{forest, rest}
use Rattle.tickets.specs.Checked.{arities_of, nodes_of}
use Rattle.automata.specs.Table.{Line, prefix_tree}
use Rattle.automata.proofs.Cells.{line_end}
use Rattle.automata.proofs.Tables.{stage_spots, stage_more, taken, spots_lt, spots_lines, prefix_tree_at, lines_more}
use Rattle.automata.proofs.worth.fill.Goals as goal

pub fill_line-requires-clause-earlier : goal.fill_line-requires-clause-earlier
fill_line-requires-clause-earlier g c =
    let a = arities_of c.args.ticket.now.forms in
    let ns = nodes_of c.args.ticket.now in
    spots_lt a ns c.loop-place.place _ _ (stage_spots a ns c.loop-place.place c.len.result c.loop-place.roots.items c.deref.result.now c.len.ensures.value c.deref.ensures.0 c.loop-place.invariant.0)

pub loop-place-preserved : goal.loop-place-preserved
loop-place-preserved g c =
    let o = g.M.Measure.ops in
    let m = g.A.Automaton.meaning c.args.automaton.now in
    let a = arities_of c.args.ticket.now.forms in
    let ns = nodes_of c.args.ticket.now in
    let p = c.loop-place.place in
    let n = c.len.result in
    let inv = c.loop-place.invariant in
    let en : n ≡ length c.loop-place.roots.items = c.len.ensures.value in
    let l : p < length ns = c.loop-place-test.true in
    let s = stage_spots a ns p n c.loop-place.roots.items c.deref.result.now en c.deref.ensures.0 inv.0 in
    let T = forest a nil (take p ns) in
    let held = spots_lines a ns o m c.loop-place.scratch p inv.1 _ _ s in
    let here : Line o m c.fill_line.new.scratch p (prefix_tree a ns p) =
    subst (λ (t : Ticket). Line o m c.fill_line.new.scratch p t) (sym (prefix_tree_at a ns p n l (en ∙ inv.0.1))) (c.fill_line.ensures.fills (rest (taken a ns p n) T) held) in (
      stage_more a ns p n c.loop-place.roots.items c.push.new.self.items l en (c.push.ensures.items ∙ ap (λ ys. ys ++ p ∷ []) c.truncate.ensures.items) inv.0,
      lines_more a ns o m c.loop-place.scratch c.fill_line.new.scratch p inv.1 c.fill_line.ensures.before here,
      λ i h. c.fill_line.ensures.after i h ∙ inv.2 i (omega (arith, line_end p m.states)),
    )
