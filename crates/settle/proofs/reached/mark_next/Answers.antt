use Rattle.std.proofs.Common.{◌+◌, sym, subst}
use Rattle.automata.specs.Automaton.{production}
use Rattle.layers.specs.Marks.{mark}
use Rattle.layers.proofs.Readiness.{row_within}
use Rattle.settle.proofs.Totals.{rowed_add, rowed_skip}
use Rattle.settle.proofs.Spreading.{Spread, spread_none, spread_row}
use Rattle.settle.proofs.reached.mark_next.Goals as goal
use Rattle.settle.proofs.reached.mark_next.Goals.{in-Some, in_default}

pub add_children-requires : goal.add_children-requires
add_children-requires g c =
    let m = g.A.Automaton.meaning c.args.pile.now in
    let sm = g.A.Automaton.sound c.args.pile.now in
    row_within m sm c.args.state c.loop-place.place (production c.in-Some.row) 1024 sm.few_states c.in-Some.ensures

pub loop-place-preserved : goal.loop-place-preserved
loop-place-preserved g c =
    let m = g.A.Automaton.meaning c.args.pile.now in
    let sm = g.A.Automaton.sound c.args.pile.now in
    let s = c.args.state in
    let k = c.loop-place.place in
    let old = mark c.args.marks.now in
    let new = mark c.loop-place.marks in
    let i = c.loop-place.invariant in
    elim c.match-row.branch [
      | in-Some w ↦
          let e = w.add_children.ensures in
          let h = subst (λ z. Spread m sm s k old (mark z) (k + 1)) (sym w.marks-is)
          (spread_row m sm s k old new (mark w.add_children.new.self) (production w.in-Some.row) (c.requires.right s c.requires.here) (sym w.in-Some.ensures) (i.1, i.2, i.3) e.grows.keeps e.all e.from) in
          (rowed_add m s k c.loop-place.rows _ (production w.in-Some.row) i.0 (sym w.in-Some.ensures) w.rows-is, h.0, h.1, h.2)
      | in_default w ↦
          let h = subst (λ z. Spread m sm s k old (mark z) (k + 1)) (sym w.marks-is) (spread_none m sm s k old new (sym w.in_default.ensures) (i.1, i.2, i.3)) in
          (rowed_skip m s k c.loop-place.rows _ i.0 (sym w.in_default.ensures) w.rows-is, h.0, h.1, h.2)
    ]
