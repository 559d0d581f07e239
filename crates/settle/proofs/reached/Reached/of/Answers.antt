use Rattle.std.proofs.Common.{◌≡◌, ℕ, ◌<◌, true, not, ap, ◌∙◌, arith}
use Rattle.layers.specs.Marks.{mark}
use Rattle.layers.proofs.Growing.{grows_less}
use Rattle.settle.proofs.Totals.{tally_start, tally_more, tally_whole}
use Rattle.settle.proofs.Spreading.{all_asked, reaching_start, reaching_more}
use Rattle.settle.proofs.reached.Reached.of.Goals as goal

pub add-requires : goal.add-requires
add-requires g c = let sm = g.A.Automaton.sound c.args.pile.now in omega (arith, c.root.ensures, sm.rooted, sm.few_states)

pub loop-state-init : goal.loop-state-init
loop-state-init g c = (
  tally_start (g.A.Automaton.meaning c.args.pile.now) (g.A.Automaton.sound c.args.pile.now) (mark c.add.new.self) (mark c.none-asked.result) c.none-asked.ensures,
  reaching_start (g.A.Automaton.meaning c.args.pile.now) (g.A.Automaton.sound c.args.pile.now) c.root.result c.root.ensures (mark c.none-marks.result) (mark c.add.new.self) (mark c.none-asked.result) c.none-marks.ensures c.none-asked.ensures c.add.ensures.here c.add.ensures.others,
)

pub add-requires-in-Some : goal.add-requires-in-Some
add-requires-in-Some g c = let sm = g.A.Automaton.sound c.args.pile.now in omega (arith, c.in-Some.ensures, c.states-states.ensures, sm.few_states)

pub loop-state-smaller : goal.loop-state-smaller
loop-state-smaller g c =
    let a = c.add-in-Some.ensures in
    grows_less (mark c.loop-state.asked) (mark c.add-in-Some.new.self) c.add-in-Some.result a.grows (a.fresh ∙ ap not c.in-Some.ensures.2)

pub loop-state-preserved : goal.loop-state-preserved
loop-state-preserved g c =
    let e = c.mark_next.ensures in
    let a = c.add-in-Some.ensures in (
      tally_more (g.A.Automaton.meaning c.args.pile.now) (g.A.Automaton.sound c.args.pile.now) (mark c.loop-state.marks) (mark c.mark_next.new.marks) (mark c.loop-state.asked) (mark c.add-in-Some.new.self) c.in-Some.state c.loop-state.rows _ _ c.loop-state.invariant.0
          (omega (arith, c.in-Some.ensures.0, c.states-states.ensures)) c.in-Some.ensures.1 c.in-Some.ensures.2 a.here a.others e.keeps e.counted c.saturating_add-rows.ensures,
      reaching_more (g.A.Automaton.meaning c.args.pile.now) (g.A.Automaton.sound c.args.pile.now) (mark c.loop-state.marks) (mark c.mark_next.new.marks) (mark c.loop-state.asked) (mark c.add-in-Some.new.self) c.in-Some.state c.loop-state.invariant.1
          e.keeps e.right e.followed a.others,
    )

pub invariant_of-result : goal.invariant_of-result
invariant_of-result g c =
    let m = g.A.Automaton.meaning c.args.pile.now in
    let sm = g.A.Automaton.sound c.args.pile.now in
    let done : (s : ℕ) → s < m.states → mark c.loop-state.marks s ≡ true → mark c.loop-state.asked s ≡ true = λ s l. c.in_default.ensures s (omega (arith, c.states-states.ensures)) in
    let exact = all_asked m sm (mark c.loop-state.marks) (mark c.loop-state.asked) c.loop-state.invariant.1 done in
    record { exact = exact; counted = tally_whole m sm (mark c.loop-state.marks) (mark c.loop-state.asked) c.loop-state.rows c.loop-state.invariant.0 done exact }
