use Rattle.std.proofs.Common.{◌≡◌, ◌+◌, true, ◌⊎◌, List, map, sym, ap, ◌∙◌, subst, arith}
use Rattle.std.specs.List.{AllByRecursion}
use Rattle.automata.specs.Automaton.{Production, production, all_below}
use Rattle.automata.specs.Reading.{Member}
use Rattle.automata.specs.Rows.{rows_of}
use Rattle.layers.specs.Marks.{mark}
use Rattle.layers.specs.Growth.{Led}
use Rattle.layers.proofs.Collecting.{table_read}
use Rattle.layers.proofs.Growing.{KeepRound, keep_none, keep_skip, keep_row, rows_within}
use Rattle.layers.proofs.collected.Collected.keep_round.Goals as goal
use Rattle.layers.proofs.collected.Collected.keep_round.Goals.{then-has, else-has}

pub loop-state-init : goal.loop-state-init
loop-state-init g c = keep_none (g.A.Automaton.meaning c.args.self.now.below.now) (g.A.Automaton.sound c.args.self.now.below.now) (mark c.args.productive.now) (mark c.args.marks.now) c.requires.right

pub keep_rows-added-requires : goal.keep_rows-added-requires
keep_rows-added-requires g c =
    let m = g.A.Automaton.meaning c.args.self.now.below.now in
    let sm = g.A.Automaton.sound c.args.self.now.below.now in
    let t = c.args.self.now in
    let s = c.loop-state.state in
    subst (λ (ps : List Production). AllByRecursion (λ p. all_below 1024 p.children ≡ true) ps)
    (sym (ap (map production) c.as_slice.ensures.value ∙ table_read m t.rows.now m.states s c.rows-item.result t.table (omega (arith, t.table.long, c.loop-state-test.true)) c.rows-item.is))
    (rows_within m sm s 1024 sm.few_states)

pub loop-state-preserved : goal.loop-state-preserved
loop-state-preserved g c =
    let m = g.A.Automaton.meaning c.args.self.now.below.now in
    let sm = g.A.Automaton.sound c.args.self.now.below.now in
    let t = c.args.self.now in
    let f = mark c.args.productive.now in
    let s = c.loop-state.state in
    let old = mark c.args.marks.now in
    let new = mark c.loop-state.marks in
    let added = c.loop-state.added in
    elim c.if-has.branch [
      | then-has w ↦
          let e : map production w.as_slice.result.now ≡ rows_of m s = ap (map production) w.as_slice.ensures.value ∙ table_read m t.rows.now m.states s c.rows-item.result t.table (omega (arith, t.table.long, c.loop-state-test.true)) c.rows-item.is in
          let k = w.keep_rows-added in
          subst (λ z. KeepRound m sm f old (mark z) c.if-has.added (s + 1)) (sym w.marks-is)
          (subst (λ z. KeepRound m sm f old (mark k.new.marks) z (s + 1)) (sym w.added-is)
          (keep_row m sm f old new added s c.loop-state.invariant c.requires.decided (sym c.has.ensures ∙ w.if-has.true) (mark k.new.marks) k.result k.ensures.grows
          (λ p h all. k.ensures.all p (subst (Member p) (sym e) h) all) (λ u h. subst (λ (ps : List Production). (new u ≡ true) ⊎ Led f ps u) e (k.ensures.from u h))))
      | else-has w ↦
          subst (λ z. KeepRound m sm f old (mark z) c.if-has.added (s + 1)) (sym w.marks-is)
          (subst (λ z. KeepRound m sm f old new z (s + 1)) (sym w.added-is) (keep_skip m sm f old new added s c.loop-state.invariant (sym c.has.ensures ∙ w.if-has.false)))
    ]

pub returns-clause-spread : goal.returns-clause-spread
returns-clause-spread g c = λ e s l. c.loop-state.invariant.spread e s (omega (arith, c.args.self.now.table.long, c.loop-state-test.false))
