use Rattle.std.proofs.Common.{◌+◌, List, map, sym, ap, ◌∙◌, subst, inl, inr, arith}
use Rattle.std.proofs.lemmas.Bool.{both_ways}
use Rattle.automata.specs.Automaton.{Production, production}
use Rattle.layers.specs.Marks.{mark}
use Rattle.layers.specs.Growth.{SomeReady}
use Rattle.layers.proofs.Collecting.{table_read}
use Rattle.layers.proofs.Growing.{Round, round_none, round_same, round_more}
use Rattle.layers.proofs.collected.Collected.mark_round.Goals as goal
use Rattle.layers.proofs.collected.Collected.mark_round.Goals.{then-not-has+then-any_ready, else-not-has, else-not-has-via-then-not-has+else-any_ready, else-not-has-via-else-not-has}

pub loop-state-init : goal.loop-state-init
loop-state-init g c = round_none (g.A.Automaton.meaning c.args.self.now.below.now) (g.A.Automaton.sound c.args.self.now.below.now) (mark c.args.marks.now) c.requires

pub add-added-requires : goal.add-added-requires
add-added-requires g c = let sm = g.A.Automaton.sound c.args.self.now.below.now in omega (arith, c.args.self.now.table.long, c.loop-state-test.true, sm.few_states)

pub loop-state-preserved : goal.loop-state-preserved
loop-state-preserved g c =
    let m = g.A.Automaton.meaning c.args.self.now.below.now in
    let sm = g.A.Automaton.sound c.args.self.now.below.now in
    let t = c.args.self.now in
    let s = c.loop-state.state in
    let old = mark c.args.marks.now in
    let new = mark c.loop-state.marks in
    let added = c.loop-state.added in
    let here = table_read m t.rows.now m.states s c.rows-item.result t.table (omega (arith, t.table.long, c.loop-state-test.true)) c.rows-item.is in
    elim c.if-not-has.branch [
      | then-not-has+then-any_ready w ↦
          let e = w.add-added.ensures in
          subst (λ z. Round m sm old (mark z) c.if-not-has.added (s + 1)) (sym w.marks-is)
          (subst (λ z. Round m sm old (mark w.add-added.new.self) z (s + 1)) (sym w.added-is)
          (round_more m sm old new added s c.loop-state.invariant (mark w.add-added.new.self) w.add-added.result
          (subst (λ (ps : List Production). SomeReady new ps) (ap (map production) w.as_slice.ensures.value ∙ here) (w.any_ready.ensures.0 w.if-any_ready.true)) e.grows e.here e.others))
      | else-not-has w ↦
          subst (λ z. Round m sm old (mark z) c.if-not-has.added (s + 1)) (sym w.marks-is)
          (subst (λ z. Round m sm old new z (s + 1)) (sym w.added-is)
          (round_same m sm old new added s c.loop-state.invariant
          (elim w.else-not-has.branch [
            | else-not-has-via-then-not-has+else-any_ready w' ↦ inr (λ h. both_ways w'.any_ready.result w'.if-any_ready.false (w'.any_ready.ensures.1
                (subst (λ (ps : List Production). SomeReady new ps) (sym (ap (map production) w'.as_slice.ensures.value ∙ here)) h)))
            | else-not-has-via-else-not-has w' ↦ inl (sym c.has.ensures ∙ w'.if-not-has.false)
          ])))
    ]

pub returns-clause-stuck : goal.returns-clause-stuck
returns-clause-stuck g c = λ e s l. c.loop-state.invariant.stuck e s (omega (arith, c.args.self.now.table.long, c.loop-state-test.false))
