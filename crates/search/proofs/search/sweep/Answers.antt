use Rattle.std.proofs.Common.{◌+◌, ◌<◌, inl, inr, sym, ap, ◌∙◌, subst, arith}
use Rattle.std.proofs.lemmas.Bool.{ltb-true, ltb-false}
use Rattle.layers.specs.Marks.{mark}
use Rattle.search.proofs.Searches.{Swept, swept_none, swept_same, swept_more, room}
use Rattle.search.proofs.search.sweep.Goals as goal
use Rattle.search.proofs.search.sweep.Goals.{then-state-start+then-not-has+in-Some, then-state-start+then-not-has+in_default, else-state-start, else-state-start-via-then-state-start+else-not-has, else-state-start-via-else-state-start}

pub loop-state-init : goal.loop-state-init
loop-state-init g c =
    let m = g.A.Automaton.meaning c.args.automaton.now in
    let ls = c.args.order.now.items in
    (subst (λ n. Swept m c.args.start n (mark c.args.marks.now) ls 0) (sym c.len-before.ensures.value) (swept_none m c.args.start (mark c.args.marks.now) ls c.requires.listed c.requires.unready), c.states-state-end.ensures)

pub add-requires : goal.add-requires
add-requires g c = let sm = g.A.Automaton.sound c.args.automaton.now in omega (arith, c.loop-state.invariant.1, c.loop-state-test.true, sm.few_states)

pub overflow_cast-state : goal.overflow_cast-state
overflow_cast-state g c = let sm = g.A.Automaton.sound c.args.automaton.now in omega (arith, c.loop-state.invariant.1, c.loop-state-test.true, sm.few_states)

pub push-requires : goal.push-requires
push-requires g c =
    let m = g.A.Automaton.meaning c.args.automaton.now in
    let sm = g.A.Automaton.sound c.args.automaton.now in
    let l : c.loop-state.state < m.states = omega (arith, c.loop-state.invariant.1, c.loop-state-test.true) in
    let r = room m c.args.start (mark c.loop-state.marks) c.loop-state.order.items c.loop-state.invariant.0.listed sm c.loop-state.state l (sym c.has.ensures ∙ c.if-not-has.true) in
    (omega arith, omega (arith, r, sm.few_states))

pub loop-state-preserved : goal.loop-state-preserved
loop-state-preserved g c =
    let m = g.A.Automaton.meaning c.args.automaton.now in
    let start = c.args.start in
    let before = c.len-before.result in
    let s = c.loop-state.state in
    let f = mark c.loop-state.marks in
    let ls = c.loop-state.order.items in
    let h = c.loop-state.invariant.0 in
    let l : s < m.states = omega (arith, c.loop-state.invariant.1, c.loop-state-test.true) in (
      elim c.if-state-start.branch [
        | then-state-start+then-not-has+in-Some w ↦
            subst (λ z. Swept m start before (mark z) c.if-state-start.order.items (s + 1)) (sym w.marks-is)
            (subst (λ z. Swept m start before (mark w.add.new.self) z (s + 1)) (sym (ap (λ z. z.items) w.order-is ∙ w.push.ensures.items))
            (swept_more m start before f ls s h (record { state = s; place = w.in-Some.place }) (mark w.add.new.self) l w.if-state-start.true (sym w.has.ensures ∙ w.if-not-has.true) w.in-Some.ensures w.add.ensures.here w.add.ensures.others))
        | then-state-start+then-not-has+in_default w ↦
            subst (λ z. Swept m start before (mark z) c.if-state-start.order.items (s + 1)) (sym w.marks-is)
            (subst (λ z. Swept m start before f z (s + 1)) (sym (ap (λ z. z.items) w.order-is)) (swept_same m start before f ls s h (inr (inr w.in_default.ensures))))
        | else-state-start w ↦
            subst (λ z. Swept m start before (mark z) c.if-state-start.order.items (s + 1)) (sym w.marks-is)
            (subst (λ z. Swept m start before f z (s + 1)) (sym (ap (λ z. z.items) w.order-is)) (swept_same m start before f ls s h
            (elim w.else-state-start.branch [
              | else-state-start-via-then-state-start+else-not-has w' ↦ inl (sym w'.has.ensures ∙ w'.if-not-has.false)
              | else-state-start-via-else-state-start w' ↦ inr (inl w'.if-state-start.false)
            ])))
      ],
      c.loop-state.invariant.1,
    )

pub returns : goal.returns
returns g c =
    let h = c.loop-state.invariant.0 in
    let n = c.len-before.result in
    let k = c.len.result in
    record {
      listed = h.listed;
      more = λ e. let l : n < k = ltb-true n k e in omega (arith, l, c.len.ensures.value, c.len-before.ensures.value);
      stuck = λ e s l. h.stuck (omega (arith, h.more, ltb-false n k e, c.len.ensures.value)) s (omega (arith, c.loop-state.invariant.1, c.loop-state-test.false));
    }
