use Rattle.std.proofs.Common.{◌≡◌, ◌*◌, take, drop, ap, ◌∙◌, arith}
use Rattle.automata.proofs.Cells.{line_end, filled_more, line_filled, line_after}
use Rattle.automata.proofs.worth.fill_line.Goals as goal

pub loop-state-preserved : goal.loop-state-preserved
loop-state-preserved g c =
    let m = g.A.Automaton.meaning c.args.automaton.now in
    let p = c.args.place in
    let e : p * c.states-states.result ≡ p * m.states = ap (λ n. p * n) c.states-states.ensures in
    filled_more g.met.M.Measure.lawful m (g.A.Automaton.sound c.args.automaton.now).closed c.split_at_mut-earlier.result.0.now c.args.places.now c.args.form c.split_at_mut-earlier.result.1.now c.loop-state.rest c.loop-state.state c.node_worth.result
    (omega (arith, line_end p m.states)) c.node_worth.ensures c.loop-state.invariant

pub returns-clause-fills : goal.returns-clause-fills
returns-clause-fills g c =
    let m = g.A.Automaton.meaning c.args.automaton.now in
    let p = c.args.place in
    let xs = c.args.scratch.now in
    let e : p * c.states-states.result ≡ p * m.states = ap (λ n. p * n) c.states-states.ensures in
    line_filled g.met.M.Measure.lawful m xs c.args.places.now c.args.form p c.split_at_mut-earlier.result.0.now c.split_at_mut-earlier.result.1.now c.loop-state.rest c.loop-state.state
    (c.split_at_mut-earlier.ensures.front ∙ ap (λ n. take n xs) e) (c.split_at_mut-earlier.ensures.back ∙ ap (λ n. drop n xs) e) (omega arith) (omega (arith, line_end p m.states)) c.loop-state.invariant c.requires.earlier

pub returns-clause-after : goal.returns-clause-after
returns-clause-after g c =
    let m = g.A.Automaton.meaning c.args.automaton.now in
    let p = c.args.place in
    let xs = c.args.scratch.now in
    let e : p * c.states-states.result ≡ p * m.states = ap (λ n. p * n) c.states-states.ensures in
    line_after g.met.M.Measure.lawful m xs c.args.places.now c.args.form p c.split_at_mut-earlier.result.0.now c.split_at_mut-earlier.result.1.now c.loop-state.rest c.loop-state.state
    (c.split_at_mut-earlier.ensures.front ∙ ap (λ n. take n xs) e) (c.split_at_mut-earlier.ensures.back ∙ ap (λ n. drop n xs) e) (omega arith) (omega (arith, line_end p m.states)) c.loop-state.invariant
