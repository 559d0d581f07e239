use Rattle.std.proofs.Common.{ap, ◌∙◌, arith}
use Rattle.std.proofs.lemmas.Simd.{splat_is_map}
use Rattle.register.specs.Held.{held}
use Rattle.ledger.specs.Reach.{reached_states}
use Rattle.ledger.specs.Ledger.{add_state, enter_all}
use Rattle.settle.proofs.EntriesMade.{entry_taken, state_more}
use Rattle.settle.proofs.reached.Reached.enter_states.Goals as goal

pub loop-preserved : goal.loop-preserved
loop-preserved g c = state_more (held c.args.target.now) c.loop.counter (held c.loop.target) _ c.loop.invariant (entry_taken c.loop.target c.state.new.self add_state c.state.ensures.steps)

pub returns : goal.returns
returns g c =
    c.loop.invariant ∙ ap (enter_all (held c.args.target.now)) (splat_is_map (reached_states (g.A.Automaton.meaning c.args.self.now.pile.now)) c.loop.counter add_state (omega (arith, c.count-end.ensures, c.loop-test.false, c.loop.auto.counter-end)))
