use Rattle.std.proofs.Common.{◌≡◌, false, cond, leb, Ok, Err, sym, refl, ◌∙◌, subst, arith}
use Rattle.std.proofs.lemmas.Bool.Decides.{nat_tests}
use Rattle.refusals.specs.declared.refusal.RegisterRefusal.TheVariants.{FullStates}
use Rattle.ledger.specs.Ledger.{enter, add_state}
use Rattle.ledger.specs.Layout.{laid_out, Good}
use Rattle.ledger.specs.Soundness.{good_from}
use Rattle.ledger.proofs.SaneRows.{sane_from}
use Rattle.ledger.proofs.Steps.{follows}
use Rattle.ledger.proofs.GoodLedgers.{step_good}
use Rattle.ledger.proofs.LaidOut.{taken_held, refused_held}
use Rattle.register.proofs.Entering.{state_answer, state_done, state_sane}
use Rattle.register.proofs.open.Open.state.Goals as goal

pub returns-then-number-ge64 : goal.returns-then-number-ge64
returns-then-number-ge64 c =
    let v = c.args.self.now in
    let rs = v.rows.now in
    let t = v.table in
    let h = sane_from rs t v.sane in
    let e : Err FullStates ≡ cond (leb 64 t.states) (Err FullStates) (Ok t.states) = grind (arith, nat_tests) in
    let a = e ∙ state_answer rs t h in
    let d = refused_held rs t add_state FullStates a in
    record { answers = a; steps = d; history = follows (laid_out rs t false) _ (enter add_state) d; same = refl }

pub invariant_of-self : goal.invariant_of-self
invariant_of-self c =
    let v = c.args.self.now in
    let rs = v.rows.now in
    let t = v.table in
    let h = sane_from rs t v.sane in
    let e : Ok t.states ≡ cond (leb 64 t.states) (Err FullStates) (Ok t.states) = grind (arith, nat_tests) in
    let a = e ∙ state_answer rs t h in
    let d = state_done rs t h c.if-number-ge64.false ∙ taken_held rs t add_state t.states a in
    record { sane = ∣ state_sane rs t h c.if-number-ge64.false ∣₁; good = ∣ subst Good (sym d) (step_good (laid_out rs t false) (enter add_state) (good_from (laid_out rs t false) v.good)) ∣₁ }

pub returns : goal.returns
returns c =
    let v = c.args.self.now in
    let rs = v.rows.now in
    let t = v.table in
    let h = sane_from rs t v.sane in
    let e : Ok t.states ≡ cond (leb 64 t.states) (Err FullStates) (Ok t.states) = grind (arith, nat_tests) in
    let a = e ∙ state_answer rs t h in
    let d = state_done rs t h c.if-number-ge64.false ∙ taken_held rs t add_state t.states a in
    record { answers = a; steps = d; history = follows (laid_out rs t false) _ (enter add_state) d; same = refl }
