use Rattle.std.proofs.Common.{◌≡◌, false, cond, leb, Ok, Err, sym, refl, ap, ◌∙◌, subst, arith}
use Rattle.std.proofs.lemmas.Bool.Decides.{nat_tests}
use Rattle.refusals.specs.declared.refusal.RegisterRefusal.TheVariants.{NoState}
use Rattle.ledger.specs.Ledger.{enter, name_root, unnumbered}
use Rattle.ledger.specs.Layout.{laid_out, Good}
use Rattle.ledger.specs.Soundness.{good_from}
use Rattle.ledger.proofs.SaneRows.{sane_from}
use Rattle.ledger.proofs.Steps.{follows}
use Rattle.ledger.proofs.GoodLedgers.{step_good}
use Rattle.ledger.proofs.LaidOut.{taken_held, refused_held}
use Rattle.register.proofs.Entering.{root_answer, root_done, root_sane}
use Rattle.register.proofs.open.Open.root.Goals as goal

pub returns-then-state-self : goal.returns-then-state-self
returns-then-state-self c =
    let v = c.args.self.now in
    let rs = v.rows.now in
    let t = v.table in
    let h = sane_from rs t v.sane in
    let e : Err NoState ≡ cond (leb t.states c.args.state) (Err NoState) (Ok 0) = grind (arith, nat_tests) in
    let a = e ∙ root_answer rs t c.args.state h in
    let d = refused_held rs t (name_root c.args.state) NoState a in
    record { answers = ap unnumbered a; steps = d; history = follows (laid_out rs t false) _ (enter (name_root c.args.state)) d; same = refl }

pub invariant_of-self : goal.invariant_of-self
invariant_of-self c =
    let v = c.args.self.now in
    let rs = v.rows.now in
    let t = v.table in
    let h = sane_from rs t v.sane in
    let e : Ok 0 ≡ cond (leb t.states c.args.state) (Err NoState) (Ok 0) = grind (arith, nat_tests) in
    let a = e ∙ root_answer rs t c.args.state h in
    let d = root_done rs t c.args.state ∙ taken_held rs t (name_root c.args.state) 0 a in
    record { sane = ∣ root_sane rs t c.args.state h ∣₁; good = ∣ subst Good (sym d) (step_good (laid_out rs t false) (enter (name_root c.args.state)) (good_from (laid_out rs t false) v.good)) ∣₁ }

pub returns : goal.returns
returns c =
    let v = c.args.self.now in
    let rs = v.rows.now in
    let t = v.table in
    let h = sane_from rs t v.sane in
    let e : Ok 0 ≡ cond (leb t.states c.args.state) (Err NoState) (Ok 0) = grind (arith, nat_tests) in
    let a = e ∙ root_answer rs t c.args.state h in
    let d = root_done rs t c.args.state ∙ taken_held rs t (name_root c.args.state) 0 a in
    record { answers = ap unnumbered a; steps = d; history = follows (laid_out rs t false) _ (enter (name_root c.args.state)) d; same = refl }
