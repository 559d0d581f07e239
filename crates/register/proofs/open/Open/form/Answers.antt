use Rattle.std.proofs.Common.{◌≡◌, false, cond, ltb, leb, Ok, Err, sym, refl, ◌∙◌, subst, arith}
use Rattle.std.proofs.lemmas.Bool.Decides.{nat_tests}
use Rattle.refusals.specs.declared.refusal.RegisterRefusal.TheVariants.{HighArity, FullForms}
use Rattle.ledger.specs.Ledger.{enter, add_form}
use Rattle.ledger.specs.Layout.{laid_out, Good}
use Rattle.ledger.specs.Soundness.{good_from}
use Rattle.ledger.proofs.SaneRows.{sane_from}
use Rattle.ledger.proofs.Steps.{follows}
use Rattle.ledger.proofs.GoodLedgers.{step_good}
use Rattle.ledger.proofs.LaidOut.{taken_held, refused_held}
use Rattle.register.proofs.Entering.{form_answer, form_done, form_sane}
use Rattle.register.proofs.open.Open.form.Goals as goal

pub returns-then-arity-gt4 : goal.returns-then-arity-gt4
returns-then-arity-gt4 c =
    let v = c.args.self.now in
    let rs = v.rows.now in
    let t = v.table in
    let h = sane_from rs t v.sane in
    let e : Err HighArity ≡ cond (ltb 4 c.args.arity) (Err HighArity) (cond (leb 64 t.forms) (Err FullForms) (Ok t.forms)) = grind (arith, nat_tests) in
    let a = e ∙ form_answer rs t c.args.arity h in
    let d = refused_held rs t (add_form c.args.arity) HighArity a in
    record { answers = a; steps = d; history = follows (laid_out rs t false) _ (enter (add_form c.args.arity)) d; same = refl }

pub returns-then-number-ge64 : goal.returns-then-number-ge64
returns-then-number-ge64 c =
    let v = c.args.self.now in
    let rs = v.rows.now in
    let t = v.table in
    let h = sane_from rs t v.sane in
    let e : Err FullForms ≡ cond (ltb 4 c.args.arity) (Err HighArity) (cond (leb 64 t.forms) (Err FullForms) (Ok t.forms)) = grind (arith, nat_tests) in
    let a = e ∙ form_answer rs t c.args.arity h in
    let d = refused_held rs t (add_form c.args.arity) FullForms a in
    record { answers = a; steps = d; history = follows (laid_out rs t false) _ (enter (add_form c.args.arity)) d; same = refl }

pub invariant_of-self : goal.invariant_of-self
invariant_of-self c =
    let v = c.args.self.now in
    let rs = v.rows.now in
    let t = v.table in
    let h = sane_from rs t v.sane in
    let e : Ok t.forms ≡ cond (ltb 4 c.args.arity) (Err HighArity) (cond (leb 64 t.forms) (Err FullForms) (Ok t.forms)) = grind (arith, nat_tests) in
    let a = e ∙ form_answer rs t c.args.arity h in
    let d = form_done rs t c.args.arity h c.if-number-ge64.false ∙ taken_held rs t (add_form c.args.arity) t.forms a in
    record { sane = ∣ form_sane rs t c.args.arity h c.if-number-ge64.false c.if-arity-gt4.false ∣₁; good = ∣ subst Good (sym d) (step_good (laid_out rs t false) (enter (add_form c.args.arity)) (good_from (laid_out rs t false) v.good)) ∣₁ }

pub returns : goal.returns
returns c =
    let v = c.args.self.now in
    let rs = v.rows.now in
    let t = v.table in
    let h = sane_from rs t v.sane in
    let e : Ok t.forms ≡ cond (ltb 4 c.args.arity) (Err HighArity) (cond (leb 64 t.forms) (Err FullForms) (Ok t.forms)) = grind (arith, nat_tests) in
    let a = e ∙ form_answer rs t c.args.arity h in
    let d = form_done rs t c.args.arity h c.if-number-ge64.false ∙ taken_held rs t (add_form c.args.arity) t.forms a in
    record { answers = a; steps = d; history = follows (laid_out rs t false) _ (enter (add_form c.args.arity)) d; same = refl }
