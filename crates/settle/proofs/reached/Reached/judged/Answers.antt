use Rattle.std.proofs.Common.{true, false, sym, ap, ◌∙◌, refl, arith}
use Rattle.ledger.specs.Ledger.{every_row, has_form}
use Rattle.register.specs.Held.{held}
use Rattle.settle.proofs.Fitting.{has_state, many_reached, fitted, all_fitting, high_row}
use Rattle.settle.proofs.reached.Reached.judged.Goals as goal

pub returns-then-states-gt0 : goal.returns-then-states-gt0
returns-then-states-gt0 g c = has_state (held c.args.target.now) (g.A.Automaton.meaning c.args.self.now.pile.now) (omega (arith, c.states.ensures, c.if-states-gt0.true))

pub returns-then-count-gt64 : goal.returns-then-count-gt64
returns-then-count-gt64 g c =
    many_reached (held c.args.target.now) (g.A.Automaton.meaning c.args.self.now.pile.now) (omega (arith, c.states.ensures, c.if-states-gt0.false)) (omega (arith, c.count.ensures, c.if-count-gt64.true))

pub returns-then-all_fit : goal.returns-then-all_fit
returns-then-all_fit g c =
    all_fitting (held c.args.target.now) (g.A.Automaton.meaning c.args.self.now.pile.now) (omega (arith, c.states.ensures, c.if-states-gt0.false)) (omega (arith, c.count.ensures, c.if-count-gt64.false))
    _ c.forms-forms.ensures (sym c.if-all_fit.true ∙ c.all_fit.ensures)

pub returns-then-not-few_rows : goal.returns-then-not-few_rows
returns-then-not-few_rows g c =
    fitted (held c.args.target.now) (g.A.Automaton.meaning c.args.self.now.pile.now) (omega (arith, c.states.ensures, c.if-states-gt0.false)) (omega (arith, c.count.ensures, c.if-count-gt64.false))
    false _ _ (sym c.if-not-few_rows.true ∙ c.few_rows.ensures) refl refl

pub returns-then-not-all_known : goal.returns-then-not-all_known
returns-then-not-all_known g c =
    let m = g.A.Automaton.meaning c.args.self.now.pile.now in
    fitted (held c.args.target.now) m (omega (arith, c.states.ensures, c.if-states-gt0.false)) (omega (arith, c.count.ensures, c.if-count-gt64.false))
    true false _ (sym c.if-not-few_rows.false ∙ c.few_rows.ensures) (sym c.if-not-all_known.true ∙ c.all_known.ensures ∙ ap (λ z. every_row (has_form z) m) c.forms-forms.ensures) refl

pub returns : goal.returns
returns g c =
    high_row (held c.args.target.now) (g.A.Automaton.meaning c.args.self.now.pile.now) (omega (arith, c.states.ensures, c.if-states-gt0.false)) (omega (arith, c.count.ensures, c.if-count-gt64.false))
    _ c.forms-forms.ensures (sym c.all_fit.ensures ∙ c.if-all_fit.false) (sym c.if-not-few_rows.false ∙ c.few_rows.ensures) (sym c.if-not-all_known.false ∙ c.all_known.ensures)
