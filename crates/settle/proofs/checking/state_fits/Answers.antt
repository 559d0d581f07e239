use Rattle.std.proofs.Common.{◌&&◌, leb, sym, ap, ◌∙◌}
use Rattle.automata.specs.Automaton.{production}
use Rattle.tickets.specs.Checked.{arities_of}
use Rattle.ledger.specs.Ledger.{has_form}
use Rattle.settle.proofs.Fitting.{survey_add, survey_skip}
use Rattle.settle.proofs.checking.state_fits.Goals as goal
use Rattle.settle.proofs.checking.state_fits.Goals.{in-Some, in_default}

pub loop-place-preserved : goal.loop-place-preserved
loop-place-preserved g c =
    let m = g.A.Automaton.meaning c.args.pile.now in
    let s = c.args.state in
    let k = c.loop-place.place in
    elim c.match-row.branch [
      | in-Some w ↦ survey_add m s k (has_form (arities_of c.args.forms.now)) (λ p. leb p.points 1000) c.loop-place.count _ c.loop-place.formed _ c.loop-place.cheap _ c.loop-place.invariant (production w.in-Some.row) (sym w.in-Some.ensures) w.count-is (w.formed-is ∙ ap (λ x. c.loop-place.formed && x) w.known-formed.ensures) w.cheap-is
      | in_default w ↦ survey_skip m s k (has_form (arities_of c.args.forms.now)) (λ p. leb p.points 1000) c.loop-place.count _ c.loop-place.formed _ c.loop-place.cheap _ c.loop-place.invariant (sym w.in_default.ensures) w.count-is w.formed-is w.cheap-is
    ]
