use Rattle.std.proofs.Common.{Err, vec_items, sym, refl, ap, ◌∙◌, subst}
use Rattle.std.proofs.lemmas.Bool.{true≢false}
use Rattle.std.proofs.lemmas.Result.{err_from_is_err_and}
use Rattle.layers.specs.Marks.{mark}
use Rattle.layers.specs.Trim.{pruned}
use Rattle.merge.specs.Merge.{at, merged}
use Rattle.register.specs.Held.{held}
use Rattle.narrowing.specs.Reduced.{Reduced}
use Rattle.narrowing.specs.Narrows.{Narrows}
use Rattle.narrowing.proofs.Reductions.{barren_before, stops_narrowing}
use Rattle.narrowing.proofs.narrow.narrow.Goals as goal

pub returns-in_err-settled : goal.returns-in_err-settled
returns-in_err-settled g c =
    let m = g.A.Automaton.meaning c.args.pile in
    let trim = c.in_ok-trim.trim in
    let merge = c.in_ok-merge.merge in
    let kept = pruned (mark (vec_items trim.kept)) (mark (vec_items trim.productive)) (g.A.Automaton.meaning trim.below) in
    let below = pruned (mark (vec_items merge.below.kept)) (mark (vec_items merge.below.productive)) (g.A.Automaton.meaning merge.below.below) in
    let rep = at (vec_items merge.representatives) in
    let w : Reduced m (merged below rep) = record { kept = kept; rep = rep; trimmed = c.in_ok-trim.ensures.meaning; coarsest = c.in_ok-merge.ensures.coarsest; is = c.in_ok-merge.ensures.meaning } in
    let e = err_from_is_err_and c.from_residual-in_err-settled.result c.from_residual-in_err-settled.ensures.1 in
    record { answers = subst (λ r. Narrows m (held c.args.target.now) r (held c.settled.new.target)) (sym (e.1 ∙ ap Err e.2)) (stops_narrowing m (merged below rep) _ _ w c.in_err-settled.field-0.0 c.in_err-settled.ensures.settles); same = λ _. c.in_err-settled.ensures.same refl }

pub returns : goal.returns
returns g c =
    let m = g.A.Automaton.meaning c.args.pile in
    let trim = c.in_ok-trim.trim in
    let merge = c.in_ok-merge.merge in
    let kept = pruned (mark (vec_items trim.kept)) (mark (vec_items trim.productive)) (g.A.Automaton.meaning trim.below) in
    let below = pruned (mark (vec_items merge.below.kept)) (mark (vec_items merge.below.productive)) (g.A.Automaton.meaning merge.below.below) in
    let rep = at (vec_items merge.representatives) in
    let w : Reduced m (merged below rep) = record { kept = kept; rep = rep; trimmed = c.in_ok-trim.ensures.meaning; coarsest = c.in_ok-merge.ensures.coarsest; is = c.in_ok-merge.ensures.meaning } in
    record {
      answers = (
        merged below rep,
        w,
        record {
          whole = (c.size_of-whole.ensures.states, c.size_of-whole.ensures.rows);
          trimmed = (c.size_of-trimmed.ensures.states, c.size_of-trimmed.ensures.rows);
          merged = (c.size_of-merged.ensures.states, c.size_of-merged.ensures.rows);
          barren = barren_before m (g.A.Automaton.sound c.args.pile) (merged below rep) w _ c.in_ok-barren.ensures;
        },
        c.in_ok-settled.ensures.settles.0,
        c.in_ok-settled.ensures.settles.1,
      );
      same = λ e. absurd (true≢false e);
    }
