use Rattle.std.proofs.Common.{◌≡◌, ◌∙◌, ap, subst, vec_items, refl, rules, arith}
use Rattle.std.specs.List.{range_with_len}
use Rattle.std.proofs.lemmas.Iterator.{YieldsList-from_range}
use Rattle.std.proofs.lemmas.List.FromFn.{get_or-range_with_len, length-range_with_len}
use Rattle.std.proofs.lemmas.Result.{IfOk-weaker}
use borrow.Author.Tests.{tests}
use Rattle.automata.specs.Rows.{rows_of}
use Rattle.layers.specs.Rows.{listing, TableTo}
use Rattle.layers.proofs.Collecting.{table_more}
use Rattle.layers.proofs.Filling.{filled}
use Rattle.layers.proofs.table.table.Goals as goal

pub returns : goal.returns
returns g c =
    let m = g.A.Automaton.meaning c.args.below.now in
    let n = c.states.result in
    let long = length-range_with_len 0 n in
    IfOk-weaker c.try_collect.result _ _ (λ v run. subst (TableTo m (vec_items v)) (long ∙ c.states.ensures) (filled _ (λ x. x) _ c.map.result.f (range_with_len 0 n) (TableTo m)
    (λ i x y q ys l e t h. let r : (q ≡ c.map.result.f) × (listing y ≡ rows_of m x) = search (rules, tests) in (r.0, table_more m ys _ y i refl (r.1 ∙ ap (rows_of m) (omega (arith, e, get_or-range_with_len 0 n i x (omega (arith, l, long))))) h))
    c.map.result v (YieldsList-from_range 0 n n c.map.ensures.source (omega arith)) refl (record { long = refl; holds = λ q l. absurd (omega (arith, l)) }) run)) c.try_collect.ensures.ran
