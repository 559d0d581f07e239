use Rattle.std.proofs.Common.{◌≡◌, map, vec_items, refl, rules, arith}
use Rattle.std.proofs.lemmas.Iterator.{YieldsList-from_slice}
use Rattle.std.proofs.lemmas.Result.{IfOk-weaker}
use borrow.Author.Tests.{tests}
use Rattle.automata.specs.Rows.{renamed}
use Rattle.layers.specs.Rows.{listing}
use Rattle.layers.proofs.Filling.{filled}
use Rattle.merge.specs.Merge.{at}
use Rattle.merge.specs.Refine.{Keys, KeysTo}
use Rattle.merge.proofs.KeyTables.{keys_more}
use Rattle.merge.proofs.refine.key_table.Goals as goal

pub returns : goal.returns
returns c =
    let a = at c.args.groups.now in
    let vs = c.args.rows.now in
    IfOk-weaker c.try_collect.result _ _ (λ v run. filled _ (λ y. y.now) _ c.map.result.f vs (KeysTo a vs)
    (λ i x y q ys l e t h. let r : (q ≡ c.map.result.f) × Keys (map (renamed a) (listing x.now)) (vec_items y) = search (rules, tests) in (r.0, keys_more a vs ys _ x.now y i l e refl r.1 h))
    c.map.result v (YieldsList-from_slice vs cc) refl (record { long = refl; holds = λ q l. absurd (omega (arith, l)) }) run) c.try_collect.ensures.ran
