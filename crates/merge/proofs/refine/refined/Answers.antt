use Rattle.std.proofs.Common.{◌≡◌, ℕ, ◌<◌, IfOk, length, vec_items, rules}
use Rattle.std.proofs.iter.runs.Sources.{ranges}
use Rattle.std.proofs.lemmas.Result.{IfOk-weaker}
use Rattle.merge.specs.Merge.{at}
use Rattle.merge.specs.Refine.{LowestKeyed}
use Rattle.merge.proofs.KeyTables.{refined_all}
use Rattle.merge.proofs.refine.refined.Goals as goal

pub returns : goal.returns
returns c =
    let vs = c.args.rows.now in
    let gs = c.args.groups.now in
    let ks = vec_items c.in_ok-keys.keys in
    let named : IfOk c.collect.result (λ v. (length (vec_items v) ≡ length vs) × ((p : ℕ) → p < length vs → LowestKeyed gs ks p (at (vec_items v) p))) = search (rules, ranges) in
    IfOk-weaker c.collect.result _ _ (λ v h. refined_all vs gs ks (vec_items v) c.in_ok-keys.ensures h.0 h.1) named
