use Rattle.std.proofs.Common.{ℕ, ◌<◌, ◌≤◌, List, Vec, Some, None, Option, refl, sym, subst, rules, arith}
use Rattle.std.specs.declared.alloc.Global.{Global}
use Rattle.std.specs.Option.{MatchOption, unwrap_or}
use Rattle.merge.specs.declared.row_key.RowKey.{RowKey}
use borrow.Author.Tests.{tests}
use Rattle.std.proofs.lemmas.Iterator.{first_from_Range}
use Rattle.merge.specs.Refine.{Alike, LowestKeyed}
use Rattle.merge.proofs.refine.Keyed.lowest_like.Goals as goal

lowest : (gs : List ℕ) (ks : List (Vec RowKey Global)) (p : ℕ) (r : Option ℕ) → MatchOption r ((k : ℕ) → 0 ≤ k → k < p → Alike gs ks k p → ⊥) (λ i. (0 ≤ i) × (i < p) × Alike gs ks i p × ((k : ℕ) → 0 ≤ k → k < i → Alike gs ks k p → ⊥)) → LowestKeyed gs ks p (unwrap_or r p)
lowest gs ks p None h = record { below = omega arith; group = refl; like = refl; least = λ k l e f. h k (omega arith) l (e, f) }
lowest gs ks p (Some i) h = record { below = omega (arith, h.1); group = h.2.0; like = h.2.1; least = λ k l e f. h.3 k (omega arith) l (e, f) }

pub returns : goal.returns
returns c =
    let gs = c.args.self.now.groups.now in
    let ks = c.args.self.now.keys.items in
    let p = c.args.state in
    let t = first_from_Range (record { start = 0; end = p }) c.find.new.self _ c.find.result (λ k. Alike gs ks k p) (λ k. Alike gs ks k p → ⊥) c.find.ensures.ran (λ x q h. search (rules, tests)) (λ x q h. search (rules, tests)) in
    subst (LowestKeyed gs ks p) (sym c.unwrap_or.ensures) (lowest gs ks p c.find.result t)
