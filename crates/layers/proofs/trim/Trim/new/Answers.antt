use Rattle.std.proofs.Common.{ℕ, Bool, List, vec_items, Decides, sym, subst}
use Rattle.layers.specs.Marks.{mark}
use Rattle.layers.specs.Trim.{Productive, Kept}
use Rattle.layers.proofs.Trims.{pruned_trimmed}
use Rattle.layers.proofs.trim.Trim.new.Goals as goal

pub returns : goal.returns
returns g c =
    let m = g.A.Automaton.meaning c.args.below in
    record {
      meaning = pruned_trimmed m (mark (vec_items c.in_ok-kept.kept)) (mark (vec_items c.in_ok-productive.productive))
          (subst (λ (z : List Bool). (s : ℕ) → Decides (mark z s) (Kept m s)) (sym c.in_ok-kept.ensures) c.kept-reached.ensures)
          (subst (λ (z : List Bool). (s : ℕ) → Decides (mark z s) (Productive m s)) (sym c.in_ok-productive.ensures) c.productive-usable.ensures);
    }
