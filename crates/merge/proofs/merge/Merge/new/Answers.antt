use Rattle.std.proofs.Common.{vec_items, sym, ◌∙◌}
use Rattle.merge.proofs.Refining.{low}
use Rattle.merge.proofs.merge.Merge.new.Goals as goal

pub invariant_of-result : goal.invariant_of-result
invariant_of-result g c =
    let h = c.in_ok-representatives.ensures in
    record { low = low (g.A.Automaton.meaning c.args.below) (vec_items c.in_ok-representatives.representatives) h.0 (sym c.in_ok-representatives.representatives.ok.0 ∙ h.1) }
