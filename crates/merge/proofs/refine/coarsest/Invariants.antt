use Rattle.std.proofs.Common.{◌≡◌, ◌-◌, vec_items, vec_len}
use Rattle.merge.specs.Merge.{at}
use Rattle.merge.specs.Refine.{groups}
use Rattle.merge.proofs.Merging.{Reached}
use Rattle.merge.proofs.refine.coarsest.Given as goal

abbrev pub invariant-loop-groups : goal.invariant-loop-groups
invariant-loop-groups g l =
    Reached (g.A.Automaton.meaning l.below) (at (vec_items l.groups))
    × (vec_len l.groups ≡ (g.A.Automaton.meaning l.below).states)

abbrev pub decreases-loop-groups : goal.decreases-loop-groups
decreases-loop-groups g l = (g.A.Automaton.meaning l.below).states - groups (at (vec_items l.groups)) (g.A.Automaton.meaning l.below).states
