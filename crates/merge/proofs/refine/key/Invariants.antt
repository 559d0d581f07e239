use Rattle.std.proofs.Common.{◌≡◌}
use Rattle.merge.specs.Merge.{at}
use Rattle.merge.proofs.Keying.{named}
use Rattle.merge.proofs.refine.key.Given as goal

abbrev pub invariant-loop-i : goal.invariant-loop-i
invariant-loop-i l = l.children ≡ named (at l.groups) l.child-items l.i
