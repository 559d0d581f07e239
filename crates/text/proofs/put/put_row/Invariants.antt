use Rattle.std.proofs.Common.{◌≡◌, ◌++◌, take, vec_items}
use Rattle.std.specs.List.{flat_map}
use Rattle.text.specs.Text.{figure}
use Rattle.text.proofs.put.put_row.Given as goal

abbrev pub invariant-loop-child : goal.invariant-loop-child
invariant-loop-child l = vec_items l.out ≡ vec_items l.initial.out ++ flat_map figure (take l.child-index l.child-items)
