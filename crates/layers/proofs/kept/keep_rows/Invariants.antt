use Rattle.std.proofs.Common.{map, take}
use Rattle.automata.specs.Automaton.{production}
use Rattle.layers.specs.Marks.{mark}
use Rattle.layers.proofs.Growing.{Leading}
use Rattle.layers.proofs.kept.keep_rows.Given as goal

abbrev pub invariant-loop-row : goal.invariant-loop-row
invariant-loop-row l = Leading (mark l.productive) (mark l.initial.marks) (mark l.marks) l.added (map production (take l.row-index l.rows)) (map production l.rows)
