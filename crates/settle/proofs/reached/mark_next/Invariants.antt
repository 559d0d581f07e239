use Rattle.std.proofs.Common.{◌≡◌, ℕ, true}
use Rattle.layers.specs.Marks.{mark}
use Rattle.settle.specs.Spread.{AllReached, Followed}
use Rattle.settle.proofs.Totals.{Rowed}
use Rattle.settle.proofs.reached.mark_next.Given as goal

abbrev pub invariant-loop-place : goal.invariant-loop-place
invariant-loop-place g l =
    Rowed (g.A.Automaton.meaning l.pile) l.state l.place l.rows l.place
    × ((s : ℕ) → mark l.initial.marks s ≡ true → mark l.marks s ≡ true)
    × AllReached (g.A.Automaton.meaning l.pile) (mark l.marks)
    × Followed (g.A.Automaton.meaning l.pile) (mark l.marks) l.state l.place
