use Rattle.automata.proofs.Cells.{Filled}
use Rattle.automata.proofs.worth.fill_line.Given as goal

abbrev pub invariant-loop-state : goal.invariant-loop-state
invariant-loop-state g l = Filled g.met.M.Measure.lawful (g.A.Automaton.meaning l.automaton) l.lines.0.now l.places l.form l.initial.rest l.rest l.state
