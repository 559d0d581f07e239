use Rattle.std.proofs.Common.{◌≡◌, ℕ, ◌*◌, ◌<◌, ◌≤◌, get_or}
use Rattle.tickets.specs.Checked.{arities_of, nodes_of}
use Rattle.automata.specs.Table.{Line, prefix_tree}
use Rattle.automata.proofs.Tables.{Stage}
use Rattle.automata.proofs.worth.fill.Given as goal

abbrev pub invariant-loop-place : goal.invariant-loop-place
invariant-loop-place g l =
    Stage (arities_of l.ticket.forms) (nodes_of l.ticket) l.place l.roots.items
    × ((q : ℕ) → q < l.place → Line g.M.Measure.ops (g.A.Automaton.meaning l.automaton) l.scratch q (prefix_tree (arities_of l.ticket.forms) (nodes_of l.ticket) q))
    × ((i : ℕ) → l.place * (g.A.Automaton.meaning l.automaton).states ≤ i → get_or l.scratch i g.M.Measure.ops.none ≡ get_or l.initial.scratch i g.M.Measure.ops.none)
