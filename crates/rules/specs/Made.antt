-- What a made ladder and a made bar mean.
use Rattle.automata.specs.Automaton.{Meaning}
use Rattle.tickets.specs.Checked.{arities_of}
use Rattle.rules.specs.declared.ladder.Ladder.{Ladder}
use Rattle.rules.specs.declared.bar.Bar.{Bar}
use Rattle.rules.specs.Ladder.{ladder}
use Rattle.rules.specs.Bar.{bar}

abbrev pub ladder_of : Ladder → Meaning
ladder_of l = ladder (arities_of l.forms) l.count l.levels.now

abbrev pub bar_of : Bar → Meaning
bar_of b = bar (arities_of b.forms) b.nesting.outer b.nesting.position b.nesting.inner
