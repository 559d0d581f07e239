use Rattle.std.proofs.Common.{rules}
use Rattle.automata.specs.Lawful.{same_count}
use Rattle.automata.proofs.measures.ReadingCountMeasure.times.Goals as goal

pub returns : goal.returns
returns c = same_count _ _ (search rules)
