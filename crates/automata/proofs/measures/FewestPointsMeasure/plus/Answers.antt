use Rattle.std.proofs.Common.{rules}
use Rattle.automata.specs.Lawful.{same_points}
use Rattle.automata.proofs.measures.FewestPointsMeasure.plus.Goals as goal

pub returns : goal.returns
returns c = same_points _ _ (search rules)
