use Rattle.std.proofs.Common.{refl}
use Rattle.automata.proofs.Sampled.{fewest_of_readings}
use Rattle.automata.proofs.fewest_points.FewestPoints.points.Goals as goal

pub returns : goal.returns
returns c = record { value = refl; fewest = fewest_of_readings }
