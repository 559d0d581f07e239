use Rattle.std.proofs.Common.{refl}
use Rattle.automata.proofs.Sampled.{counts_readings}
use Rattle.automata.proofs.reading_count.ReadingCount.count.Goals as goal

pub returns : goal.returns
returns c = record { value = refl; counts = counts_readings }
