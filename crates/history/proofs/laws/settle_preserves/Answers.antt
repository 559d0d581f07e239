use Rattle.history.proofs.Reached.{reached_exact}
use Rattle.history.proofs.Settled.{settle_enters}
use Rattle.history.proofs.EntryRuns.{settle_as_calls}
use Rattle.history.proofs.SettledWorth.{settle_preserves}
use Rattle.history.proofs.laws.settle_preserves.Goals as goal

pub returns : goal.returns
returns g c = record { reached = reached_exact; enters = settle_enters; calls = settle_as_calls; preserves = settle_preserves g.met.M.Measure.lawful }
