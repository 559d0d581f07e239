use Rattle.std.proofs.Common.{length}
use Rattle.restrictions.proofs.chain.+onward.Given as goal

abbrev pub decreases-onward : goal.decreases-onward
decreases-onward l = length l.rules.now
