use Rattle.std.proofs.lemmas.Bool.{both_ways}
use Rattle.layers.specs.Marks.{mark}
use Rattle.layers.proofs.Growing.{grows_less, productive_decided}
use Rattle.layers.proofs.collected.Collected.productive.Goals as goal

pub loop-init : goal.loop-init
loop-init g c = λ s e. absurd (both_ways _ (c.none-marks.ensures s) e)

pub loop-smaller : goal.loop-smaller
loop-smaller g c = grows_less (mark c.loop.marks) (mark c.mark_round.new.marks) c.mark_round.result c.mark_round.ensures.grows c.loop-test.true

pub returns : goal.returns
returns g c = productive_decided (g.A.Automaton.meaning c.args.self.now.below.now) (g.A.Automaton.sound c.args.self.now.below.now) (mark c.mark_round.new.marks) c.mark_round.ensures.right (c.mark_round.ensures.stuck c.loop-test.false)
