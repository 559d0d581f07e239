use Rattle.std.proofs.Common.{refl}
use Rattle.tickets.specs.Checked.{arities_of}
use Rattle.rules.specs.Soundness.{ladder_parts}
use Rattle.rules.proofs.Accepted.{ladder_exact}
use Rattle.rules.proofs.ladder.Ladder.new.Goals as goal

pub returns : goal.returns
returns c =
    let p = ladder_parts (arities_of c.args.forms) c.args.count c.args.levels.now c.requires in
    record { meaning = refl; accepts = ladder_exact (arities_of c.args.forms) c.args.levels.now c.args.count p.0 p.3 }
