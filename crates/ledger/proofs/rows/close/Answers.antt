use Rattle.std.proofs.Common.{arith}
use Rattle.ledger.proofs.Moves.{closed_from}
use Rattle.ledger.proofs.rows.close.Goals as goal

pub returns : goal.returns
returns c =
    let moved = c.copy_within.ensures.by_index in
    closed_from c.args.rows.now c.copy_within.new.self c.args.at c.args.end (omega arith) (omega arith) c.copy_within.ensures.len moved.0 moved.1 moved.2
