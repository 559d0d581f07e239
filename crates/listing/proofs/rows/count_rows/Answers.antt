use Rattle.std.proofs.Common.{rules}
use Rattle.std.proofs.iter.runs.Sources.{ranges}
use Rattle.listing.proofs.Lines.{total_fits, total_whole}
use Rattle.listing.proofs.rows.count_rows.Goals as goal

pub sum-requires-clause-fits : goal.sum-requires-clause-fits
sum-requires-clause-fits c = search (rules, ranges, total_fits c.args.sealed.now)

pub returns : goal.returns
returns c = search (rules, ranges, total_whole c.args.sealed.now)
